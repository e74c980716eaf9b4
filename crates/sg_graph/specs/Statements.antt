-- What each statement does to the heap of named objects, by its answer.
use Rattle.std.specs.Prelude.{◌≡◌, ◌≢◌, ℕ, suc, ◌*◌, ◌<◌, ◌≤◌, true, false, Some, List, [], ◌∷◌, ◌++◌}
use Rattle.sg_words.specs.Words.{put}
use Rattle.sg_program.specs.declared.program.Statement.{Statement}
use Rattle.sg_program.specs.declared.program.Statement.TheVariants.{New, NewV, Mature, Put, Get, PutD, GetD, Num, Move, Hide, Unhide, Drop, Push, Pop, GPut, GGet, WSet, WGet, Final, NextFin, Same, Collect, Sections}
use Rattle.sg_program.specs.declared.program.Program.{Program}
use Rattle.sg_program.specs.declared.answers.Answer.{Answer}
use Rattle.sg_program.specs.declared.answers.Answer.TheVariants.{At, Nil, Null, Number, Fine, Yes, No, Field, Full}
use Rattle.sg_desc.specs.Shapes.{has_field}
use Rattle.sg_program.specs.Scripts.{kind_of, fields_of, words_for}
use Rattle.sg_program.specs.Tests.{Test, test_of}
use Rattle.sg_graph.specs.Graph.{Entry, Ref, Int, Inner, Mutator, Graph, grown, stored, advanced}

-- the tested register holds no object
pub record FindsNone (m : Mutator) (s : Statement) : Type 0 where
  pub test : Test
  pub tests : test_of s ≡ Some test
  pub holds : m.register test.register ≡ Ref 0

-- the tested register holds an object that has no such field
pub record Misses (p : Program) (g : Graph) (m : Mutator) (s : Statement) : Type 0 where
  pub test : Test
  pub tests : test_of s ≡ Some test
  pub name : ℕ
  pub holds : m.register test.register ≡ Ref name
  pub some : name ≢ 0
  pub misses : has_field test.sort (kind_of p (g.class name)) (g.size name) test.field ≡ false

-- the tested register holds the object with this name, and that has such a field
pub record Finds (p : Program) (g : Graph) (m : Mutator) (s : Statement) (name : ℕ) : Type 0 where
  pub test : Test
  pub tests : test_of s ≡ Some test
  pub holds : m.register test.register ≡ Ref name
  pub some : name ≢ 0
  pub finds : has_field test.sort (kind_of p (g.class name)) (g.size name) test.field ≡ true

-- the register holds the object with this name, or none where it is 0
abbrev pub HoldsName : Mutator → ℕ → ℕ → Type 0
HoldsName m r name = m.register r ≡ Ref name

-- When a statement of mutator m gets an answer, in which a name stands for an address. No other answer is given.
abbrev pub Answers : Program → Graph → Mutator → Statement → Answer → Type 0
-- a new object, or no room for it
Answers p g m (New r class) (At name) = name ≡ suc g.count
Answers p g m (New r class) Full = Unit {0}
Answers p g m (NewV r class count) (At name) = name ≡ suc g.count
Answers p g m (NewV r class count) Full = Unit {0}
Answers p g m (Mature r class) (At name) = name ≡ suc g.count
Answers p g m (Mature r class) Full = Unit {0}
-- stores and loads
Answers p g m (Put r i s) Fine = (name : ℕ) × (target : ℕ) × Finds p g m (Put r i s) name × HoldsName m s target
Answers p g m (PutD r i s) Fine = (name : ℕ) × (n : ℕ) × Finds p g m (PutD r i s) name × (m.register s ≡ Int n)
Answers p g m (Get d r i) (At target) = (name : ℕ) × Finds p g m (Get d r i) name × (g.field name i ≡ Ref target) × (target ≢ 0)
Answers p g m (Get d r i) Nil = (name : ℕ) × Finds p g m (Get d r i) name × (g.field name i ≡ Ref 0)
Answers p g m (GetD d r i) (Number n) = (name : ℕ) × Finds p g m (GetD d r i) name × (g.field name i ≡ Int n)
-- registers and stacks
Answers p g m (Num d n) Fine = Unit {0}
Answers p g m (Move d s) Fine = Unit {0}
Answers p g m (Drop r) Fine = Unit {0}
Answers p g m (Push r) Fine = Unit {0}
Answers p g m (Pop r) Fine = m.stack ≢ []
-- an address inside an object, at a byte that is the object's or isn't; and back
Answers p g m (Hide d s offset) Fine = (name : ℕ) × HoldsName m s name × (name ≢ 0) × (offset < 8 * words_for (g.size name))
Answers p g m (Hide d s offset) Field = (name : ℕ) × HoldsName m s name × (name ≢ 0) × (8 * words_for (g.size name) ≤ offset)
Answers p g m (Hide d s offset) Null = HoldsName m s 0
Answers p g m (Unhide d s) (At name) = (offset : ℕ) × (m.register s ≡ Inner name offset) × (name ≢ 0)
Answers p g m (Unhide d s) Nil = (offset : ℕ) × (m.register s ≡ Inner 0 offset)
-- globals
Answers p g m (GPut x r) Fine = (name : ℕ) × HoldsName m r name
Answers p g m (GGet r x) (At name) = (g.global x ≡ name) × (name ≢ 0)
Answers p g m (GGet r x) Nil = g.global x ≡ 0
-- weak links
Answers p g m (WSet w r long) Fine = (name : ℕ) × HoldsName m r name
Answers p g m (WGet r w) (At name) = ((g.link w).target ≡ name) × (name ≢ 0)
Answers p g m (WGet r w) Nil = (g.link w).target ≡ 0
-- finalization
Answers p g m (Final r) Fine = (name : ℕ) × HoldsName m r name × (name ≢ 0)
Answers p g m (Final r) Null = HoldsName m r 0
Answers p g m (NextFin r) (At name) = (ready : List ℕ) × (g.ready ≡ name ∷ ready)
Answers p g m (NextFin r) Nil = g.ready ≡ []
-- comparing
Answers p g m (Same r s) Yes = (name : ℕ) × HoldsName m r name × HoldsName m s name
Answers p g m (Same r s) No = (name other : ℕ) × HoldsName m r name × HoldsName m s other × (name ≢ other)
-- what a stop answers
Answers p g m (Collect major) Fine = Unit {0}
Answers p g m Sections Fine = Unit {0}
-- a failed object test
Answers p g m s Null = FindsNone m s
Answers p g m s Field = Misses p g m s
Answers p g m s answer = ⊥

-- the object that a register's entry holds, or 0 where it holds none
abbrev pub name_in : Entry → ℕ
name_in (Ref name) = name
name_in (Int number) = 0
name_in (Inner name offset) = name

-- register r of the mutator holds this
abbrev pub setting : Mutator → ℕ → Entry → Mutator
setting m r entry = record m { register = put m.register r entry }

-- register r gets the top of the stack
abbrev pub popped : Mutator → ℕ → List Entry → Mutator
popped m r [] = m
popped m r (top ∷ stack) = record m { register = put m.register r top; stack = stack }

-- What mutator m has in its hands after a statement with this answer, but for its script: most statements set one register.
abbrev pub hands_after : Mutator → Statement → Answer → Mutator
hands_after m (New r class) (At name) = setting m r (Ref name)
hands_after m (New r class) answer = setting m r (Ref 0)
hands_after m (NewV r class count) (At name) = setting m r (Ref name)
hands_after m (NewV r class count) answer = setting m r (Ref 0)
hands_after m (Mature r class) (At name) = setting m r (Ref name)
hands_after m (Mature r class) answer = setting m r (Ref 0)
hands_after m (Get d r i) (At target) = setting m d (Ref target)
hands_after m (Get d r i) answer = setting m d (Ref 0)
hands_after m (GetD d r i) (Number n) = setting m d (Int n)
hands_after m (GetD d r i) answer = setting m d (Int 0)
hands_after m (Num d n) answer = setting m d (Int n)
hands_after m (Move d s) answer = setting m d (m.register s)
hands_after m (Hide d s offset) Fine = setting m d (Inner (name_in (m.register s)) offset)
hands_after m (Hide d s offset) answer = setting m d (Inner 0 0)
hands_after m (Unhide d s) (At name) = setting m d (Ref name)
hands_after m (Unhide d s) answer = setting m d (Ref 0)
hands_after m (Drop r) answer = setting m r (Ref 0)
hands_after m (Push r) answer = record m { stack = m.register r ∷ m.stack }
hands_after m (Pop r) answer = popped m r m.stack
hands_after m (GGet r x) (At name) = setting m r (Ref name)
hands_after m (GGet r x) answer = setting m r (Ref 0)
hands_after m (WGet r w) (At name) = setting m r (Ref name)
hands_after m (WGet r w) answer = setting m r (Ref 0)
hands_after m (Final r) Fine = record m { registered = m.registered ++ name_in (m.register r) ∷ [] }
hands_after m (NextFin r) (At name) = setting m r (Ref name)
hands_after m (NextFin r) answer = setting m r (Ref 0)
hands_after m s answer = m

-- the row without its oldest entry
abbrev pub without_first : List ℕ → List ℕ
without_first [] = []
without_first (name ∷ ready) = ready

-- What a statement of mutator k, which is m, with this answer leaves of the heap: a new object with empty fields, a field, a
-- global, a link or the ready row. What isn't named stays.
abbrev pub heap_after : Program → Graph → ℕ → Mutator → Statement → Answer → Graph
heap_after p g k m (New r class) (At name) = grown p g k class (fields_of p class)
heap_after p g k m (NewV r class count) (At name) = grown p g k class count
heap_after p g k m (Mature r class) (At name) = grown p g k class (fields_of p class)
heap_after p g k m (Put r i s) Fine = stored g (name_in (m.register r)) i (m.register s)
heap_after p g k m (PutD r i s) Fine = stored g (name_in (m.register r)) i (m.register s)
heap_after p g k m (GPut x r) Fine = record g { global = put g.global x (name_in (m.register r)) }
heap_after p g k m (WSet w r long) Fine = record g { link = put g.link w (record { target = name_in (m.register r); long = long }) }
heap_after p g k m (NextFin r) (At name) = record g { ready = without_first g.ready }
heap_after p g k m s answer = g

-- In g mutator k, which is m, does statement s with these before it then, and gets this answer; h is the graph then.
abbrev pub Does : Program → Graph → ℕ → Mutator → Statement → List Statement → Answer → Graph → Type 0
Does p g k m s rest answer h = Answers p g m s answer × (h ≡ advanced (heap_after p g k m s answer) k (hands_after m s answer) rest)
