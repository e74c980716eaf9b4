-- How the mutators and the words stand to the graph and the book between two epochs.
use Rattle.std.specs.Prelude.{◌≡◌, ◌≢◌, ℕ, ◌<◌, ◌⊎◌, Bool, true, List, [], ◌∷◌, map}
use Rattle.std.specs.List.{AllByRecursion}
use Rattle.sg_words.specs.Address.{byte_at}
use Rattle.sg_words.specs.Words.{Words}
use Rattle.sg_program.specs.declared.program.Statement.{Statement}
use Rattle.sg_program.specs.declared.program.Program.{Program}
use Rattle.sg_program.specs.Scripts.{words_for}
use Rattle.sg_program.specs.Kinds.{Kind, IsRef, IsInt, IsInner, Kinds}
use Rattle.sg_program.specs.Invariants.{FindKinds}
use Rattle.sg_graph.specs.Graph.{Entry, Ref, Int, Inner, Mutator, Graph}
use Rattle.sg_graph.specs.Book.{Book, word_of}
use Rattle.sg_words.specs.Lists.{Pairwise}
use Rattle.sg_graph.specs.Invariants.{IsPlain}
use Rattle.sg_graph.specs.Heap.{Owner, IsHeap}
use Rattle.sg_graph.specs.Blocks.{AreSettled}
use Rattle.sg_rules.specs.Rules.{Constants, StackWord, Actor, Mid, Idle, Left, Yielded, Roam, SeeBlock, Retired}
use Rattle.sg_rules.specs.Resting.{IsRunnable}

abbrev pub kind_of_entry : Entry → Kind
kind_of_entry (Ref n) = IsRef
kind_of_entry (Int v) = IsInt
kind_of_entry (Inner n offset) = IsInner

-- the kinds of what a mutator holds
abbrev pub kinds_in : Mutator → Kinds
kinds_in m = record { register = λ r. kind_of_entry (m.register r); stack = map kind_of_entry m.stack }

-- what an entry refers to stands; an address inside an object has this offset beside it and is one of the object's bytes, and
-- where it holds no object the offset is 0
abbrev pub StandsAt : Graph → Book → ℕ → Entry → Type 0
StandsAt g b offset (Ref n) = b.stands n ≡ true
StandsAt g b offset (Int v) = Unit {0}
StandsAt g b offset (Inner n o) = (b.stands n ≡ true) × (offset ≡ o) × (((n ≡ 0) × (o ≡ 0)) ⊎ ((n ≢ 0) × (o < byte_at (words_for (g.size n)))))

-- the word and the offset are those of the entry, and what it refers to stands
pub record Holds (g : Graph) (b : Book) (word offset : ℕ) (entry : Entry) : Type 0 where
  pub word_is : word ≡ word_of b.address entry
  pub stands : StandsAt g b offset entry

-- mutator k between two statements, with these before it: its registers and its stack hold what the graph says, and what they
-- refer to stands; it has ended only where no statement is left; its buffer is the book's; the kinds of its operands are right,
-- and its statements are run now
pub record IsReady (p : Program) (g : Graph) (b : Book) (k : ℕ) (a : Actor) (script : List Statement) : Type 0 where
  pub regs : (r : ℕ) → Holds g b (a.reg r) (a.offset r) ((g.mutator k).register r)
  pub stack : Pairwise (λ (slot : StackWord) (entry : Entry). Holds g b slot.word slot.offset entry) a.stack (g.mutator k).stack
  pub script_is : (g.mutator k).script ≡ script
  pub asleep : (g.mutator k).ended ≡ true → script ≡ []
  pub from_is : a.from ≡ b.from k
  pub to_is : a.to ≡ b.to k
  pub kinds : FindKinds (kinds_in (g.mutator k)) script
  pub runnable : AllByRecursion (IsRunnable p) script

-- the words hold the graph, blocks and cards are as they are between two phases, the fragments are the book's, and the marks are the constants'
pub record IsHeld (p : Program) (lay : Constants) (w : Words) (g : Graph) (b : Book) : Type 0 where
  pub owner : ℕ → Owner
  pub heap : IsHeap p w.word g b owner
  pub settled : AreSettled p w g b owner
  pub plain : IsPlain p g
  pub number : b.fragments ≡ lay.fragments
  pub limits : (f : ℕ) → f < b.fragments → b.limit f ≡ lay.limit f
  pub nexts : (f : ℕ) → f < b.fragments → w.next f ≡ byte_at (b.next f)
  pub marks : w.marks ≡ lay.marks

-- the actor is between two statements, or it is the sweeper, before its first turn
abbrev pub IsFirst : Mid → Type 0
IsFirst mid = (mid ≡ Idle) ⊎ (mid ≡ SeeBlock Roam true 0)

-- how an epoch opens: no mutator has an answer in it yet
pub record IsEpochOpening (p : Program) (lay : Constants) (w : Words) (g : Graph) (b : Book) (actors : ℕ → Actor) : Type 0 where
  pub held : IsHeld p lay w g b
  pub ready : (k : ℕ) → IsReady p g b k (actors k) (actors k).script
  pub idle : (k : ℕ) → IsFirst (actors k).mid
  pub going : w.stop ≡ 0
  pub untold : (k : ℕ) → (actors k).told ≡ []

-- the statements that a mutator has before it: one that has left has the statement with which it left
abbrev pub before_it : Mid → List Statement → List Statement
before_it (Left s) script = s ∷ script
before_it mid script = script

-- the sweeper has ended, or is in no block
abbrev pub IsAside : Mid → Type 0
IsAside mid = (mid ≡ Retired) ⊎ ((begins : Bool) × (c : ℕ) × (mid ≡ SeeBlock Roam begins c))

-- the mutator is between two statements, or has left with one or without; or it is the sweeper, which is in no block
abbrev pub IsOver : Mid → Type 0
IsOver mid = (mid ≡ Idle) ⊎ (((s : Statement) × (mid ≡ Left s)) ⊎ ((mid ≡ Yielded) ⊎ IsAside mid))

-- and so are all
abbrev pub AreOver : (ℕ → Actor) → Type 0
AreOver actors = (k : ℕ) → IsOver (actors k).mid

-- some mutator has left with a statement, and waits for its answer
abbrev pub IsWanted : (ℕ → Actor) → Type 0
IsWanted actors = (k : ℕ) × (s : Statement) × ((actors k).mid ≡ Left s)
