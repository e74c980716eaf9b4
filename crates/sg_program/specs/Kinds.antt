-- The kinds of what registers and stacks hold, by the script alone.
use Rattle.std.specs.Prelude.{◌≡◌, ℕ, suc, ◌+◌, ◌<◌, Some, List, [], ◌∷◌, length, slice_get}
use Rattle.sg_words.specs.Words.{put}
use Rattle.sg_program.specs.declared.program.Statement.{Statement}
use Rattle.sg_program.specs.declared.program.Statement.TheVariants.{New, NewV, Mature, Put, Get, PutD, GetD, Num, Move, Hide, Unhide, Drop, Push, Pop, GPut, GGet, WSet, WGet, Final, NextFin, Same, Collect, Sections}
use Rattle.sg_program.specs.declared.program.Item.{Item, out-Item}
use Rattle.sg_program.specs.declared.program.Item.TheOpen.{One, Repeat}
use Rattle.sg_program.specs.declared.program.Script.{Script}
use Rattle.sg_program.specs.declared.program.Program.{Program}
use Rattle.sg_program.specs.Scripts.{written}

-- a register or a place of the stack holds an object or none, or a number, or an address inside an object or none
pub data Kind : Type 0 where
  IsRef : Kind
  IsInt : Kind
  IsInner : Kind

-- the kinds of a mutator's registers and of its stack, whose top stands first
pub record Kinds : Type 0 where
  pub register : ℕ → Kind
  pub stack : List Kind

-- all registers begin without an object, and the stack is empty
abbrev pub first_kinds : Kinds
first_kinds = record { register = λ _. IsRef; stack = [] }

-- the most words on a stack
abbrev pub stack_limit : ℕ
stack_limit = 64

-- the kinds that a statement needs
abbrev pub Needs : Kinds → Statement → Type 0
Needs k (Put r field s) = (k.register r ≡ IsRef) × (k.register s ≡ IsRef)
Needs k (Get d r field) = k.register r ≡ IsRef
Needs k (PutD r field s) = (k.register r ≡ IsRef) × (k.register s ≡ IsInt)
Needs k (GetD d r field) = k.register r ≡ IsRef
Needs k (Hide d s offset) = k.register s ≡ IsRef
Needs k (Unhide d s) = k.register s ≡ IsInner
Needs k (Push r) = length k.stack < stack_limit
Needs k (Pop r) = 0 < length k.stack
Needs k (GPut g r) = k.register r ≡ IsRef
Needs k (WSet w r long) = k.register r ≡ IsRef
Needs k (Final r) = k.register r ≡ IsRef
Needs k (Same r s) = (k.register r ≡ IsRef) × (k.register s ≡ IsRef)
Needs k s = Unit {0}

-- register r becomes of this kind
abbrev pub sets : Kinds → ℕ → Kind → Kinds
sets k r kind = record k { register = put k.register r kind }

-- register r gets the top of the stack; nothing changes where there is none
abbrev pub pops : Kinds → ℕ → List Kind → Kinds
pops k r [] = k
pops k r (kind ∷ stack) = record { register = put k.register r kind; stack = stack }

-- the kinds after a statement
abbrev pub kinds_after : Kinds → Statement → Kinds
kinds_after k (New r class) = sets k r IsRef
kinds_after k (NewV r class count) = sets k r IsRef
kinds_after k (Mature r class) = sets k r IsRef
kinds_after k (Put r field s) = k
kinds_after k (Get d r field) = sets k d IsRef
kinds_after k (PutD r field s) = k
kinds_after k (GetD d r field) = sets k d IsInt
kinds_after k (Num d n) = sets k d IsInt
kinds_after k (Move d s) = sets k d (k.register s)
kinds_after k (Hide d s offset) = sets k d IsInner
kinds_after k (Unhide d s) = sets k d IsRef
kinds_after k (Drop r) = sets k r IsRef
kinds_after k (Push r) = record k { stack = k.register r ∷ k.stack }
kinds_after k (Pop r) = pops k r k.stack
kinds_after k (GPut g r) = k
kinds_after k (GGet r g) = sets k r IsRef
kinds_after k (WSet w r long) = k
kinds_after k (WGet r w) = sets k r IsRef
kinds_after k (Final r) = k
kinds_after k (NextFin r) = sets k r IsRef
kinds_after k (Same r s) = k
kinds_after k (Collect major) = k
kinds_after k Sections = k

-- the same kinds in all 16 registers, and the same stack
pub record AreSame (k j : Kinds) : Type 0 where
  pub registers : (r : ℕ) → r < 16 → k.register r ≡ j.register r
  pub stack : k.stack ≡ j.stack

-- Without misuse the items lead from these kinds to those. The body of a repeat is looked at once: it ends with the kinds with
-- which it began.
pub data Leads : Kinds → List Item → Kinds → Type 0 where
  Done : (k : Kinds) → Leads k [] k
  Does : (k : Kinds) (item : Item) (s : Statement) (rest : List Item) (j : Kinds) →
      out-Item item ≡ One s → Needs k s → Leads (kinds_after k s) rest j → Leads k (item ∷ rest) j
  Repeats : (k : Kinds) (item : Item) (times : ℕ) (body : List Item) (i : Kinds) (rest : List Item) (j : Kinds) →
      out-Item item ≡ Repeat times body → Leads k body i → AreSame k i → Leads i rest j → Leads k (item ∷ rest) j

-- The first misuse, of items that begin with these kinds, is at the statement with this number: at one that finds an operand of
-- another kind than it needs, a full stack or an empty one, or at the last statement of a body that ends with other kinds.
-- Statements are numbered in the order in which they are written.
pub data Misuses : Kinds → List Item → ℕ → Type 0 where
  Here : (k : Kinds) (item : Item) (s : Statement) (rest : List Item) →
      out-Item item ≡ One s → ¬ Needs k s → Misuses k (item ∷ rest) 0
  Behind : (k : Kinds) (item : Item) (s : Statement) (rest : List Item) (n : ℕ) →
      out-Item item ≡ One s → Needs k s → Misuses (kinds_after k s) rest n → Misuses k (item ∷ rest) (suc n)
  Inside : (k : Kinds) (item : Item) (times : ℕ) (body rest : List Item) (n : ℕ) →
      out-Item item ≡ Repeat times body → Misuses k body n → Misuses k (item ∷ rest) n
  AtItsEnd : (k : Kinds) (item : Item) (times : ℕ) (body : List Item) (i : Kinds) (rest : List Item) (n : ℕ) →
      out-Item item ≡ Repeat times body → Leads k body i → ¬ AreSame k i → suc n ≡ length (written body) → Misuses k (item ∷ rest) n
  BehindIt : (k : Kinds) (item : Item) (times : ℕ) (body : List Item) (i : Kinds) (rest : List Item) (n : ℕ) →
      out-Item item ≡ Repeat times body → Leads k body i → AreSame k i → Misuses i rest n → Misuses k (item ∷ rest) (length (written body) + n)

-- the items are without misuse
abbrev pub HasNoMisuse : List Item → Type 0
HasNoMisuse items = (k : Kinds) × Leads first_kinds items k

-- the first misuse of a program is in this mutator's script, at the statement with this number
pub record IsFirstMisuse (p : Program) (mutator statement : ℕ) : Type 0 where
  pub script : Script
  pub there : slice_get p.mutators mutator ≡ Some script
  pub misuse : Misuses first_kinds script.items statement
  pub before : (k : ℕ) (other : Script) → k < mutator → slice_get p.mutators k ≡ Some other → HasNoMisuse other.items
