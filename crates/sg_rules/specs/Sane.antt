-- What is true of a mutator by itself, whatever stands in the words: what its code rests on, as that its registers hold addresses in
-- range where the next step goes by them.
use Rattle.std.specs.Int.{bit_at}
use Rattle.std.specs.Prelude.{◌≡◌, ◌≢◌, ℕ, ◌+◌, ◌-◌, ◌*◌, ◌<◌, ◌≤◌, Some, List, ◌∷◌, length}
use Rattle.sg_words.specs.Sections.{nursery_base, old_base, large_base}
use Rattle.sg_words.specs.Blocks.{IsSizeClass, slots}
use Rattle.sg_program.specs.declared.program.Statement.{Statement}
use Rattle.sg_program.specs.declared.program.Statement.TheVariants.{New, NewV, Put, Get, PutD, GetD, Hide, Unhide, Push, Pop}
use Rattle.sg_program.specs.declared.program.Program.{Program}
use Rattle.sg_program.specs.Scripts.{IsMaking, IsMature, MakesObject, made_words, made_slot}
use Rattle.sg_program.specs.Tests.{Test, test_of}
use Rattle.sg_rules.specs.Rules.{Constants, Mid, Idle, TestTag, TestLength, Access, MarkCard, AccessGlobal, Look, Claim, StoreLength, StoreTag, HideLength, Ask, Left, Yielded}
use Rattle.sg_rules.specs.Rules.{Task, Search, Roam, SeeBlock, TakeBlock, SeeUsed, TakeSlot, TakeOver, StoreOccupancy, ClearSlots, ClearWords, Retired}
use Rattle.sg_rules.specs.Rules.{Actor, sections_of, IsInHeap, IsReference, IsGlobal, MaySee, object_in}
use Rattle.sg_rules.specs.Resting.{IsRunnable}

-- the mutator's buffer lies in the nursery
abbrev pub HasBuffer : Program → Actor → Type 0
HasBuffer p a = a.from < a.to → (nursery_base ≤ a.from) × (a.to ≤ old_base (sections_of p))

-- register r holds an address at some bytes behind that of an object, or none
abbrev pub HoldsInner : Program → Actor → ℕ → Type 0
HoldsInner p a r = a.reg r ≢ 0 → (a.offset r ≤ a.reg r) × IsInHeap p (a.reg r - a.offset r)

-- what a statement rests on, beside that it is run
abbrev pub RestsOn : Program → Actor → Statement → Type 0
RestsOn p a (New r class) = HasBuffer p a
RestsOn p a (NewV r class count) = HasBuffer p a
RestsOn p a (Put r i s) = IsReference p (a.reg r)
RestsOn p a (Get d r i) = IsReference p (a.reg r)
RestsOn p a (PutD r i s) = IsReference p (a.reg r)
RestsOn p a (GetD d r i) = IsReference p (a.reg r)
RestsOn p a (Hide d s offset) = IsReference p (a.reg s)
RestsOn p a (Unhide d s) = HoldsInner p a s
RestsOn p a (Push r) = length a.stack < 64
RestsOn p a (Pop r) = 0 < length a.stack
RestsOn p a s = Unit {0}

-- the mutator may begin this statement
pub record MayBegin (p : Program) (a : Actor) (s : Statement) : Type 0 where
  pub runnable : IsRunnable p s
  pub rests : RestsOn p a s

-- it is in the midst of a statement that tests an object, and holds one there
pub record IsTesting (p : Program) (a : Actor) (s : Statement) (test : Test) : Type 0 where
  pub runnable : IsRunnable p s
  pub tests : test_of s ≡ Some test
  pub object : IsInHeap p (a.reg test.register)

-- the object has the field, and the field's word is one of the heap
pub record IsAccessing (p : Program) (a : Actor) (s : Statement) : Type 0 where
  pub test : Test
  pub testing : IsTesting p a s test
  pub inside : object_in a test.register + 2 + test.field < large_base (sections_of p)

-- there is such a card: each stands for 64 words of blocks and pages
abbrev pub IsCard : Program → ℕ → Type 0
IsCard p card = card < 4 * p.config.blocks + 2 * p.config.pages

-- it makes an object
pub record IsMaker (p : Program) (s : Statement) : Type 0 where
  pub runnable : IsRunnable p s
  pub makes : IsMaking s

-- the exchange of a fragment's next word leaves room for the object
pub record IsClaiming (p : Program) (lay : Constants) (s : Statement) (f seen : ℕ) : Type 0 where
  pub maker : IsMaker p s
  pub there : f < lay.fragments
  pub from : nursery_base ≤ seen
  pub room : seen + made_words p s ≤ lay.limit f
  pub inside : lay.limit f ≤ old_base (sections_of p)

-- the new object has its place, in the nursery or in the major heap
pub record IsHeading (p : Program) (s : Statement) (x : ℕ) : Type 0 where
  pub runnable : IsRunnable p s
  pub makes : MakesObject s
  pub from : nursery_base ≤ x
  pub inside : x + made_words p s ≤ large_base (sections_of p)

-- it looks for a slot of block c, for an object that it makes
pub record IsSearching (p : Program) (s : Statement) (c : ℕ) : Type 0 where
  pub runnable : IsRunnable p s
  pub makes : IsMature s
  pub there : c < p.config.blocks

-- a search for a statement that is run, or the sweeper, is at this block
abbrev pub IsOnTask : Program → Task → ℕ → Type 0
IsOnTask p (Search s) c = IsSearching p s c
IsOnTask p Roam c = c < p.config.blocks

-- it sweeps block c, of slots of z words, or is about to take that over
pub record IsSweeping (p : Program) (t : Task) (c z : ℕ) : Type 0 where
  pub task : IsOnTask p t c
  pub there : c < p.config.blocks
  pub class : IsSizeClass z

-- it zeroes slot i, which isn't marked, from word f on
pub record IsClearing (p : Program) (lay : Constants) (t : Task) (c z i f : ℕ) : Type 0 where
  pub sweeping : IsSweeping p t c z
  pub fits : i < slots z
  pub word : f < z
  pub unmarked : bit_at (lay.marks c) i ≡ 0

abbrev pub IsSaneAt : Program → Constants → Actor → Mid → Type 0
IsSaneAt p lay a Idle = (s : Statement) (rest : List Statement) → a.script ≡ s ∷ rest → MayBegin p a s
IsSaneAt p lay a (TestTag s test) = IsTesting p a s test
IsSaneAt p lay a (TestLength s test class) = IsTesting p a s test × (class < length p.classes)
IsSaneAt p lay a (Access s) = IsAccessing p a s
IsSaneAt p lay a (MarkCard s card) = IsCard p card
IsSaneAt p lay a (AccessGlobal s) = IsRunnable p s × IsGlobal s
IsSaneAt p lay a (Look s f) = IsMaker p s × (f < lay.fragments)
IsSaneAt p lay a (Claim s f seen) = IsClaiming p lay s f seen
IsSaneAt p lay a (StoreLength s x) = IsHeading p s x
IsSaneAt p lay a (StoreTag s x) = IsHeading p s x
IsSaneAt p lay a (HideLength d s offset) = IsInHeap p (a.reg s)
IsSaneAt p lay a (SeeBlock t begins c) = MaySee t begins → IsOnTask p t c
IsSaneAt p lay a (TakeBlock s c) = IsSearching p s c
IsSaneAt p lay a (SeeUsed s c) = IsSearching p s c
IsSaneAt p lay a (TakeSlot s c i) = IsSearching p s c × (i < slots (made_slot p s))
IsSaneAt p lay a (TakeOver t c z) = IsSweeping p t c z
IsSaneAt p lay a (StoreOccupancy t c z) = IsSweeping p t c z
IsSaneAt p lay a (ClearSlots t c z i) = IsSweeping p t c z
IsSaneAt p lay a (ClearWords t c z i f) = IsClearing p lay t c z i f
IsSaneAt p lay a (Ask s) = Unit {0}
IsSaneAt p lay a (Left s) = Unit {0}
IsSaneAt p lay a Yielded = Unit {0}
IsSaneAt p lay a Retired = Unit {0}

-- what is true of a mutator by itself, by where it stands
abbrev pub IsSane : Program → Constants → Actor → Type 0
IsSane p lay a = IsSaneAt p lay a a.mid
