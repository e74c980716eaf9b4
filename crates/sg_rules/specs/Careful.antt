-- What the rules of blocks keep: a sweep is whole, it is made by who took it over, and a slot is claimed in a block alone that was seen swept.
use Rattle.std.specs.Prelude.{◌≡◌, ◌≢◌, ℕ, ◌+◌, ◌<◌, ◌≤◌, Bool, true, List, [], ◌∷◌, ◌++◌}
use Rattle.std.specs.Int.{bit_at}
use Rattle.sg_words.specs.Blocks.{slots}
use Rattle.sg_words.specs.Sweeps.{swept_word}
use Rattle.sg_words.specs.Words.{Words, replayed}
use Rattle.sg_words.specs.declared.steps.Step.{Step}
use Rattle.sg_words.specs.declared.steps.Step.TheVariants.{OnBlock}
use Rattle.sg_words.specs.declared.steps.BlockStep.{BlockStep}
use Rattle.sg_words.specs.declared.steps.BlockStep.TheVariants.{LoadBlock, WonBlock, StoreBlock, OrUsed, StoreUsed, Zero}
use Rattle.sg_words.specs.declared.steps.BlockWord.TheVariants.{Swept, Need, Sweeping}
use Rattle.sg_program.specs.declared.program.Statement.{Statement}
use Rattle.sg_program.specs.declared.program.Program.{Program}
use Rattle.sg_program.specs.Scripts.{made_slot}
use Rattle.sg_rules.specs.Rules.{Constants, Task, Mid, SeeBlock, SeeUsed, TakeSlot, StoreOccupancy, ClearSlots, ClearWords, Actor, slot_front, NextStep}
use Rattle.sg_rules.specs.Acting.{IsTurn}

-- x is a word of a slot of z words of block c, and the slot isn't marked
pub record IsUnmarkedWord (p : Program) (lay : Constants) (c z x : ℕ) : Type 0 where
  pub slot : ℕ
  pub fits : slot < slots z
  pub unmarked : bit_at (lay.marks c) slot ≡ 0
  pub from : slot_front p c z slot ≤ x
  pub to : x < slot_front p c z slot + z

-- These steps sweep block c, of slots of z words, whole, whatever the words are: the last one makes the block swept, or free where nothing is marked; by
-- then its occupancy is its marks, each word of its unmarked slots is zero, and nothing else has changed.
pub record IsWholeSweep (p : Program) (lay : Constants) (c z : ℕ) (steps : List Step) : Type 0 where
  pub before : List Step
  pub last : steps ≡ before ++ OnBlock (StoreBlock c (swept_word (Need z) (lay.marks c))) ∷ []
  pub occupied : (w : Words) → (replayed w before).used c ≡ lay.marks c
  pub zero : (w : Words) (x : ℕ) → IsUnmarkedWord p lay c z x → (replayed w before).word x ≡ 0
  pub kept : (w : Words) (x : ℕ) → (IsUnmarkedWord p lay c z x → ⊥) → (replayed w before).word x ≡ w.word x
  pub block : (w : Words) → (replayed w before).block ≡ w.block
  pub others : (w : Words) (d : ℕ) → d ≢ c → (replayed w before).used d ≡ w.used d

-- the stores of a sweep
abbrev pub IsOfSweepOn : BlockStep → Type 0
IsOfSweepOn (StoreBlock c new) = Unit {0}
IsOfSweepOn (StoreUsed c new) = Unit {0}
IsOfSweepOn (Zero x) = Unit {0}
IsOfSweepOn step = ⊥

abbrev pub IsOfSweep : Step → Type 0
IsOfSweep (OnBlock step) = IsOfSweepOn step
IsOfSweep step = ⊥

-- the points of the sweep of a block
abbrev pub IsSweepPoint : Mid → Type 0
IsSweepPoint (StoreOccupancy t c z) = Unit {0}
IsSweepPoint (ClearSlots t c z i) = Unit {0}
IsSweepPoint (ClearWords t c z i f) = Unit {0}
IsSweepPoint mid = ⊥

-- A sweep is one turn, which is whole; who begins one has won the exchange that takes it over; the stores of sweeps are made nowhere else. A slot's bit is
-- set by its claim alone; and who is about to claim one has looked at the occupancy of a block that it saw swept, with slots for its object.
pub record StepsAreCareful : Type 0 where
  pub sweeps : (p : Program) (lay : Constants) (a b : Actor) (steps : List Step) (t : Task) (c z : ℕ) → a.mid ≡ StoreOccupancy t c z → IsTurn p lay a steps b →
      IsWholeSweep p lay c z steps × (b.mid ≡ SeeBlock t true c)
  pub taken_over : (p : Program) (lay : Constants) (a b : Actor) (step : Step) (decides : Bool) (t : Task) (c z : ℕ) → NextStep p lay a step decides b →
      b.mid ≡ StoreOccupancy t c z → step ≡ OnBlock (WonBlock c (Need z) (Sweeping z))
  pub in_sweeps : (p : Program) (lay : Constants) (a b : Actor) (step : Step) (decides : Bool) → NextStep p lay a step decides b → IsOfSweep step →
      IsSweepPoint a.mid
  pub claimed : (p : Program) (lay : Constants) (a b : Actor) (decides : Bool) (c i found : ℕ) → NextStep p lay a (OnBlock (OrUsed c i found)) decides b →
      (s : Statement) × (a.mid ≡ TakeSlot s c i)
  pub looked : (p : Program) (lay : Constants) (a b : Actor) (step : Step) (decides : Bool) (s : Statement) (c i : ℕ) → NextStep p lay a step decides b →
      b.mid ≡ TakeSlot s c i → a.mid ≡ SeeUsed s c
  pub swept : (p : Program) (lay : Constants) (a b : Actor) (step : Step) (decides : Bool) (s : Statement) (c : ℕ) → NextStep p lay a step decides b →
      b.mid ≡ SeeUsed s c → step ≡ OnBlock (LoadBlock c (Swept (made_slot p s)))
