-- A mutator as an actor over any port, and its turns.
use Rattle.std.specs.Prelude.{◌≡◌, Bool, true, false, List, ◌∷◌}
use Rattle.sg_words.specs.declared.steps.Step.{Step}
use Rattle.sg_words.specs.declared.steps.Call.{Call}
use Rattle.sg_words.specs.Programs.{FollowsBy, Guides, Goes}
use Rattle.sg_program.specs.declared.program.Program.{Program}
use Rattle.sg_rules.specs.Rules.{Constants, Mid, Idle, TestTag, TestLength, Access, MarkCard, AccessGlobal, Look, Claim, StoreLength, StoreTag, HideLength, Ask, Left, Yielded}
use Rattle.sg_rules.specs.Rules.{SeeBlock, TakeBlock, SeeUsed, TakeSlot, TakeOver, StoreOccupancy, ClearSlots, ClearWords, Retired, Actor, NextStep}
use Rattle.sg_rules.specs.Sane.{IsSane}

-- this step comes next, whether it decides the statement or not
abbrev pub Acts : Program → Constants → Actor → Step → Actor → Type 0
Acts p lay a step b = (decides : Bool) × NextStep p lay a step decides b

-- A turn ends here: between two statements, right before an exchange, around the sweep of a block, or with leaving.
abbrev pub RestsAt : Mid → Type 0
RestsAt Idle = Unit {0}
RestsAt (TestTag s test) = ⊥
RestsAt (TestLength s test class) = ⊥
RestsAt (Access s) = ⊥
RestsAt (MarkCard s card) = ⊥
RestsAt (AccessGlobal s) = ⊥
RestsAt (Look s f) = ⊥
RestsAt (Claim s f seen) = Unit {0}
RestsAt (StoreLength s x) = ⊥
RestsAt (StoreTag s x) = ⊥
RestsAt (HideLength d s offset) = ⊥
RestsAt (SeeBlock t true c) = Unit {0}
RestsAt (SeeBlock t false c) = ⊥
RestsAt (TakeBlock s c) = Unit {0}
RestsAt (SeeUsed s c) = ⊥
RestsAt (TakeSlot s c i) = Unit {0}
RestsAt (TakeOver t c z) = Unit {0}
RestsAt (StoreOccupancy t c z) = Unit {0}
RestsAt (ClearSlots t c z i) = ⊥
RestsAt (ClearWords t c z i f) = ⊥
RestsAt (Ask s) = ⊥
RestsAt (Left s) = Unit {0}
RestsAt Yielded = Unit {0}
RestsAt Retired = Unit {0}

-- a step that comes next where no turn ends
abbrev pub ActsOn : Program → Constants → Actor → Step → Actor → Type 0
ActsOn p lay a step b = (¬ RestsAt a.mid) × Acts p lay a step b

-- These steps are one turn of the mutator: one at least, up to where a turn ends, and not beyond.
pub record IsTurn (p : Program) (lay : Constants) (a : Actor) (steps : List Step) (b : Actor) : Type 0 where
  pub first : Step
  pub then : Actor
  pub more : List Step
  pub steps_are : steps ≡ first ∷ more
  pub begins : Acts p lay a first then
  pub goes : FollowsBy (ActsOn p lay) then more b
  pub rests : RestsAt b.mid

-- the port lets the mutator make each next step from here on
abbrev pub IsGuided : {P : Type 0} → Program → Constants → (P → List Step → P → Type 0) → (P → Call → Type 0) → (P → Step → Type 0) → P → Actor → Type 0
IsGuided {P} p lay leads may sees port a = Guides (Acts p lay) (IsSane p lay) leads may sees port a

-- steps of one turn, none of which begins or ends it, have led the mutator and the port from here to there
abbrev pub HasGoneOn : {P : Type 0} → Program → Constants → (P → List Step → P → Type 0) → Actor → P → Actor → P → Type 0
HasGoneOn {P} p lay leads a port b port' = Goes (ActsOn p lay) (IsSane p lay) leads a port b port'

-- one turn has led the mutator and the port from here to there
pub record HasTurned {P : Type 0} (p : Program) (lay : Constants) (leads : P → List Step → P → Type 0) (a : Actor) (port : P) (b : Actor) (port' : P) : Type 0 where
  pub steps : List Step
  pub led : leads port steps port'
  pub turn : IsTurn p lay a steps b
  pub sane : IsSane p lay b
