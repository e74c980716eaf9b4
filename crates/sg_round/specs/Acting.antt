-- A copying worker as an actor over any port, and its turns.
use Rattle.std.specs.Prelude.{◌≡◌, ◌≢◌, ℕ, ◌<◌, ◌⊎◌, List, [], ◌∷◌}
use Rattle.sg_words.specs.declared.steps.Place.TheVariants.{Cell}
use Rattle.sg_words.specs.declared.steps.Step.{Step}
use Rattle.sg_words.specs.declared.steps.Step.TheVariants.{Load}
use Rattle.sg_words.specs.declared.steps.Call.{Call}
use Rattle.sg_words.specs.Programs.{FollowsBy, Guides, Goes}
use Rattle.sg_round.specs.Area.{Area}
use Rattle.sg_round.specs.Items.{own_cell}
use Rattle.sg_round.specs.Worker.{Stage, Take, Mark, Swap, Pin, Mid, Idle, Took, Count, On, Offer, Seek, Grab, Over, Worker}
use Rattle.sg_round.specs.Rules.{Effect, Comes}
use Rattle.sg_round.specs.Sane.{IsSane}

-- this step comes next, whatever it is for the round
abbrev pub Acts : Area → ℕ → ℕ → Worker → Step → Worker → Type 0
Acts area team k a step b = (effect : Effect) × Comes area team k a step effect b

-- the next step on the slot in hand is a deciding exchange: of a block, of a slot's bit, or of an object's first word
abbrev pub RestsIn : Stage → Type 0
RestsIn (Take o b) = Unit {0}
RestsIn (Mark o b i) = Unit {0}
RestsIn (Swap o at) = Unit {0}
RestsIn (Pin o) = Unit {0}
RestsIn stage = ⊥

-- A turn ends here: between two items, right before a deciding exchange, an offer's and a take's among them, or with the end.
abbrev pub RestsBy : List ℕ → Mid → Type 0
RestsBy hand Idle = hand ≡ []
RestsBy hand (Took item) = ⊥
RestsBy hand (Count t class) = ⊥
RestsBy hand (On s stage) = RestsIn stage
RestsBy hand (Offer i next) = Unit {0}
RestsBy hand (Seek i) = ⊥
RestsBy hand (Grab i item) = Unit {0}
RestsBy hand Over = Unit {0}

abbrev pub RestsAt : Worker → Type 0
RestsAt a = RestsBy a.hand a.mid

-- the step looks for an own cell in which to offer an item
pub record LooksForCell (k : ℕ) (a : Worker) (step : Step) : Type 0 where
  pub i : ℕ
  pub saw : ℕ
  pub there : i < 8
  pub is : step ≡ Load (Cell (own_cell k i)) saw
  pub some : a.list ≢ []

-- A step that comes next where no turn ends. Between two items a turn may still look for a cell: the last slot of an item may have
-- made a new item.
abbrev pub ActsOn : Area → ℕ → ℕ → Worker → Step → Worker → Type 0
ActsOn area team k a step b = ((¬ RestsAt a) ⊎ LooksForCell k a step) × Acts area team k a step b

-- These steps are one turn of worker k: one at least, up to where a turn ends, and not beyond.
pub record IsTurn (area : Area) (team k : ℕ) (a : Worker) (steps : List Step) (b : Worker) : Type 0 where
  pub first : Step
  pub then : Worker
  pub more : List Step
  pub steps_are : steps ≡ first ∷ more
  pub begins : Acts area team k a first then
  pub goes : FollowsBy (ActsOn area team k) then more b
  pub rests : RestsAt b

-- the port lets the worker make each next step from here on; `most` is how many items its list may begin with
abbrev pub IsGuided : {P : Type 0} → Area → ℕ → ℕ → ℕ → (P → List Step → P → Type 0) → (P → Call → Type 0) → (P → Step → Type 0) → P →
    Worker → Type 0
IsGuided {P} area team most k leads may sees port a = Guides (Acts area team k) (IsSane area team most k) leads may sees port a

-- steps of one turn, none of which begins or ends it, have led the worker and the port from here to there
abbrev pub HasGoneOn : {P : Type 0} → Area → ℕ → ℕ → ℕ → (P → List Step → P → Type 0) → Worker → P → Worker → P → Type 0
HasGoneOn {P} area team most k leads a port b port' = Goes (ActsOn area team k) (IsSane area team most k) leads a port b port'

-- one turn has led the worker and the port from here to there
pub record HasTurned {P : Type 0} (area : Area) (team most k : ℕ) (leads : P → List Step → P → Type 0)
    (a : Worker) (port : P) (b : Worker) (port' : P) : Type 0 where
  pub steps : List Step
  pub led : leads port steps port'
  pub turn : IsTurn area team k a steps b
  pub sane : IsSane area team most k b
