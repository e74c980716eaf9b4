-- A copying worker as an actor over any port that tells which objects it moved and failed.
use Rattle.std.specs.Prelude.{◌≡◌, ℕ, ◌+◌, ◌-◌, ◌≤◌, ◌⊎◌, List, [], ◌∷◌, ◌++◌, length}
use Rattle.sg_words.specs.declared.steps.Step.{Step}
use Rattle.sg_words.specs.declared.steps.Call.{Call}
use Rattle.sg_words.specs.Programs.{FollowsBy, Guides, Goes}
use Rattle.sg_round.specs.Area.{Area}
use Rattle.sg_round.specs.Worker.{Mid, Worker}
use Rattle.sg_round.specs.Rules.{Effect, Nothing, Ends, Moves, Fails, FailsEnding, Comes}
use Rattle.sg_round.specs.Acting.{RestsAt, LooksForCell}
use Rattle.sg_round.specs.Sane.{IsSane}

-- which worker of how many works on what, and how many items its list may begin with
pub record Seat : Type 0 where
  pub area : Area
  pub team : ℕ
  pub most : ℕ
  pub number : ℕ

-- a worker, and the objects that it has moved and failed so far, in order
pub record Teller : Type 0 where
  pub worker : Worker
  pub moves : List ℕ
  pub fails : List ℕ

abbrev pub moves_with : List ℕ → Effect → List ℕ
moves_with moves Nothing = moves
moves_with moves (Ends s) = moves
moves_with moves (Moves x) = moves ++ x ∷ []
moves_with moves (Fails x) = moves
moves_with moves (FailsEnding x s) = moves

abbrev pub fails_with : List ℕ → Effect → List ℕ
fails_with fails Nothing = fails
fails_with fails (Ends s) = fails
fails_with fails (Moves x) = fails
fails_with fails (Fails x) = fails ++ x ∷ []
fails_with fails (FailsEnding x s) = fails ++ x ∷ []

-- this step comes next, whatever it is for the round
abbrev pub Tells : Seat → Teller → Step → Teller → Type 0
Tells seat a step b = (effect : Effect) × Comes seat.area seat.team seat.number a.worker step effect b.worker
    × (b.moves ≡ moves_with a.moves effect) × (b.fails ≡ fails_with a.fails effect)

-- a step that comes next where no turn ends
abbrev pub TellsOn : Seat → Teller → Step → Teller → Type 0
TellsOn seat a step b = ((¬ RestsAt a.worker) ⊎ LooksForCell seat.number a.worker step) × Tells seat a step b

-- what is true of a worker by itself, and that no more objects were moved and failed than the nursery has words
pub record IsSaneTeller (seat : Seat) (a : Teller) : Type 0 where
  pub worker : IsSane seat.area seat.team seat.most seat.number a.worker
  pub few : length a.moves + length a.fails ≤ seat.area.high - seat.area.low

-- the port has the area's blocks, and lets the worker make each next step from here on
pub record IsOn {P : Type 0} (seat : Seat) (leads : P → List Step → P → Type 0) (may : P → Call → Type 0) (sees : P → Step → Type 0) (blocks : P → ℕ)
    (port : P) (a : Teller) : Type 0 where
  pub guided : Guides (Tells seat) (IsSaneTeller seat) leads may sees port a
  pub blocks_are : blocks port ≡ seat.area.blocks

-- steps of one turn, none of which begins or ends it, have led the worker and the port from here to there
abbrev pub HasGoneOn : {P : Type 0} → Seat → (P → List Step → P → Type 0) → Teller → P → Teller → P → Type 0
HasGoneOn {P} seat leads a port b port' = Goes (TellsOn seat) (IsSaneTeller seat) leads a port b port'

-- the first steps of a turn, one at least, have led the worker and the port from here to there
pub record HasStarted {P : Type 0} (seat : Seat) (leads : P → List Step → P → Type 0) (a : Teller) (port : P) (b : Teller) (port' : P) : Type 0 where
  pub first : Step
  pub then : Teller
  pub more : List Step
  pub led : leads port (first ∷ more) port'
  pub begins : Tells seat a first then
  pub goes : FollowsBy (TellsOn seat) then more b
  pub is_sane : IsSaneTeller seat b

-- one turn has led the worker and the port from here to there
pub record HasTurned {P : Type 0} (seat : Seat) (leads : P → List Step → P → Type 0) (a : Teller) (port : P) (b : Teller) (port' : P) : Type 0 where
  pub started : HasStarted seat leads a port b port'
  pub rests : RestsAt b.worker

-- the worker, where it stands otherwise
abbrev pub at : Teller → Mid → Teller
at a mid = record a { worker = record (a.worker) { mid = mid } }
