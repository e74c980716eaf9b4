-- What an epoch's report is made from.
use Rattle.std.specs.Prelude.{◌≡◌, ◌≢◌, ℕ, Bool, true, false, Option, Some, None, List, length, filter, slice_get}
use Rattle.sg_graph.specs.declared.reports.Part.{Part}
use Rattle.sg_graph.specs.Epoch.{numbers_below}
use Rattle.sg_actor.specs.declared.mutator.Stage.{Stage}
use Rattle.sg_actor.specs.declared.mutator.Stage.TheVariants.{Ended}
use Rattle.sg_actor.specs.State.{Mutating, leave_of, IsCounted}

-- whether a mutator that stands there hasn't ended
abbrev pub goes : Stage → Bool
goes Ended = false
goes stage = true

abbrev pub goes_at : Option Mutating → Bool
goes_at None = false
goes_at (Some m) = goes m.stage

-- the numbers of those that haven't ended
abbrev pub going_in : List Mutating → List ℕ
going_in mutators = filter (λ k. goes_at (slice_get mutators k)) (numbers_below (length mutators))

abbrev pub HaveEnded : List Mutating → Type 0
HaveEnded mutators = (k : ℕ) (m : Mutating) → slice_get mutators k ≡ Some m → m.stage ≡ Ended

-- mutator k is one of these, and has left its epoch
abbrev pub HasLeftAt : List Mutating → ℕ → Type 0
HasLeftAt mutators k = (m : Mutating) × (slice_get mutators k ≡ Some m) × (leave_of m.stage ≢ None)

-- the part tells of this mutator
pub record TellsOf (m : Mutating) (part : Part) : Type 0 where
  pub number : part.mutator ≡ m.number
  pub first : part.first ≡ m.first
  pub answers : part.answers ≡ m.told
  pub leave : leave_of m.stage ≡ Some part.leave
  pub counted : IsCounted m

-- the part tells of mutator k, which is one of these
abbrev pub TellsAt : List Mutating → ℕ → Part → Type 0
TellsAt mutators k part = (m : Mutating) × (slice_get mutators k ≡ Some m) × TellsOf m part
