use Rattle.std.proofs.Common.{◌≡◌, ℕ, ◌<◌, Some, slice_get}
use Rattle.sg_actor.specs.declared.mutator.Stage.TheVariants.{Ended}
use Rattle.sg_actor.specs.State.{Mutating}
use Rattle.sg_world.proofs.reports.have_ended.Given as goal

abbrev pub invariant-loop-k : goal.invariant-loop-k
invariant-loop-k l = (j : ℕ) (m : Mutating) → j < l.k → slice_get l.mutators j ≡ Some m → m.stage ≡ Ended
