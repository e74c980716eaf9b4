use Rattle.sg_mutate.specs.Going.{AreActorsBelow}
use Rattle.sg_mutate.proofs.epochs.Actors.of.Given as goal

abbrev pub invariant-loop-k : goal.invariant-loop-k
invariant-loop-k l = AreActorsBelow l.mutators l.k l.actors
