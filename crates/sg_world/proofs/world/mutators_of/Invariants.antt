use Rattle.sg_world.specs.Starting.{AreNew}
use Rattle.sg_world.proofs.world.mutators_of.Given as goal

abbrev pub invariant-loop-k : goal.invariant-loop-k
invariant-loop-k l = AreNew l.program l.k l.mutators.items
