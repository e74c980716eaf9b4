use Rattle.sg_major.proofs.Blocks.{OwedBelow}
use Rattle.sg_major.proofs.pause.owe.Given as goal

abbrev pub invariant-loop-b : goal.invariant-loop-b
invariant-loop-b l = OwedBelow l.fn.space l.space l.b
