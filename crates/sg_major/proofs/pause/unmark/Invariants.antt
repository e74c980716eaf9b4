use Rattle.sg_major.proofs.Blocks.{UnmarkedBelow}
use Rattle.sg_major.proofs.pause.unmark.Given as goal

abbrev pub invariant-loop-b : goal.invariant-loop-b
invariant-loop-b l = UnmarkedBelow l.fn.space l.space l.b
