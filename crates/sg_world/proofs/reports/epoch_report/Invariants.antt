use Rattle.std.proofs.Common.{take}
use Rattle.sg_words.specs.Lists.{Pairwise}
use Rattle.sg_world.specs.Telling.{TellsAt}
use Rattle.sg_world.proofs.reports.epoch_report.Given as goal

-- the parts so far
abbrev pub invariant-loop-k : goal.invariant-loop-k
invariant-loop-k l = Pairwise (TellsAt l.mutators) (take l.k-index l.ran) l.parts.items
