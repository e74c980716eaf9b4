-- The law is proved in `proofs/OneReport.antt`.
use Rattle.sg_graph.proofs.OneReport.{turns_keep_old}
use Rattle.sg_graph.proofs.laws.turns_keep_old.Goals as goal

pub returns : goal.returns
returns c = turns_keep_old
