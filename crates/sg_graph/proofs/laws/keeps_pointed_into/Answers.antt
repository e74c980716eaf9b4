-- The law is proved in `proofs/Kept.antt`.
use Rattle.sg_graph.proofs.Kept.{keeps_pointed_into}
use Rattle.sg_graph.proofs.laws.keeps_pointed_into.Goals as goal

pub returns : goal.returns
returns c = keeps_pointed_into
