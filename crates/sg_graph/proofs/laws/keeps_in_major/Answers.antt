-- The law is proved in `proofs/Kept.antt`.
use Rattle.sg_graph.proofs.Kept.{keeps_in_major}
use Rattle.sg_graph.proofs.laws.keeps_in_major.Goals as goal

pub returns : goal.returns
returns c = keeps_in_major
