-- The law is proved in `proofs/Full.antt`.
use Rattle.sg_graph.proofs.Full.{full_is_last}
use Rattle.sg_graph.proofs.laws.full_is_last.Goals as goal

pub returns : goal.returns
returns c = full_is_last
