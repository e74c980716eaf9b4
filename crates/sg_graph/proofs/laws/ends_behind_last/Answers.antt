-- The law is proved in `proofs/Ends.antt`.
use Rattle.sg_graph.proofs.Ends.{ends_behind_last}
use Rattle.sg_graph.proofs.laws.ends_behind_last.Goals as goal

pub returns : goal.returns
returns c = ends_behind_last
