-- The law is proved in `proofs/Quiet.antt`.
use Rattle.sg_graph.proofs.Quiet.{quiet_pause}
use Rattle.sg_graph.proofs.laws.quiet_pause.Goals as goal

pub returns : goal.returns
returns c = quiet_pause
