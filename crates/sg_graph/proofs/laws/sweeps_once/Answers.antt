-- The law is proved in `proofs/Owing.antt`.
use Rattle.sg_graph.proofs.Owing.{sweeps_once}
use Rattle.sg_graph.proofs.laws.sweeps_once.Goals as goal

pub returns : goal.returns
returns c = sweeps_once
