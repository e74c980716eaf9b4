-- The law is proved in `proofs/Searched.antt`.
use Rattle.sg_graph.proofs.Searched.{searches_all}
use Rattle.sg_graph.proofs.laws.searches_all.Goals as goal

pub returns : goal.returns
returns c = searches_all
