-- The law is proved in `proofs/OneSearch.antt`.
use Rattle.sg_graph.proofs.OneSearch.{one_search}
use Rattle.sg_graph.proofs.laws.one_search.Goals as goal

pub returns : goal.returns
returns c = one_search
