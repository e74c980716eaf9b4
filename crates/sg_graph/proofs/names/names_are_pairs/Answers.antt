-- The law is proved in `proofs/Allocations.antt`.
use Rattle.sg_graph.proofs.Allocations.{names_are_pairs}
use Rattle.sg_graph.proofs.names.names_are_pairs.Goals as goal

pub returns : goal.returns
returns c = names_are_pairs
