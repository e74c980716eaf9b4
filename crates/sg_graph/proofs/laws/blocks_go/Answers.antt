-- The law is proved in `proofs/Slots.antt`.
use Rattle.sg_graph.proofs.Slots.{blocks_go}
use Rattle.sg_graph.proofs.laws.blocks_go.Goals as goal

pub returns : goal.returns
returns c = blocks_go
