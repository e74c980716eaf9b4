-- The law is proved in `proofs/Sweeps.antt`.
use Rattle.sg_graph.proofs.Sweeps.{blocks_are_swept}
use Rattle.sg_graph.proofs.laws.blocks_are_swept.Goals as goal

pub returns : goal.returns
returns c = blocks_are_swept
