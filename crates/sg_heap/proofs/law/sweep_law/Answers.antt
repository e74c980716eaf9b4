-- The law is proved in `proofs/Kept.antt`, from the one of swept blocks.
use Rattle.sg_heap.proofs.Kept.{sweep_law}
use Rattle.sg_heap.proofs.law.sweep_law.Goals as goal

pub returns : goal.returns
returns c = sweep_law c.blocks_are_swept.ensures
