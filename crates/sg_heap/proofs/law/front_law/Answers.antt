-- The law is proved in `proofs/Fronted.antt`.
use Rattle.sg_heap.proofs.Fronted.{front_law}
use Rattle.sg_heap.proofs.law.front_law.Goals as goal

pub returns : goal.returns
returns c = front_law
