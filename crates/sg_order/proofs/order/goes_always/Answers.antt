use Rattle.sg_order.proofs.SoFar.{goes_always}
use Rattle.sg_order.proofs.order.goes_always.Goals as goal

pub returns : goal.returns
returns c = goes_always c.blocks_go.ensures
