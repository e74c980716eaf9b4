use Rattle.sg_order.proofs.SoFar.{orders_so_far}
use Rattle.sg_order.proofs.order.orders_so_far.Goals as goal

pub returns : goal.returns
returns c = orders_so_far c.blocks_go.ensures
