use Rattle.sg_order.proofs.SoFar.{opens_so_far}
use Rattle.sg_order.proofs.order.opens_so_far.Goals as goal

pub returns : goal.returns
returns c = opens_so_far
