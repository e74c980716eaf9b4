use Rattle.sg_order.proofs.SoFar.{goes_so_far}
use Rattle.sg_order.proofs.order.goes_so_far.Goals as goal

pub returns : goal.returns
returns c = goes_so_far
