use Rattle.sg_order.proofs.Serving.{stays_ready}
use Rattle.sg_order.proofs.order.stays_ready.Goals as goal

pub returns : goal.returns
returns c = stays_ready
