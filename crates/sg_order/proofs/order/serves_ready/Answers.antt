use Rattle.sg_order.proofs.Serving.{serves_ready}
use Rattle.sg_order.proofs.order.serves_ready.Goals as goal

pub returns : goal.returns
returns c = serves_ready
