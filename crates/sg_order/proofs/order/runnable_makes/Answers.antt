use Rattle.sg_order.proofs.Held.{runnable_makes}
use Rattle.sg_order.proofs.order.runnable_makes.Goals as goal

pub returns : goal.returns
returns c = runnable_makes
