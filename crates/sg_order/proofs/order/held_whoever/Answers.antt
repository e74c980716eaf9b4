use Rattle.sg_order.proofs.Held.{held_whoever}
use Rattle.sg_order.proofs.order.held_whoever.Goals as goal

pub returns : goal.returns
returns c = held_whoever
