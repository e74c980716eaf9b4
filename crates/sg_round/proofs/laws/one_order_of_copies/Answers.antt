use Rattle.sg_round.proofs.OneOrder.{one_order_of_copies}
use Rattle.sg_round.proofs.laws.one_order_of_copies.Goals as goal

pub returns : goal.returns
returns c = one_order_of_copies
