use Rattle.sg_order.proofs.Law.{is_first_opening}
use Rattle.sg_order.proofs.order.first_opening.Goals as goal

pub returns : goal.returns
returns c = is_first_opening
