-- The law is proved in `proofs/Law.antt`.
use Rattle.sg_order.proofs.Law.{is_one_order}
use Rattle.sg_order.proofs.order.one_order.Goals as goal

pub returns : goal.returns
returns c = is_one_order c.blocks_go.ensures
