use Rattle.sg_mutate.proofs.Taking.{opens_boarded}
use Rattle.sg_mutate.proofs.laws.opens_boarded.Goals as goal

pub returns : goal.returns
returns c = opens_boarded c.orders_so_far.ensures
