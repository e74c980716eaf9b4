use Rattle.sg_round.proofs.SoFar.{opens_so_far}
use Rattle.sg_round.proofs.laws.opens_so_far.Goals as goal

pub returns : goal.returns
returns c = opens_so_far
