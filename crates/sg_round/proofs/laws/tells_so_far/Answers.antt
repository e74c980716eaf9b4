use Rattle.sg_round.proofs.SoFar.{tells_so_far}
use Rattle.sg_round.proofs.laws.tells_so_far.Goals as goal

pub returns : goal.returns
returns c = tells_so_far
