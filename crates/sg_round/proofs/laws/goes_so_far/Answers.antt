use Rattle.sg_round.proofs.SoFar.{goes_so_far}
use Rattle.sg_round.proofs.laws.goes_so_far.Goals as goal

pub returns : goal.returns
returns c = goes_so_far
