use Rattle.sg_round.proofs.SoFar.{goes_always}
use Rattle.sg_round.proofs.laws.goes_always.Goals as goal

pub returns : goal.returns
returns c = goes_always
