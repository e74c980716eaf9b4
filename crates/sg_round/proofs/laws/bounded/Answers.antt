use Rattle.sg_round.proofs.SoFar.{bounded}
use Rattle.sg_round.proofs.laws.bounded.Goals as goal

pub returns : goal.returns
returns c = bounded
