use Rattle.sg_round.proofs.Done.{racing_law}
use Rattle.sg_round.proofs.laws.racing_law.Goals as goal

pub returns : goal.returns
returns c = racing_law
