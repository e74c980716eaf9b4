use Rattle.sg_round.proofs.Rounds.{released}
use Rattle.sg_round.proofs.laws.released.Goals as goal

pub returns : goal.returns
returns c = released
