use Rattle.sg_round.proofs.Rounds.{more_items}
use Rattle.sg_round.proofs.laws.more_items.Goals as goal

pub returns : goal.returns
returns c = more_items
