use Rattle.sg_mutate.proofs.OwedLess.{turns_owe_less}
use Rattle.sg_mutate.proofs.laws.turns_owe_less.Goals as goal

pub returns : goal.returns
returns c = turns_owe_less
