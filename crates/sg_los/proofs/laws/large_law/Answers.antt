use Rattle.sg_los.proofs.Large.{large}
use Rattle.sg_los.proofs.laws.large_law.Goals as goal

pub returns : goal.returns
returns c = large c.placing_law.ensures
