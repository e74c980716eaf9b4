use Rattle.sg_rules.proofs.Careful.{careful}
use Rattle.sg_rules.proofs.laws.steps_are_careful.Goals as goal

pub returns : goal.returns
returns c = careful
