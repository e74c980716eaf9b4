use Rattle.sg_rules.proofs.Small.{all_runnable}
use Rattle.sg_rules.proofs.laws.built_runs.Goals as goal

pub returns : goal.returns
returns c = all_runnable
