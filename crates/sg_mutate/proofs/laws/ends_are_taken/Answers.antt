use Rattle.sg_mutate.proofs.Taking.{ends_are_taken}
use Rattle.sg_mutate.proofs.laws.ends_are_taken.Goals as goal

pub returns : goal.returns
returns c = ends_are_taken
