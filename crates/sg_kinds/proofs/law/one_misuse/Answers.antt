use Rattle.sg_kinds.proofs.OneMisuse.{has-one-misuse}
use Rattle.sg_kinds.proofs.law.one_misuse.Goals as goal

pub returns : goal.returns
returns c = has-one-misuse
