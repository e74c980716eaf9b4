use Rattle.sg_parse.proofs.OneRefusal.{has-one-refusal}
use Rattle.sg_parse.proofs.program.one_refusal.Goals as goal

pub returns : goal.returns
returns c = has-one-refusal c.one_saying.ensures
