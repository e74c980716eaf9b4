use Rattle.sg_mark.proofs.Marks.{law}
use Rattle.sg_mark.proofs.laws.marking_law.Goals as goal

pub returns : goal.returns
returns c = law
