-- The law is proved in `proofs/Joins.antt`.
use Rattle.sg_minor.proofs.Joins.{join_law}
use Rattle.sg_minor.proofs.join.join_law.Goals as goal

pub returns : goal.returns
returns c = join_law c.front_law.ensures
