-- The law is proved in `proofs/Lawful.antt`.
use Rattle.sg_major.proofs.Lawful.{major_law}
use Rattle.sg_major.proofs.law.major_law.Goals as goal

pub returns : goal.returns
returns c = major_law c.quiet_pause.ensures c.front_law.ensures
