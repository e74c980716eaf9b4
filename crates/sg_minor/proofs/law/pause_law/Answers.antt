-- The law is proved in `proofs/Paused.antt`.
use Rattle.sg_minor.proofs.Paused.{pause_law}
use Rattle.sg_minor.proofs.law.pause_law.Goals as goal

pub returns : goal.returns
returns c = pause_law c.front_law.ensures c.quiet_pause.ensures
