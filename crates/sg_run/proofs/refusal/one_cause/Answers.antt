use Rattle.sg_run.proofs.OneCause.{has-one-cause}
use Rattle.sg_run.proofs.refusal.one_cause.Goals as goal

pub returns : goal.returns
returns c = has-one-cause c.one_reading.ensures c.one_refusal.ensures c.one_misuse.ensures
