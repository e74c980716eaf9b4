use Rattle.sg_round.proofs.OneWorker.{one_worker}
use Rattle.sg_round.proofs.laws.one_worker.Goals as goal

pub returns : goal.returns
returns c = one_worker
