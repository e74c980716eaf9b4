use Rattle.sg_run.proofs.OneText.{of_one_input}
use Rattle.sg_run.proofs.replay.one_text.Goals as goal

pub returns : goal.returns
returns c = of_one_input c.one_text.ensures c.one_reading.ensures
