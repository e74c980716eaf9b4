use Rattle.sg_text.proofs.OneSentence.{have_one_saying}
use Rattle.sg_text.proofs.scanner.one_saying.Goals as goal

pub returns : goal.returns
returns c = have_one_saying
