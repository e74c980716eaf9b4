use Rattle.sg_program.proofs.Items.{items_unfold}
use Rattle.sg_program.proofs.laws.items_unfold.Goals as goal

pub returns : goal.returns
returns c = items_unfold
