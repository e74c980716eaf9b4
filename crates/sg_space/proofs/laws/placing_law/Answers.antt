use Rattle.sg_space.proofs.Slots.{placing}
use Rattle.sg_space.proofs.laws.placing_law.Goals as goal

pub returns : goal.returns
returns c = placing
