use Rattle.sg_order.proofs.Held.{held_is_sound}
use Rattle.sg_order.proofs.order.held_is_sound.Goals as goal

pub returns : goal.returns
returns c = held_is_sound
