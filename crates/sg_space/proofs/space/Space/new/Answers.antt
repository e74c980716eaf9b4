use Rattle.std.proofs.Common.{arith}
use Rattle.std.proofs.lemmas.Grind.{common_steps}
use Rattle.sg_space.proofs.Fresh.{fresh_is_sound}
use Rattle.sg_space.proofs.space.Space.new.Goals as goal

pub returns-clause-sound : goal.returns-clause-sound
returns-clause-sound c = fresh_is_sound c.args.layout c.args.shapes.now c.requires.layout c.requires.shapes _ (grind (arith, common_steps))
