use Rattle.sg_space.proofs.Reached.{has_byte}
use Rattle.sg_space.proofs.space.Space.containing.Goals as goal

pub returns-in-Some : goal.returns-in-Some
returns-in-Some c = has_byte c.args.self.now c.args.v c.in-Some.object c.in-Some.ensures
