use Rattle.sg_space.proofs.Rests.{free_one}
use Rattle.sg_space.proofs.space.Space.free_end.Goals as goal

pub returns-else-fragment-len-clause-free : goal.returns-else-fragment-len-clause-free
returns-else-fragment-len-clause-free c = free_one c.args.self.now c.args.x c.requires.free
