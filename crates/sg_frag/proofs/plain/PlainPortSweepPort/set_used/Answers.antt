use Rattle.std.proofs.Common.{refl}
use Rattle.sg_frag.proofs.Changes.{led_used}
use Rattle.sg_frag.proofs.plain.PlainPortSweepPort.set_used.Goals as goal

pub returns-clause-led : goal.returns-clause-led
returns-clause-led c = (refl, led_used c.args.self.now.space.now c.set_used.new.self c.args.b c.args.mask c.requires.may c.set_used.ensures)
