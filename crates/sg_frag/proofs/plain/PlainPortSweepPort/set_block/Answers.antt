use Rattle.std.proofs.Common.{refl}
use Rattle.sg_frag.proofs.Zeroed.{stored_block}
use Rattle.sg_frag.proofs.plain.PlainPortSweepPort.set_block.Goals as goal

pub returns-clause-led : goal.returns-clause-led
returns-clause-led c = (refl, stored_block c.args.self.now.space.now c.set_block.new.self c.args.b c.args.word c.requires.may c.set_block.ensures)
