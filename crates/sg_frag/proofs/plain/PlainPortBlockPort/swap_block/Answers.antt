use Rattle.std.proofs.Common.{◌≡◌, refl, rules}
use Rattle.sg_space.specs.Standing.{block_in}
use Rattle.sg_frag.proofs.Changes.{led_block}
use Rattle.sg_frag.proofs.plain.PlainPortBlockPort.swap_block.Goals as goal

pub returns-clause-led : goal.returns-clause-led
returns-clause-led c =
    let is : block_in c.args.self.now.space.now c.args.b ≡ c.args.seen = search rules in
    (refl, led_block c.args.self.now.space.now c.set_block.new.self c.args.b c.args.seen c.args.new c.requires.may is c.set_block.ensures)
