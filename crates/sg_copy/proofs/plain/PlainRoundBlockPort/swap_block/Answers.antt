use Rattle.std.proofs.Common.{◌≡◌, refl, rules}
use Rattle.sg_space.specs.Standing.{block_in}
use Rattle.sg_copy.proofs.Changes.{leads_block}
use Rattle.sg_copy.proofs.plain.PlainRoundBlockPort.swap_block.Goals as goal

pub returns-clause-led : goal.returns-clause-led
returns-clause-led c =
    let s = c.args.self.now.space.now in
    let is : block_in s c.args.b ≡ c.args.seen = search rules in
    (refl, leads_block s c.set_block.new.self c.args.self.now.cells c.args.b c.args.seen c.args.new c.requires.may is c.set_block.ensures)
