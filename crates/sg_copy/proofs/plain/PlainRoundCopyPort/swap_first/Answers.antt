use Rattle.std.proofs.Common.{◌≡◌, refl, rules}
use Rattle.sg_words.specs.Address.{word_at}
use Rattle.sg_space.specs.Standing.{word}
use Rattle.sg_copy.proofs.Changes.{leads_won}
use Rattle.sg_copy.proofs.plain.PlainRoundCopyPort.swap_first.Goals as goal

pub returns-clause-led : goal.returns-clause-led
returns-clause-led c =
    let s = c.args.self.now.space.now in
    let is : word s (word_at c.args.a) ≡ c.args.seen = search rules in
    (refl, leads_won s c.write.new.self c.args.self.now.cells (word_at c.args.a) c.args.seen c.args.new c.requires.may.2 is c.write.ensures)
