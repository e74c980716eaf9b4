use Rattle.std.proofs.Common.{refl}
use Rattle.sg_copy.proofs.Changes.{leads_card}
use Rattle.sg_copy.proofs.plain.PlainRoundCopyPort.mark_card.Goals as goal

pub returns-clause-led : goal.returns-clause-led
returns-clause-led c =
    (refl, leads_card c.args.self.now.space.now c.set_dirty.new.self c.args.self.now.cells c.args.card 1 c.requires.may.0 c.set_dirty.ensures)
