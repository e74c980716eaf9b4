use Rattle.std.proofs.Common.{◌≡◌, refl, sym, ◌∙◌, slice_index}
use Rattle.sg_frag.proofs.Changes.{led_won}
use Rattle.sg_frag.proofs.plain.PlainPortFragPort.swap_next.Goals as goal

pub returns-clause-led : goal.returns-clause-led
returns-clause-led c =
    let is : slice_index c.args.self.now.space.now.next c.args.f ≡ c.args.seen = sym c.next-found.ensures ∙ c.if-found-seen.false in
    (refl, led_won c.args.self.now.space.now c.set_next.new.self c.args.f c.args.seen c.args.new c.requires.may.0 is c.set_next.ensures)
