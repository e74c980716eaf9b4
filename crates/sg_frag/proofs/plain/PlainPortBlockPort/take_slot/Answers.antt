use Rattle.std.proofs.Common.{refl, sym, ap, ◌∙◌, ℕ, ◌^◌, slice_set}
use Rattle.std.specs.Int.Bits.{bit_or}
use Rattle.sg_space.specs.Space.{Contents}
use Rattle.sg_frag.proofs.Changes.{led_claim}
use Rattle.sg_frag.proofs.plain.PlainPortBlockPort.take_slot.Goals as goal

pub returns-clause-led : goal.returns-clause-led
returns-clause-led c =
    let s = c.args.self.now.space.now in
    let with : ℕ → Contents = λ m. record s { used = slice_set s.used c.args.b (bit_or m (2 ^ c.args.slot)) } in (
      refl,
      led_claim s c.occupy.new.self c.args.b c.args.slot c.occupy.result c.requires.may.0 (sym c.occupy.ensures.value)
          (c.occupy.ensures.set ∙ ap with (sym c.occupy.ensures.value)),
    )
