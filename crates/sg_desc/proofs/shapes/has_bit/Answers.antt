-- a number below 2 ^ 64 has no bit from 64 on
use Rattle.std.proofs.Common.{◌==◌, ℕ, ◌∙◌, sym, ap}
use Rattle.std.proofs.lemmas.Bool.{le-ltb}
use Rattle.std.proofs.lemmas.Nat.Bits.{bit_at_above}
use Rattle.sg_desc.proofs.shapes.has_bit.Goals as goal

pub returns-else-field-lt64 : goal.returns-else-field-lt64
returns-else-field-lt64 c =
    le-ltb c.args.field 64 c.if-field-lt64.false ∙ sym (ap (λ (b : ℕ). b == 1) (bit_at_above c.args.bits 64 c.args.field c.ranges.bits.fits c.if-field-lt64.false))
