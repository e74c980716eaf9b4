use Rattle.std.proofs.Common.{◌≡◌, ℕ, ap, ◌∙◌, subst, w64, arith}
use Rattle.std.specs.Int.{bit_at}
use Rattle.std.proofs.lemmas.Nat.Bits.{bit_at-trailing_ones, bit_at_ones}
use Rattle.sg_words.proofs.masks.first_clear.Goals as goal

pub returns-then-mask-eq18446744073709551615 : goal.returns-then-mask-eq18446744073709551615
returns-then-mask-eq18446744073709551615 c = λ i l. ap (λ (v : ℕ). bit_at v i) c.if-mask-eq18446744073709551615.true ∙
    bit_at_ones 64 i (let most = c.requires in omega (arith, most, l))

pub returns-then-bit-n : goal.returns-then-bit-n
returns-then-bit-n c =
    let fits = c.ranges.mask.fits in
    let n = c.if-mask-eq18446744073709551615.false in
    let t = bit_at-trailing_ones w64 c.args.mask (omega (arith, fits, n)) in
    let e = c.trailing_ones-bit.ensures in
    (c.if-bit-n.true, subst (λ b. bit_at c.args.mask b ≡ 0) (search e) t.1, λ i l. t.2 i (omega (arith, e, l)))

pub returns-else-bit-n : goal.returns-else-bit-n
returns-else-bit-n c = λ i l.
    let fits = c.ranges.mask.fits in
    let n = c.if-mask-eq18446744073709551615.false in
    let t = bit_at-trailing_ones w64 c.args.mask (omega (arith, fits, n)) in
    let e = c.trailing_ones-bit.ensures in
    let most = c.if-bit-n.false in
    t.2 i (omega (arith, e, l, most))
