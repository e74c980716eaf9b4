use Rattle.std.proofs.Common.{ℕ, ◌<◌, sym, ap, ◌∙◌, w64, arith, subst}
use Rattle.std.specs.Int.{bit_at}
use Rattle.std.proofs.lemmas.Nat.Bits.{bit_at-trailing_ones, bit_at_ones}
use Rattle.sg_slots.specs.Looks.{IsLowest}
use Rattle.sg_slots.proofs.search.lowest_clear.Goals as goal

pub returns-then-used-eq18446744073709551615 : goal.returns-then-used-eq18446744073709551615
returns-then-used-eq18446744073709551615 c = λ i l. ap (λ (v : ℕ). bit_at v i) c.if-used-eq18446744073709551615.true ∙
    bit_at_ones 64 i (let most = c.requires in omega arith)

pub returns-then-slot-slots : goal.returns-then-slot-slots
returns-then-slot-slots c =
    let fits = c.ranges.used.fits in
    let n = c.if-used-eq18446744073709551615.false in
    let t = bit_at-trailing_ones w64 c.args.used (omega arith) in
    subst (λ (i : ℕ). IsLowest c.args.used c.args.slots i) (sym c.trailing_ones-slot.ensures) (record {
      within = subst (λ (i : ℕ). i < c.args.slots) c.trailing_ones-slot.ensures c.if-slot-slots.true;
      clear = t.1;
      below = t.2;
    })

pub returns-else-slot-slots : goal.returns-else-slot-slots
returns-else-slot-slots c = λ i l.
    let fits = c.ranges.used.fits in
    let n = c.if-used-eq18446744073709551615.false in
    let t = bit_at-trailing_ones w64 c.args.used (omega arith) in
    let e = c.trailing_ones-slot.ensures in
    let m = c.if-slot-slots.false in
    t.2 i (omega arith)
