-- The set bits of a mask, counted one after another.
use Rattle.std.proofs.Common.{◌≡◌, ℕ, zero, suc, ◌+◌, ◌/◌, ◌%◌, ◌^◌, ◌<◌, sym, ap, ◌∙◌, inl, inr, arith}
use Rattle.std.proofs.lemmas.Bool.{cases_eq}
use Rattle.std.proofs.lemmas.Nat.{ones_cat, ones_le_self, zero_from_ones, mod-pow-add, pow_pos}
use Rattle.std.specs.Int.{bit_at}
use Rattle.std.proofs.lemmas.Nat.Bits.{bit_at-lt}
use Rattle.std.specs.Int.RustNames.{count_ones}
use Rattle.sg_sections.specs.Parts.{bits_below}

ones_bit : (a : ℕ) → a < 2 → count_ones a ≡ a
ones_bit a l = elim (cases_eq (count_ones a) 0) [
  | inl e ↦ (let z = zero_from_ones a e in omega arith)
  | inr n ↦ (let u = ones_le_self a in omega arith)
]

low_ones : (m k : ℕ) → count_ones (m % 2 ^ k) ≡ bits_below m k
unfolding bits_below
low_ones m zero = let e : m % 2 ^ 0 ≡ 0 = omega arith in ap (λ z. count_ones z) e ∙ ones_bit 0 (omega arith)
low_ones m (suc k) =
    let split = mod-pow-add m 1 k in
    let more : 1 + k ≡ suc k = omega arith in
    let small : m % 2 ^ k < 2 ^ k = (let pos = pow_pos k in omega arith) in
    let one = bit_at-lt m k in
    ap (λ z. count_ones (m % 2 ^ z)) (sym more)
    ∙ ap (λ z. count_ones z) split
    ∙ ones_cat k (m / 2 ^ k % 2 ^ 1) (m % 2 ^ k) small
    ∙ (let bit = ones_bit (bit_at m k) one in let low = low_ones m k in omega arith)

-- in a word of 64 bits
pub all_ones : (m : ℕ) → m < 2 ^ 64 → count_ones m ≡ bits_below m 64
all_ones m l = let e : m ≡ m % 2 ^ 64 = omega arith in ap (λ z. count_ones z) e ∙ low_ones m 64
