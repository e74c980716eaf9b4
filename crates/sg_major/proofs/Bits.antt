-- The set bits of masks, counted one after another.
use Rattle.std.proofs.Common.{◌≡◌, ℕ, zero, suc, ◌+◌, ◌/◌, ◌%◌, ◌^◌, ◌≤◌, ◌<◌, refl, sym, ap, ◌∙◌, inl, inr, arith}
use Rattle.std.proofs.lemmas.Bool.{cases_eq}
use Rattle.std.proofs.lemmas.Nat.{ones_cat, ones_le_self, zero_from_ones, mod-pow-add, pow_pos}
use Rattle.std.specs.Int.{bit_at}
use Rattle.std.proofs.lemmas.Nat.Bits.{bit_at-lt}
use Rattle.std.specs.Int.RustNames.{count_ones}
use Rattle.sg_major.specs.Parts.{bits_below, bits_in}

ones_bit : (a : ℕ) → a < 2 → count_ones a ≡ a
ones_bit a l = elim (cases_eq (count_ones a) 0) [
  | inl e ↦ (let z = zero_from_ones a e in omega arith)
  | inr n ↦ (let u = ones_le_self a in omega arith)
]

low_ones : (m k : ℕ) → count_ones (m % 2 ^ k) ≡ bits_below m k
unfolding bits_below
low_ones m zero = let e : m % 2 ^ 0 ≡ 0 = omega arith in ap (λ z. count_ones z) e ∙ ones_bit 0 (omega arith)
low_ones m (suc k) =
    let split = mod-pow-add m 1 k in
    let more : 1 + k ≡ suc k = omega arith in
    let small : m % 2 ^ k < 2 ^ k = (let pos = pow_pos k in omega arith) in
    let one = bit_at-lt m k in
    ap (λ z. count_ones (m % 2 ^ z)) (sym more)
    ∙ ap (λ z. count_ones z) split
    ∙ ones_cat k (m / 2 ^ k % 2 ^ 1) (m % 2 ^ k) small
    ∙ (let bit = ones_bit (bit_at m k) one in let low = low_ones m k in omega arith)

-- in a word of 64 bits
pub all_ones : (m : ℕ) → m < 2 ^ 64 → count_ones m ≡ bits_below m 64
all_ones m l = let e : m ≡ m % 2 ^ 64 = omega arith in ap (λ z. count_ones z) e ∙ low_ones m 64

pub none_in : (masks : ℕ → ℕ) → 0 ≡ bits_in masks 0
unfolding bits_in
none_in masks = refl

pub one_more : (masks : ℕ → ℕ) (n count here : ℕ) → count ≡ bits_in masks n → here ≡ bits_below (masks n) 64 → count + here ≡ bits_in masks (n + 1)
unfolding bits_in
one_more masks n count here e f = (let g : bits_in masks (suc n) ≡ bits_in masks n + bits_below (masks n) 64 = refl in let s : suc n ≡ n + 1 = omega arith in let h = ap (bits_in masks) s in omega arith)

-- fewer bits are set in masks whose bits are among those of others
pub below_le : (m u k : ℕ) → ((i : ℕ) → bit_at m i ≡ 1 → bit_at u i ≡ 1) → bits_below m k ≤ bits_below u k
unfolding bits_below
below_le m u zero among = omega arith
below_le m u (suc k) among =
    let low = below_le m u k among in
    let one = bit_at-lt m k in
    elim (cases_eq (bit_at m k) 1) [
      | inl e ↦ (let f = among k e in omega arith)
      | inr n ↦ omega arith
    ]

pub in_le : (masks others : ℕ → ℕ) (n : ℕ) → ((c i : ℕ) → bit_at (masks c) i ≡ 1 → bit_at (others c) i ≡ 1) → bits_in masks n ≤ bits_in others n
unfolding bits_in
in_le masks others zero among = omega arith
in_le masks others (suc n) among = let low = in_le masks others n among in let here = below_le (masks n) (others n) 64 (among n) in omega arith
