-- Where the next set bit of a mask stands.
use Rattle.std.proofs.Common.{◌≡◌, ℕ, ◌+◌, ◌-◌, ◌/◌, ◌%◌, ◌^◌, ◌<◌, ◌≤◌, sym, ap, ◌∙◌, arith}
use Rattle.std.specs.Int.{bit_at, trailing_zeros, w64}
use Rattle.std.proofs.Math.Nat.{div-le_self}
use Rattle.std.proofs.lemmas.Nat.{shr-shr}
use Rattle.std.proofs.lemmas.Nat.Bits.{bit_at-trailing_zeros, bit_at-zero}

-- the bits of what is left of a mask without its low bits
bit_of_rest : (n k i : ℕ) → bit_at (n / 2 ^ k) i ≡ bit_at n (k + i)
bit_of_rest n k i = ap (λ (m : ℕ). m % 2) (shr-shr n k i)

pub next_is_set : (n k : ℕ) → 0 < n / 2 ^ k → n / 2 ^ k < 2 ^ 64 → bit_at n (k + trailing_zeros w64 (n / 2 ^ k)) ≡ 1
next_is_set n k some fits = sym (bit_of_rest n k (trailing_zeros w64 (n / 2 ^ k))) ∙ (bit_at-trailing_zeros w64 (n / 2 ^ k) some fits).1

-- no bit between is set
pub none_is_passed : (n k i : ℕ) → 0 < n / 2 ^ k → n / 2 ^ k < 2 ^ 64 → k ≤ i → i < k + trailing_zeros w64 (n / 2 ^ k) → bit_at n i ≡ 0
none_is_passed n k i some fits from below =
    let place : k + (i - k) ≡ i = omega arith in
    ap (bit_at n) (sym place) ∙ sym (bit_of_rest n k (i - k)) ∙ (bit_at-trailing_zeros w64 (n / 2 ^ k) some fits).2 (i - k) (omega arith)

-- where nothing is left, no bit is set
pub none_is_left : (n k i : ℕ) → n / 2 ^ k ≡ 0 → k ≤ i → bit_at n i ≡ 0
none_is_left n k i e from =
    let place : k + (i - k) ≡ i = omega arith in
    ap (bit_at n) (sym place) ∙ sym (bit_of_rest n k (i - k)) ∙ ap (λ (m : ℕ). bit_at m (i - k)) e ∙ bit_at-zero (i - k)

pub rest_fits : (n k : ℕ) → n < 2 ^ 64 → n / 2 ^ k < 2 ^ 64
rest_fits n k fits = omega (arith, div-le_self n (2 ^ k), fits)
