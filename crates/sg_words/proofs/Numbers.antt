-- Byte addresses and the numbers of words.
use Rattle.std.proofs.Common.{◌≡◌, ℕ, ◌+◌, ◌*◌, ◌%◌, ◌^◌, ◌<◌, ◌≤◌, arith}
use Rattle.sg_words.specs.Address.{IsAddress, byte_at, word_at}

pub word_at-byte_at : (x : ℕ) → word_at (byte_at x) ≡ x
word_at-byte_at x = omega arith

pub word_at-plus : (a k : ℕ) → word_at (a + 8 * k) ≡ word_at a + k
word_at-plus a k = omega arith

pub whole_address : (a : ℕ) → a % 8 ≡ 0 → byte_at (word_at a) ≡ a
whole_address a e = omega arith

pub is_address : (x : ℕ) → 512 ≤ x → x < 2 ^ 32 → IsAddress (byte_at x)
is_address x above below = (omega arith, omega arith, omega arith)

pub whole-plus : (a k : ℕ) → byte_at (word_at a) ≡ a → byte_at (word_at (a + 8 * k)) ≡ a + 8 * k
whole-plus a k e = omega arith
