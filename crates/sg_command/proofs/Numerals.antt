-- The number of a turn in decimal: one digit or two.
use Rattle.std.specs.Prelude.{MatchOption}
use Rattle.std.proofs.Common.{◌≡◌, ℕ, ◌+◌, ◌*◌, ◌/◌, ◌%◌, ◌<◌, ◌≤◌, Option, Some, None, List, [], ◌∷◌, ◌++◌, length, get_or, sym, ap, ◌∙◌, inl, inr, arith}
use Rattle.std.proofs.lemmas.Bool.{cases_lt}
use Rattle.std.proofs.lemmas.Fmt.{decimal_digit, decimal_step}
use Rattle.std.specs.Fmt.{decimal}

two_digits : (n : ℕ) → 10 ≤ n → n ≤ 63 → decimal n ≡ (48 + n / 10) ∷ (48 + n % 10) ∷ []
two_digits n low high =
    decimal_step n low (omega arith) ∙ ap (λ (front : List ℕ). front ++ ((48 + n % 10) ∷ [])) (decimal_digit (n / 10) (omega arith))

-- the word spells the number of a turn
abbrev pub IsTurn : List ℕ → Type 0
IsTurn word = (n : ℕ) × (n ≤ 63) × (word ≡ decimal n)

-- the byte is a digit
abbrev pub IsDigit : ℕ → Type 0
IsDigit byte = (d : ℕ) × (d < 10) × (byte ≡ 48 + d)

-- the bytes of such a word: one digit, or two of which the first is no zero
data Digits (word : List ℕ) : Type 0 where
  single : (n : ℕ) → n < 10 → word ≡ (48 + n) ∷ [] → Digits word
  double : (n : ℕ) → 10 ≤ n → n ≤ 63 → word ≡ (48 + n / 10) ∷ (48 + n % 10) ∷ [] → Digits word

digits_of_turn : (word : List ℕ) → IsTurn word → Digits word
digits_of_turn word (n, high, is) =
    elim (cases_lt n 10) [
      | inl low ↦ single n low (is ∙ decimal_digit n low)
      | inr low ↦ double n low high (is ∙ two_digits n low high)
    ]

pub turn_length : (word : List ℕ) → IsTurn word → (1 ≤ length word) × (length word ≤ 2)
turn_length word is =
    elim (digits_of_turn word is) [
      | single n low same ↦ let len : length word ≡ 1 = ap length same in (omega arith, omega arith)
      | double n low high same ↦ let len : length word ≡ 2 = ap length same in (omega arith, omega arith)
    ]

pub first_digit : (word : List ℕ) → IsTurn word → IsDigit (get_or word 0 0)
first_digit word is =
    elim (digits_of_turn word is) [
      | single n low same ↦ (n, low, ap (λ (w : List ℕ). get_or w 0 0) same)
      | double n low high same ↦ (n / 10, omega arith, ap (λ (w : List ℕ). get_or w 0 0) same)
    ]

pub last_digit : (word : List ℕ) → length word ≡ 2 → IsTurn word → IsDigit (get_or word 1 0)
last_digit word two is =
    elim (digits_of_turn word is) [
      | single n low same ↦ let len : length word ≡ 1 = ap length same in absurd (omega arith)
      | double n low high same ↦ (n % 10, omega arith, ap (λ (w : List ℕ). get_or w 1 0) same)
    ]

-- two digits that spell the number of a turn
pub turn_value : (word : List ℕ) (tens ones : ℕ) → length word ≡ 2 → ones < 10 → get_or word 0 0 ≡ 48 + tens → get_or word 1 0 ≡ 48 + ones → IsTurn word → (0 < tens) × (10 * tens + ones ≤ 63)
turn_value word tens ones two few first last is =
    elim (digits_of_turn word is) [
      | single n low same ↦ let len : length word ≡ 1 = ap length same in absurd (omega arith)
      | double n low high same ↦
          let front : 48 + tens ≡ 48 + n / 10 = sym first ∙ ap (λ (w : List ℕ). get_or w 0 0) same in
          let back : 48 + ones ≡ 48 + n % 10 = sym last ∙ ap (λ (w : List ℕ). get_or w 1 0) same in
          (omega arith, omega arith)
    ]

one_spells : (word : List ℕ) (n : ℕ) → length word ≡ 1 → n < 10 → get_or word 0 0 ≡ 48 + n → word ≡ decimal n
one_spells [] n one low is = absurd (omega (arith, one))
one_spells (c ∷ []) n one low is = ap (λ (b : ℕ). b ∷ []) is ∙ sym (decimal_digit n low)
one_spells (c ∷ d ∷ cs) n one low is = absurd (omega (arith, one))

-- a word of one byte spells the number of a turn where that is a digit
pub turn_of_one : (word : List ℕ) (o : Option ℕ) → length word ≡ 1 → MatchOption o (¬ IsDigit (get_or word 0 0)) (λ d. (d < 10) × (get_or word 0 0 ≡ 48 + d)) → MatchOption o (¬ IsTurn word) (λ n. (n ≤ 63) × (word ≡ decimal n))
turn_of_one word None one h = λ is. h (first_digit word is)
turn_of_one word (Some n) one h = (omega (arith, h.0), one_spells word n one h.0 h.1)

-- two bytes that are digits, of which the first is no zero, spell theirs
pub two_spell : (word : List ℕ) (tens ones : ℕ) → length word ≡ 2 → 0 < tens → ones < 10 → 10 * tens + ones ≤ 63 → get_or word 0 0 ≡ 48 + tens → get_or word 1 0 ≡ 48 + ones → word ≡ decimal (10 * tens + ones)
two_spell [] tens ones two some low high first last = absurd (omega (arith, two))
two_spell (a ∷ []) tens ones two some low high first last = absurd (omega (arith, two))
two_spell (a ∷ b ∷ []) tens ones two some low high first last =
    let front : tens ≡ (10 * tens + ones) / 10 = omega arith in
    let back : ones ≡ (10 * tens + ones) % 10 = omega arith in
    let first' : a ≡ 48 + (10 * tens + ones) / 10 = omega arith in
    let last' : b ≡ 48 + (10 * tens + ones) % 10 = omega arith in
    let bytes : a ∷ b ∷ [] ≡ (48 + (10 * tens + ones) / 10) ∷ (48 + (10 * tens + ones) % 10) ∷ [] = cc in
    bytes ∙ sym (two_digits (10 * tens + ones) (omega arith) high)
two_spell (a ∷ b ∷ d ∷ cs) tens ones two some low high first last = absurd (omega (arith, two))
