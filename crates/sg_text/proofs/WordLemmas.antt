-- Numbers, registers, names and masks.
use Rattle.std.specs.Prelude.{IfSome}
use Rattle.std.specs.Result.{result_ok}
use mir.Val.{bool_byte}
use Rattle.std.proofs.Math.Seq.{drop-cons}
use Rattle.std.proofs.Math.Nat.{pow-suc}
use Rattle.std.proofs.Math.Pow.{pow_mono}
use Rattle.std.proofs.Common.{Option, Some, ◌≡◌, ◌≢◌, ℕ, zero, suc, ◌+◌, ◌*◌, ◌-◌, ◌^◌, ◌<◌, ◌≤◌, Bool, true, false, cond, eqb, List, [], ◌∷◌, length, get_or, drop, take, Result, Ok, Err, refl, sym, ap, subst, ◌∙◌, arith}
use Rattle.std.specs.Fmt.{decimal}
use Rattle.std.specs.Char.{digit_value}
use Rattle.std.specs.Str.Parse.{AllDigits, ParsesUnsigned, digits_value}
use Rattle.std.specs.Str.{all_ascii_digits}
use Rattle.std.specs.Str.{IsUtf8}
use Rattle.std.proofs.lemmas.List.{length-take-le}
use Rattle.std.proofs.lemmas.Int.Digits.{digits_value_more, digits_more}
use Rattle.std.proofs.lemmas.Str.{IsUtf8-from_ascii, digit_value_digit}
use Rattle.std.proofs.lemmas.Str.Parse.{IsNumeralModel, numerals_by_value, tells_digits, tells_all_ascii_digits, digits_value_short, digit_at, parse_plain}
use Rattle.std.proofs.lemmas.Fmt.{parse-decimal, decimal_injective, IsAscii-decimal, decimal-digits_value, digits_decimal, first_decimal, decimal_digit, decimal_nonempty}
use Rattle.sg_text.specs.Words.{IsNumber, mask_bits}

pub own : IsNumeralModel (λ ds. all_ascii_digits ds ≡ true) (digits_value 10)
own = numerals_by_value _ tells_all_ascii_digits

pub number_found : (E : Type 0) (word : List ℕ) (n : ℕ) → ParsesUnsigned {E = E} 64 10 word (Ok n) → get_or word 0 0 ≢ 43 → (get_or word 0 0 ≡ 48 → length word ≡ 1) → IsNumber word n
number_found E word n parses sign lead =
    let h = parse_plain own {E = E} 64 word (Ok n) parses sign in
    let spelled : decimal (digits_value 10 word) ≡ word = decimal-digits_value own word h.0.0 h.0.1 lead h.0.2 in
    (rw h.1 (sym spelled), rw h.1 h.0.2)

pub number_again : {E : Type 0} (word : List ℕ) (r : Result ℕ E) (n : ℕ) → ParsesUnsigned 64 10 word r → IsNumber word n → r ≡ Ok n
number_again word r n parses is = parse-decimal 64 n word r is.1 is.1 is.0 parses

pub number_has_digits : (word : List ℕ) (n : ℕ) → IsNumber word n → all_ascii_digits word ≡ true
number_has_digits word n is = rw is.0 (digits_decimal own n is.1)

pub number_nonempty : (word : List ℕ) (n : ℕ) → IsNumber word n → 0 < length word
number_nonempty word n is = rw is.0 (decimal_nonempty n is.1)

pub number_unsigned : (word : List ℕ) (n : ℕ) → IsNumber word n → get_or word 0 0 ≡ 43 → ⊥
number_unsigned [] n is e = absurd (omega arith)
number_unsigned (c ∷ cs) n is e =
    let digits : all_ascii_digits (c ∷ cs) ≡ true = number_has_digits (c ∷ cs) n is in
    let at : all_ascii_digits (43 ∷ cs) ≡ true = subst (λ (x : ℕ). all_ascii_digits (x ∷ cs) ≡ true) e digits in
    absurd cc

pub number_without_zeros : (word : List ℕ) (n : ℕ) → IsNumber word n → get_or word 0 0 ≡ 48 → 1 < length word → ⊥
number_without_zeros word zero is e long =
    let one : decimal 0 ≡ 48 ∷ [] = decimal_digit 0 (omega arith) in
    let len : length word ≡ 1 = rw (is.0, one) refl in
    omega arith
number_without_zeros word (suc n) is e long =
    let big : 48 < get_or (decimal (suc n)) 0 0 = first_decimal (suc n) (omega arith) is.1 in
    let same : get_or (decimal (suc n)) 0 0 ≡ 48 = rw (← is.0) e in
    omega arith

pub number_unique : (word : List ℕ) (m n : ℕ) → IsNumber word m → IsNumber word n → m ≡ n
number_unique word m n a b = decimal_injective m n a.1 b.1 (sym a.0 ∙ b.0)

pub number_ascii : (word : List ℕ) (n : ℕ) → IsNumber word n → IsUtf8 word
number_ascii word n is = rw is.0 (IsUtf8-from_ascii (decimal n) (IsAscii-decimal n is.1))

pub parsed_found : (E : Type 0) (text word : List ℕ) (r : Result ℕ E) (o : Option ℕ) → text ≡ word → o ≡ result_ok r → ParsesUnsigned {E = E} 64 10 text r → get_or word 0 0 ≢ 43 → get_or word 0 0 ≢ 48 → IfSome o (IsNumber word)
parsed_found E text word (Ok n) o same e parses sign lead = rw e (number_found E word n (rw same at parses) sign (λ h. absurd (lead h)))
parsed_found E text word (Err d) o same e parses sign lead = rw e tt

pub parsed_again : (E : Type 0) (text word : List ℕ) (r : Result ℕ E) (o : Option ℕ) (n : ℕ) → text ≡ word → o ≡ result_ok r → ParsesUnsigned {E = E} 64 10 text r → IsNumber word n → o ≡ Some n
parsed_again E text word r o n same e parses is = let again = number_again {E = E} word r n (rw same at parses) is in rw (e, again) refl

pub zero_alone : (word : List ℕ) → get_or word 0 0 ≡ 48 → length word ≡ 1 → IsNumber word 0
zero_alone [] e len = absurd (omega arith)
zero_alone (c ∷ []) e len = (rw (e, decimal_digit 0 (omega arith)) refl, omega arith)
zero_alone (c ∷ d ∷ cs) e len = absurd (omega arith)

pub bit_is : (b : Bool) → (bool_byte b ≡ cond b 1 0) × (bool_byte b ≤ 1)
bit_is true = (refl, omega arith)
bit_is false = (refl, omega arith)

mask_front : (mask : List ℕ) (k bits : ℕ) → k < length mask → bits ≡ mask_bits (drop (suc k) mask) → 2 * bits + cond (eqb (get_or mask k 0) 114) 1 0 ≡ mask_bits (drop k mask)
mask_front mask k bits inside e = rw (drop-cons mask k 0 inside, ← e) (omega arith)

pub mask_more : (mask : List ℕ) (at bits d : ℕ) → 0 < at → at ≤ length mask → bits ≡ mask_bits (drop at mask) → d ≡ bool_byte (eqb (get_or mask (at - 1) 0) 114) → 2 * bits + d ≡ mask_bits (drop (at - 1) mask)
mask_more mask at bits d pos within e one =
    let k : suc (at - 1) ≡ at = omega arith in
    let there : bits ≡ mask_bits (drop (suc (at - 1)) mask) = subst (λ (j : ℕ). bits ≡ mask_bits (drop j mask)) (sym k) e in
    rw (one, (bit_is (eqb (get_or mask (at - 1) 0) 114)).0) (mask_front mask (at - 1) bits (omega arith) there)

pub mask_small : (len at bits d : ℕ) → 0 < at → at ≤ len → (b : Bool) → d ≡ bool_byte b → bits < 2 ^ (len - at) → 2 * bits + d < 2 ^ (len - (at - 1))
mask_small len at bits d pos within b one small =
    let least : d ≤ 1 = rw one (bit_is b).1 in
    let k : len - (at - 1) ≡ suc (len - at) = omega arith in
    rw (k, pow-suc 2 (len - at)) (omega arith)

pub mask_fits : (len bits : ℕ) → len < 61 → bits < 2 ^ len → bits < 2 ^ 60
mask_fits len bits short small = let most : 2 ^ len ≤ 2 ^ 60 = pow_mono {i = len} {j = 60} (omega arith) in omega arith

-- a single byte
pub digit_found : (byte : ℕ) → 48 ≤ byte → byte ≤ 57 → IsNumber (byte ∷ []) (byte - 48)
digit_found byte low high =
    let same : byte ≡ 48 + (byte - 48) = omega arith in
    (ap (λ (b : ℕ). b ∷ []) same ∙ sym (decimal_digit (byte - 48) (omega arith)), omega arith)

-- digits, and how far they were read
tested : IsNumeralModel (AllDigits 10) (digits_value 10)
tested = numerals_by_value (AllDigits 10) tells_digits

pub one_more_digit : (word : List ℕ) (at number d : ℕ) → at < length word → 48 ≤ get_or word at 0 → get_or word at 0 ≤ 57 → d ≡ get_or word at 0 - 48 → AllDigits 10 (take at word) → number ≡ digits_value 10 (take at word) → AllDigits 10 (take (at + 1) word) × (10 * number + d ≡ digits_value 10 (take (at + 1) word))
one_more_digit word at number d inside low high one digits value =
    let is : digit_value (get_or word at 0) + 48 ≡ get_or word at 0 = digit_value_digit (get_or word at 0) (low, high) in
    (digits_more 10 word at inside digits (omega arith), rw (digits_value_more 10 word at inside) (omega arith))

pub digits_below : (word : List ℕ) (at number : ℕ) → at < length word → length word ≤ 19 → AllDigits 10 (take at word) → number ≡ digits_value 10 (take at word) → number < 10 ^ 18
digits_below word at number inside few digits value =
    let long : length (take at word) ≡ at = length-take-le at word (omega arith) in
    let below : digits_value 10 (take at word) < 10 ^ 18 = digits_value_short tested (take at word) 18 digits (omega (arith, long)) in
    omega arith

pub digits_spell : (word : List ℕ) (number : ℕ) → 0 < length word → length word ≤ 19 → (get_or word 0 0 ≡ 48 → ⊥) → AllDigits 10 word → number ≡ digits_value 10 word → IsNumber word number
digits_spell word number some few lead digits value =
    let below : digits_value 10 word < 10 ^ 19 = digits_value_short tested word 19 digits few in
    let small : digits_value 10 word < 2 ^ 64 = omega arith in
    let spelled : decimal (digits_value 10 word) ≡ word = decimal-digits_value tested word digits some (λ e. absurd (lead e)) small in
    rw value (sym spelled, small)

pub number_digit_at : (word : List ℕ) (n at : ℕ) → IsNumber word n → at < length word → (48 ≤ get_or word at 0) × (get_or word at 0 ≤ 57)
number_digit_at word n at is inside = digit_at word at (own.to word (number_has_digits word n is)) inside
