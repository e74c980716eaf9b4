-- Bytes that stand for themselves in a line: no line feed, and no sign of a comment.
use Rattle.std.specs.Prelude.{◌&&◌, ◌||◌, if◌then◌else◌}
use Rattle.std.proofs.Common.{rules, ◌≡◌, ℕ, ◌^◌, ◌<◌, Bool, true, false, not, List, [], ◌∷◌, ◌++◌, refl, ap, ◌∙◌, arith}
use Rattle.std.specs.Prelude.{◌==◌, IsTrue}
use Rattle.std.specs.List.{list_all}
use Rattle.std.specs.Str.{all_ascii_digits}
use Rattle.std.specs.Str.Parse.{digits_value}
use Rattle.std.specs.Fmt.{decimal}
use Rattle.std.proofs.lemmas.Bool.Decides.{nat_tests}
use Rattle.std.proofs.lemmas.Grind.{common_steps}
use Rattle.std.proofs.lemmas.Str.Parse.{IsNumeralModel, numerals_by_value, tells_all_ascii_digits}
use Rattle.std.proofs.lemmas.Fmt.{digits_decimal}
use Rattle.sg_text.specs.Words.{is_blank, is_printable, is_line_feed, is_proper, before_comment, parted_by, onto_first}

-- a byte that may stand in a line outside its comment
abbrev pub is_plain : ℕ → Bool
is_plain c = (is_blank c || is_printable c) && not (c == 35) && not (c == 10)

-- each byte passes the test, or each fails
abbrev pub All : (ℕ → Bool) → Bool → List ℕ → Type 0
All p b [] = Unit {0}
All p b (c ∷ cs) = (p c ≡ b) × All p b cs

pub all_append : (p : ℕ → Bool) (b : Bool) (xs ys : List ℕ) → All p b xs → All p b ys → All p b (xs ++ ys)
all_append p b [] ys xs all = all
all_append p b (x ∷ xs) ys (one, rest) all = (one, all_append p b xs ys rest all)

own : IsNumeralModel (λ ds. all_ascii_digits ds ≡ true) (digits_value 10)
own = numerals_by_value _ tells_all_ascii_digits

digit_rest : (d : ℕ) (ds : List ℕ) → all_ascii_digits (d ∷ ds) ≡ true → all_ascii_digits ds ≡ true
digit_rest d ds h = grind (arith, nat_tests, common_steps)

plain_digit : (d : ℕ) (ds : List ℕ) → all_ascii_digits (d ∷ ds) ≡ true → is_plain d ≡ true
plain_digit d ds h = grind (arith, nat_tests, common_steps)

solid_digit : (d : ℕ) (ds : List ℕ) → all_ascii_digits (d ∷ ds) ≡ true → is_blank d ≡ false
solid_digit d ds h = grind (arith, nat_tests, common_steps)

plain_digits : (ds : List ℕ) → all_ascii_digits ds ≡ true → All is_plain true ds
plain_digits [] h = tt
plain_digits (d ∷ ds) h = (plain_digit d ds h, plain_digits ds (digit_rest d ds h))

solid_digits : (ds : List ℕ) → all_ascii_digits ds ≡ true → All is_blank false ds
solid_digits [] h = tt
solid_digits (d ∷ ds) h = (solid_digit d ds h, solid_digits ds (digit_rest d ds h))

-- a number in decimal is one word
pub plain_number : (n : ℕ) → n < 2 ^ 64 → All is_plain true (decimal n)
plain_number n fits = plain_digits (decimal n) (digits_decimal own n fits)

pub solid_number : (n : ℕ) → n < 2 ^ 64 → All is_blank false (decimal n)
solid_number n fits = solid_digits (decimal n) (digits_decimal own n fits)

-- the parts of bytes of which none parts, alone and in front of one that does
pub whole_part : (p : ℕ → Bool) (ds : List ℕ) → All p false ds → parted_by p ds ≡ ds ∷ []
whole_part p [] all = refl
whole_part p (d ∷ ds) (one, all) =
    ap (λ (b : Bool). if b then [] ∷ parted_by p ds else onto_first d (parted_by p ds)) one ∙ ap (onto_first d) (whole_part p ds all)

pub first_part : (p : ℕ → Bool) (ds : List ℕ) (c : ℕ) (more : List ℕ) → All p false ds → p c ≡ true → parted_by p (ds ++ c ∷ more) ≡ ds ∷ parted_by p more
first_part p [] c more all parts = ap (λ (b : Bool). if b then [] ∷ parted_by p more else onto_first c (parted_by p more)) parts
first_part p (d ∷ ds) c more (one, all) parts =
    ap (λ (b : Bool). if b then [] ∷ parted_by p (ds ++ c ∷ more) else onto_first d (parted_by p (ds ++ c ∷ more))) one
    ∙ ap (onto_first d) (first_part p ds c more all parts)

no_feed : (c : ℕ) → is_plain c ≡ true → is_line_feed c ≡ false
no_feed c h = grind (arith, nat_tests, common_steps)

pub no_feeds : (line : List ℕ) → All is_plain true line → All is_line_feed false line
no_feeds [] all = tt
no_feeds (c ∷ line) (one, all) = (no_feed c one, no_feeds line all)

no_comment_sign : (c : ℕ) → is_plain c ≡ true → not (c == 35) ≡ true
no_comment_sign c h = grind (arith, nat_tests, common_steps)

proper_byte : (c : ℕ) → is_plain c ≡ true → (is_blank c || is_printable c) ≡ true
proper_byte c h = grind (arith, nat_tests, common_steps)

taken : (c : ℕ) (line : List ℕ) → not (c == 35) ≡ true → before_comment (c ∷ line) ≡ c ∷ before_comment line
taken c line h = search (rules, h)

-- a line of plain bytes has no comment, and is proper
pub no_comment : (line : List ℕ) → All is_plain true line → before_comment line ≡ line
no_comment [] all = refl
no_comment (c ∷ line) (one, all) =
    taken c line (no_comment_sign c one) ∙ ap (λ (cs : List ℕ). c ∷ cs) (no_comment line all)

all_proper : (line : List ℕ) → All is_plain true line → list_all (λ c. is_blank c || is_printable c) line ≡ true
all_proper [] all = refl
all_proper (c ∷ line) (one, all) =
    ap (λ (b : Bool). b && list_all (λ d. is_blank d || is_printable d) line) (proper_byte c one) ∙ all_proper line all

pub proper : (line : List ℕ) → All is_plain true line → IsTrue (is_proper line)
proper line all = ap (list_all (λ c. is_blank c || is_printable c)) (no_comment line all) ∙ all_proper line all
