-- A word that spells a list of turns, and its parts between the commas.
use Rattle.std.proofs.Common.{◌≡◌, ℕ, ◌<◌, ◌≤◌, Bool, true, false, eqb, List, [], ◌∷◌, ◌++◌, length, get_or, map, refl, sym, ap, ◌∙◌, arith, All}
use Rattle.std.specs.List.{AllByRecursion, slice_split, join_with_byte}
use Rattle.std.specs.Str.{all_ascii_digits}
use Rattle.std.specs.Str.Parse.{digits_value}
use Rattle.std.specs.Fmt.{decimal}
use Rattle.std.proofs.lemmas.Bool.Decides.{nat_tests}
use Rattle.std.proofs.lemmas.Grind.{common_steps}
use Rattle.std.proofs.lemmas.List.{length-map, get_or-map}
use Rattle.std.proofs.lemmas.List.Elements.{All-from_recursion}
use Rattle.std.proofs.lemmas.List.Splits.{slice_split_none, slice_split_at, length-slice_split, join_with_byte-slice_split}
use Rattle.std.proofs.lemmas.Str.Parse.{IsNumeralModel, numerals_by_value, tells_all_ascii_digits}
use Rattle.std.proofs.lemmas.Fmt.{digits_decimal, decimal_injective}
use Rattle.sg_command.specs.Command.{spelled, AreTurns, Spells}

abbrev pub is_comma : ℕ → Bool
is_comma b = eqb b 44

-- the parts of a word between its commas
abbrev pub parts : List ℕ → List (List ℕ)
parts word = slice_split is_comma word

own : IsNumeralModel (λ ds. all_ascii_digits ds ≡ true) (digits_value 10)
own = numerals_by_value _ tells_all_ascii_digits

no_commas : (ds : List ℕ) → all_ascii_digits ds ≡ true → AllByRecursion (λ b. eqb b 44 ≡ false) ds
no_commas [] h = tt
no_commas (d ∷ ds) h = (first d ds h, no_commas ds (rest d ds h))
  where
    first : (d : ℕ) (ds : List ℕ) → all_ascii_digits (d ∷ ds) ≡ true → eqb d 44 ≡ false
    first d ds h = grind (arith, nat_tests, common_steps)

    rest : (d : ℕ) (ds : List ℕ) → all_ascii_digits (d ∷ ds) ≡ true → all_ascii_digits ds ≡ true
    rest d ds h = grind (arith, nat_tests, common_steps)

number_whole : (n : ℕ) → n ≤ 63 → All (λ b. eqb b 44 ≡ false) (decimal n)
number_whole n small = All-from_recursion _ (decimal n) (no_commas (decimal n) (digits_decimal own n (omega arith)))

-- the parts of a spelled list are its numbers in decimal
pub parts_spelled : (turns : List ℕ) → 1 ≤ length turns → AllByRecursion (λ n. n ≤ 63) turns → parts (spelled turns) ≡ map decimal turns
parts_spelled [] some small = absurd (omega (arith, some))
parts_spelled (n ∷ []) some small = slice_split_none _ (decimal n) (number_whole n small.0)
parts_spelled (n ∷ m ∷ more) some small =
    slice_split_at _ (decimal n) 44 (spelled (m ∷ more)) (number_whole n small.0) refl
    ∙ ap (λ (ps : List (List ℕ)). decimal n ∷ ps) (parts_spelled (m ∷ more) (omega arith) small.1)

pub parts_of : (word turns : List ℕ) → Spells word turns → parts word ≡ map decimal turns
parts_of word turns is = ap parts is.0 ∙ parts_spelled turns is.1.some is.1.small

joined : (turns : List ℕ) → join_with_byte 44 (map decimal turns) ≡ spelled turns
joined [] = refl
joined (n ∷ []) = refl
joined (n ∷ m ∷ more) = ap (λ (text : List ℕ). decimal n ++ (44 ∷ text)) (joined (m ∷ more))

-- a word whose parts are these numbers spells them
pub spelled_by_parts : (word turns : List ℕ) → map decimal turns ≡ parts word → length turns ≤ 65536 → AllByRecursion (λ n. n ≤ 63) turns → Spells word turns
spelled_by_parts word turns same few small =
    let text : word ≡ spelled turns = sym (join_with_byte-slice_split 44 word) ∙ ap (join_with_byte 44) (sym same) ∙ joined turns in
    let count : length turns ≡ length (parts word) = sym (length-map turns decimal) ∙ ap length same in
    let some = length-slice_split (λ b. eqb b 44) word in
    (text, record { some = omega arith; few = few; small = small })

-- each part of a word that spells a list of turns is the number of a turn
pub part_of_turns : (word turns : List ℕ) (k : ℕ) (part : List ℕ) → Spells word turns → k < length (parts word) → part ≡ get_or (parts word) k part → (n : ℕ) × (n ≤ 63) × (part ≡ decimal n)
part_of_turns word turns k part is within at =
    let same = parts_of word turns is in
    let inside : k < length turns = omega (arith, ap length same, length-map turns decimal) in
    let number : get_or (parts word) k part ≡ decimal (get_or turns k 0) = ap (λ (ps : List (List ℕ)). get_or ps k part) same ∙ get_or-map decimal turns k 0 part inside in
    (get_or turns k 0, All-from_recursion _ turns is.1.small k 0 inside, at ∙ number)

-- behind 65,536 parts there is none
pub no_more_parts : (word turns : List ℕ) (count k : ℕ) → Spells word turns → 65536 ≤ count → count ≡ k → ¬ (k < length (parts word))
no_more_parts word turns count k is many same within = let few = is.1.few in omega (arith, ap length (parts_of word turns is), length-map turns decimal)

same_numbers : (xs ys : List ℕ) → AllByRecursion (λ n. n ≤ 63) xs → AllByRecursion (λ n. n ≤ 63) ys → map decimal xs ≡ map decimal ys → xs ≡ ys
same_numbers [] [] small small' same = refl
same_numbers [] (y ∷ ys) small small' same = absurd cc
same_numbers (x ∷ xs) [] small small' same = absurd cc
same_numbers (x ∷ xs) (y ∷ ys) small small' same =
    let head : decimal x ≡ decimal y = cc in
    let tail : map decimal xs ≡ map decimal ys = cc in
    let first : x ≡ y = decimal_injective x y (omega (arith, small.0)) (omega (arith, small'.0)) head in
    let rest : xs ≡ ys = same_numbers xs ys small.1 small'.1 tail in
    cc

-- a spelled list is that of one list
pub one_list : (first second : List ℕ) → AreTurns first → AreTurns second → spelled first ≡ spelled second → first ≡ second
one_list first second one two same =
    same_numbers first second one.small two.small
    (sym (parts_spelled first one.some one.small) ∙ ap parts same ∙ parts_spelled second two.some two.small)
