use Rattle.std.proofs.Common.{◌≡◌, ◌<◌, ◌≤◌, ℕ, List, Some, length, get_or, take, refl, ap, arith}
use Rattle.std.proofs.lemmas.List.{take_all}
use Rattle.std.specs.Str.Parse.{AllDigits, digits_value}
use Rattle.sg_text.specs.Words.{IsNumber}
use Rattle.sg_text.proofs.WordLemmas.{one_more_digit, digits_below, digits_spell, number_digit_at, number_unique}
use Rattle.sg_text.proofs.words.few_digits.Goals as goal

pub loop-at-init : goal.loop-at-init
loop-at-init c = record { digits = tt; value = refl }

pub returns-then-byte-lt48-clause-only : goal.returns-then-byte-lt48-clause-only
returns-then-byte-lt48-clause-only c = λ n is. let low = (number_digit_at c.args.word.now n c.loop-at.at is c.loop-at-test.true).0 in let not_low = c.if-byte-lt48.true in absurd (omega arith)

pub returns-then-byte-gt57-clause-only : goal.returns-then-byte-gt57-clause-only
returns-then-byte-gt57-clause-only c = λ n is. let high = (number_digit_at c.args.word.now n c.loop-at.at is c.loop-at-test.true).1 in let not_high = c.if-byte-gt57.true in absurd (omega arith)

pub overflow_mul-number : goal.overflow_mul-number
overflow_mul-number c = let below = digits_below c.args.word.now c.loop-at.at c.loop-at.number c.loop-at-test.true c.requires.few c.loop-at.invariant.digits c.loop-at.invariant.value in omega arith

pub overflow_add-number : goal.overflow_add-number
overflow_add-number c =
    let below = digits_below c.args.word.now c.loop-at.at c.loop-at.number c.loop-at-test.true c.requires.few c.loop-at.invariant.digits c.loop-at.invariant.value in
    let high = c.if-byte-gt57.false in
    let is = c.from.ensures in
    omega arith

pub loop-at-preserved : goal.loop-at-preserved
loop-at-preserved c =
    let more = one_more_digit c.args.word.now c.loop-at.at c.loop-at.number c.from.result c.loop-at-test.true c.if-byte-lt48.false c.if-byte-gt57.false c.from.ensures c.loop-at.invariant.digits c.loop-at.invariant.value in
    record { digits = more.0; value = more.1 }

-- the digits that were read are all
spells : (word : List ℕ) (at number : ℕ) → length word ≤ at → 0 < length word → length word ≤ 19 → (get_or word 0 0 ≡ 48 → ⊥) → AllDigits 10 (take at word) → number ≡ digits_value 10 (take at word) → IsNumber word number
spells word at number past some few lead digits value =
    let all : take at word ≡ word = take_all at word past in
    digits_spell word number some few lead (rw all at digits) (rw all at value)

pub returns-clause-found : goal.returns-clause-found
returns-clause-found c = spells c.args.word.now c.loop-at.at c.loop-at.number c.loop-at-test.false c.requires.some c.requires.few c.requires.lead c.loop-at.invariant.digits c.loop-at.invariant.value

pub returns-clause-only : goal.returns-clause-only
returns-clause-only c = λ n is. ap (λ (m : ℕ). Some m) (number_unique c.args.word.now c.loop-at.number n (spells c.args.word.now c.loop-at.at c.loop-at.number c.loop-at-test.false c.requires.some c.requires.few c.requires.lead c.loop-at.invariant.digits c.loop-at.invariant.value) is)
