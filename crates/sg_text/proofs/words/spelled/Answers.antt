use Rattle.std.proofs.Common.{◌≡◌, arith, sym, length}
use Rattle.std.proofs.lemmas.Bool.{eqb-true}
use Rattle.sg_text.proofs.WordLemmas.{number_nonempty, number_unsigned, number_without_zeros, number_ascii, zero_alone, parsed_found, parsed_again, number_unique}
use Rattle.sg_text.proofs.words.spelled.Goals as goal

pub returns-then-is_empty-clause-only : goal.returns-then-is_empty-clause-only
returns-then-is_empty-clause-only c = λ n is.
    let some = number_nonempty c.args.word.now n is in
    let none : length c.args.word.now ≡ 0 = eqb-true (length c.args.word.now) 0 (sym (c.if-is_empty.ensures)) in
    absurd (omega arith)

pub returns-then-word-eq43-clause-only : goal.returns-then-word-eq43-clause-only
returns-then-word-eq43-clause-only c = λ n is. absurd (number_unsigned c.args.word.now n is c.if-word-eq43.true)

pub returns-in-Ok-clause-found : goal.returns-in-Ok-clause-found
returns-in-Ok-clause-found c = parsed_found _ c.in-Ok.text.now c.args.word.now c.parse.result c.ok.result c.in-Ok.ensures.cases.0 c.ok.ensures.value c.parse.ensures.value.0 c.if-word-eq43.false c.if-word-eq48.false

pub returns-in-Ok-clause-only : goal.returns-in-Ok-clause-only
returns-in-Ok-clause-only c = λ n is. parsed_again _ c.in-Ok.text.now c.args.word.now c.parse.result c.ok.result n c.in-Ok.ensures.cases.0 c.ok.ensures.value c.parse.ensures.value.0 is

pub returns-in-Err-clause-only : goal.returns-in-Err-clause-only
returns-in-Err-clause-only c = λ n is. absurd (c.in-Err.ensures.cases.0 (number_ascii c.args.word.now n is))

pub returns-then-word-eq1-clause-found : goal.returns-then-word-eq1-clause-found
returns-then-word-eq1-clause-found c = zero_alone c.args.word.now c.if-word-eq48.true c.if-word-eq1.true

pub returns-then-word-eq1-clause-only : goal.returns-then-word-eq1-clause-only
returns-then-word-eq1-clause-only c = λ n is. let same = number_unique c.args.word.now 0 n (zero_alone c.args.word.now c.if-word-eq48.true c.if-word-eq1.true) is in cc

pub returns-else-word-eq1-clause-only : goal.returns-else-word-eq1-clause-only
returns-else-word-eq1-clause-only c = λ n is.
    let some = number_nonempty c.args.word.now n is in
    absurd (number_without_zeros c.args.word.now n is c.if-word-eq48.true (omega arith))
