use Rattle.std.proofs.Common.{◌≡◌, length, arith}
use Rattle.sg_command.proofs.Numerals.{first_digit, last_digit, turn_value, turn_of_one, two_spell}
use Rattle.sg_command.proofs.turns.turn.Goals as goal
use Rattle.sg_command.proofs.turns.turn.Goals.{else-tens-gt0-via-then-tens-gt0+else-number-le-HIGHEST, else-tens-gt0-via-else-tens-gt0}

pub returns-in_err-tens-in-len2 : goal.returns-in_err-tens-in-len2
returns-in_err-tens-in-len2 c = rw c.from_residual.ensures (λ is. c.in_err-tens-in-len2.ensures (first_digit c.args.word.now is))

pub returns-in_err-ones-in-len2 : goal.returns-in_err-ones-in-len2
returns-in_err-ones-in-len2 c =
    let two : length c.args.word.now ≡ 2 = omega arith in
    rw c.from_residual-in_err-ones-in-len2.ensures (λ is. c.in_err-ones-in-len2.ensures (last_digit c.args.word.now two is))

pub returns-in-len1 : goal.returns-in-len1
returns-in-len1 c = turn_of_one c.args.word.now c.digit.result (omega arith) c.digit.ensures

pub returns-then-number-le-HIGHEST : goal.returns-then-number-le-HIGHEST
returns-then-number-le-HIGHEST c = (
  c.if-number-le-HIGHEST.true,
  two_spell c.args.word.now c.in_ok-tens-in-len2.tens c.in_ok-ones-in-len2.ones (omega arith) c.if-tens-gt0.true c.in_ok-ones-in-len2.ensures.0 c.if-number-le-HIGHEST.true c.in_ok-tens-in-len2.ensures.1 c.in_ok-ones-in-len2.ensures.1,
)

pub returns-else-tens-gt0 : goal.returns-else-tens-gt0
returns-else-tens-gt0 c = λ is.
    let two : length c.args.word.now ≡ 2 = omega arith in
    let value = turn_value c.args.word.now c.in_ok-tens-in-len2.tens c.in_ok-ones-in-len2.ones two c.in_ok-ones-in-len2.ensures.0 c.in_ok-tens-in-len2.ensures.1 c.in_ok-ones-in-len2.ensures.1 is in
    elim c.else-tens-gt0.branch [
      | else-tens-gt0-via-then-tens-gt0+else-number-le-HIGHEST w ↦ absurd (omega (arith, value.1))
      | else-tens-gt0-via-else-tens-gt0 w ↦ absurd (omega (arith, value.0))
    ]
