use Rattle.std.proofs.Common.{rules, ◌≡◌, Ok, sym, ap, ◌∙◌}
use Rattle.std.specs.Fmt.{decimal}
use Rattle.std.proofs.lemmas.Fmt.{parse-decimal}
use Rattle.sg_command.proofs.numbers.number_in.Goals as goal

pub returns-in_default : goal.returns-in_default
returns-in_default c = λ (n, fits, is).
    let read : c.parse.result ≡ Ok n = parse-decimal 64 n c.args.word.now c.parse.result fits fits is c.parse.ensures.value.0 in
    c.in_default.not-Ok n read

pub returns-else-eq : goal.returns-else-eq
returns-else-eq c = λ (n, fits, is).
    let read : c.parse.result ≡ Ok n = parse-decimal 64 n c.args.word.now c.parse.result fits fits is c.parse.ensures.value.0 in
    let same : Ok c.in-Ok.number ≡ Ok n = sym c.in-Ok.is ∙ read in
    let number : c.in-Ok.number ≡ n = cc in
    let equal : c.format.result.now ≡ c.args.word.now = c.format.ensures.text ∙ ap decimal number ∙ sym is in
    search (rules, equal)
