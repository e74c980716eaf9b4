use Rattle.std.proofs.Common.{◌≡◌, arith, sym, ◌∙◌}
use Rattle.std.proofs.lemmas.Fmt.{decimal_injective}
use Rattle.sg_command.proofs.numbers.load_in.Goals.{else-size-ge-LEAST-via-then-size-ge-LEAST+else-size-le-GREATEST, else-size-ge-LEAST-via-else-size-ge-LEAST}
use Rattle.sg_command.proofs.numbers.load_in.Goals as goal

pub returns-else-size-ge-LEAST : goal.returns-else-size-ge-LEAST
returns-else-size-ge-LEAST c = λ (n, m, seed, size, load).
    let small = load.small in
    let large = load.large in
    let same : c.in_ok-size.size ≡ m = decimal_injective c.in_ok-size.size m (omega arith) (omega (arith, small)) (sym c.in_ok-size.ensures ∙ size) in
    elim c.else-size-ge-LEAST.branch [
      | else-size-ge-LEAST-via-then-size-ge-LEAST+else-size-le-GREATEST w ↦ let b = w.if-size-le-GREATEST.false in omega (arith, b, small, same)
      | else-size-ge-LEAST-via-else-size-ge-LEAST w ↦ let b = w.if-size-ge-LEAST.false in omega (arith, b, large, same)
    ]
