use Rattle.std.proofs.Common.{◌∙◌, ap, sym, ◌++◌, ◌∷◌, List, [], ℕ, arith}
use Rattle.std.proofs.lemmas.Fmt.{decimal_digit}
use Rattle.sg_trace.proofs.trace.append_number.Goals as goal

-- src/trace.rt:346:9
pub returns-then-number-lt10-clause-appended : goal.returns-then-number-lt10-clause-appended
returns-then-number-lt10-clause-appended c =
    c.in_ok-push.ensures.items ∙ ap (λ (x : ℕ). c.args.out.now.items ++ x ∷ []) (omega (arith, c.if-number-lt10.true)) ∙ ap (λ (z : List ℕ). c.args.out.now.items ++ z) (sym (decimal_digit c.args.number c.if-number-lt10.true))
