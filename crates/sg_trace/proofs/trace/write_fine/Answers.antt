use Rattle.std.proofs.Common.{◌∷◌, ℕ, List, set, arith, ap, ◌∙◌, length-set}
use Rattle.std.proofs.lemmas.List.{drop-set, drop_all}
use Rattle.sg_trace.proofs.trace.write_fine.Goals as goal

pub returns-clause-written : goal.returns-clause-written
returns-clause-written c =
    let line : List ℕ = c.args.line.now in
    let last : List ℕ = set line 62 10 in
    let two : List ℕ = set last 61 107 in
    let n = c.told-line in
    let one_long = length-set line 62 10 in
    let two_long = length-set last 61 107 in
    drop-set two 60 111 (omega (arith, n, one_long, two_long)) ∙ ap (λ (t : List ℕ). 111 ∷ t) (drop-set last 61 107 (omega (arith, n, one_long))
    ∙ ap (λ (t : List ℕ). 107 ∷ t) (drop-set line 62 10 (omega (arith, n)) ∙ ap (λ (t : List ℕ). 10 ∷ t) (drop_all 63 line (omega (arith, n)))))
