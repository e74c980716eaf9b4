use Rattle.std.proofs.Common.{rules, ℕ, ◌≤◌, length, [], ◌∷◌, ◌++◌, arith, length-append}
use Rattle.sg_graph.specs.declared.reports.Part.{Part}
use Rattle.sg_load.specs.Summary.{answers_in_part, answers_in_parts}
use Rattle.sg_load.proofs.tests.answers_of_an_epoch.Goals as goal

one_part : (k : ℕ) (x : Part) → length (answers_in_part k x) ≤ length x.answers
one_part k x = search (rules, arith)

two_parts : (k : ℕ) (x y : Part) → length x.answers ≤ 6 → length y.answers ≤ 6 → length (answers_in_parts k (x ∷ y ∷ [])) ≤ 12
two_parts k x y lx ly =
    let a = length-append (answers_in_part k x) (answers_in_part k y ++ []) in
    let b = length-append (answers_in_part k y) [] in
    let p = one_part k x in
    let q = one_part k y in
    omega (arith, a, b, p, q, lx, ly)

-- src/tests.rt:50:5
pub count_epoch-requires-clause-short : goal.count_epoch-requires-clause-short
count_epoch-requires-clause-short g c k l =
    let both = two_parts k c.in_ok-part.field-0 c.in_ok-part-2.field-0 (search (rules, arith)) (search (rules, arith)) in
    search (rules, arith, both)
