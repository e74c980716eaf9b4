use Rattle.std.proofs.Common.{◌≡◌, ℕ, ◌<◌, ◌≤◌, List, [], ◌∷◌, ◌++◌, length, sym, ap, ◌∙◌, arith, append-nil}
use Rattle.std.proofs.lemmas.List.Concat.{flat_map-append}
use Rattle.sg_program.specs.declared.program.Program.{Program}
use Rattle.sg_program.specs.declared.answers.Answer.{Answer}
use Rattle.sg_program.specs.Scripts.{script_of}
use Rattle.sg_graph.specs.Run.{Phase, IsRun}
use Rattle.sg_graph.specs.Run.IsRun.{BehindStop, BehindEpoch}
use Rattle.sg_load.specs.Summary.{answers_in, answers_in_run, empty_tally, counted, counted_from, tallies_of}
use Rattle.sg_load.proofs.Counting.{counted_more}
use Rattle.sg_load.proofs.Runs.{goes_answers, goes_done, epoch_answers, one_epoch, all_answers}
use Rattle.sg_load.proofs.laws.answers_are_counted.Goals as goal

most : (p : Program) (phases : List Phase) (k : ℕ) → k < length p.mutators → IsRun p phases → length (answers_in_run k phases) ≤ length (script_of p k)
most p phases k l (BehindStop n same g b goes) = let all = goes_answers p n phases g b goes k l in omega (arith, all)
most p phases k l (BehindEpoch n before g b order swept report h c goes epoch) =
    let so_far = goes_answers p n before g b goes k l in
    let here = epoch_answers p n g b order swept report h c epoch (goes_done p n before g b goes) k l in
    let all = one_epoch k before report order swept in
    omega (arith, so_far, here, all)

one_more : (phases : List Phase) (phase : Phase) (k : ℕ) →
    counted empty_tally (answers_in_run k (phases ++ phase ∷ [])) ≡ counted (counted empty_tally (answers_in_run k phases)) (answers_in k phase)
one_more phases phase k =
    ap (counted empty_tally) (flat_map-append (answers_in k) phases (phase ∷ []) ∙ ap (λ (xs : List Answer). answers_in_run k phases ++ xs) (append-nil (answers_in k phase)))
    ∙ sym (counted_more empty_tally (answers_in_run k phases) (answers_in k phase))

added : (phases : List Phase) (phase : Phase) → tallies_of (phases ++ phase ∷ []) ≡ counted_from 0 (tallies_of phases) (λ k. answers_in k phase)
added phases phase =
    let zeroth = one_more phases phase 0 in
    let first = one_more phases phase 1 in
    let second = one_more phases phase 2 in
    let third = one_more phases phase 3 in
    cc

pub returns : goal.returns
returns c = record { most = most; all = all_answers; added = added }
