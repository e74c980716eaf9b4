-- Tallies of a run are few enough to be counted, phase by phase.
use Rattle.std.proofs.Common.{◌≡◌, ℕ, zero, suc, ◌+◌, ◌<◌, ◌≤◌, ◌^◌, List, [], ◌∷◌, ◌++◌, length, sym, ap, ◌∙◌, subst, arith, length-append}
use Rattle.std.specs.List.{AllByRecursion, sum_by}
use Rattle.std.specs.Prelude.{slice_get}
use Rattle.std.proofs.lemmas.List.Concat.{flat_map-append}
use Rattle.std.proofs.lemmas.List.Sums.{sum_by-cons}
use Rattle.sg_program.specs.declared.program.Script.{Script}
use Rattle.sg_program.specs.declared.program.Program.{Program}
use Rattle.sg_program.specs.Scripts.{written_out, statements_at, script_of, statements_in}
use Rattle.sg_graph.specs.Run.{Phase, Epoch, Stop, IsRun}
use Rattle.sg_load.specs.declared.summary.Tally.{Tally}
use Rattle.sg_load.specs.Summary.{answers_in, answers_in_run, tallies_of, AnswersAreCounted}
use Rattle.sg_world.specs.Worlds.{CanRun}

-- one script is no longer than all together
short_at : (scripts : List Script) (k : ℕ) → length (statements_at (slice_get scripts k)) ≤ sum_by (λ (script : Script). length (written_out script.items)) scripts
short_at [] k = omega arith
short_at (script ∷ scripts) zero = let all = sum_by-cons (λ (s : Script). length (written_out s.items)) script scripts in omega (arith, all)
short_at (script ∷ scripts) (suc k) =
    let rest = short_at scripts k in
    let all = sum_by-cons (λ (s : Script). length (written_out s.items)) script scripts in
    omega (arith, rest, all)

short : (p : Program) (k : ℕ) → CanRun p → length (script_of p k) ≤ 2 ^ 32
short p k can = let one = short_at p.mutators k in let all = can.limits.statements in omega (arith, one, all)

module _ (law : AnswersAreCounted) (p : Program) (can : CanRun p) (four : length p.mutators ≡ 4) where
  few_at : (phases : List Phase) (k : ℕ) → k < 4 → IsRun p phases → length (answers_in_run k phases) ≤ 2 ^ 32
  few_at phases k l run =
      let most = law.most p phases k (omega (arith, l, four)) run in
      let few = short p k can in
      omega (arith, most, few)

  -- so far each mutator has so few answers that they can be counted
  pub few : (phases : List Phase) → IsRun p phases → AllByRecursion (λ (tally : Tally). tally.statements ≤ 2 ^ 32) (tallies_of phases)
  few phases run =
      let zeroth = few_at phases 0 (omega arith) run in
      let first = few_at phases 1 (omega arith) run in
      let second = few_at phases 2 (omega arith) run in
      let third = few_at phases 3 (omega arith) run in
      (omega (arith, zeroth), (omega (arith, first), (omega (arith, second), (omega (arith, third), tt))))

  -- and so has it in one more phase
  pub few_more : (phases : List Phase) (phase : Phase) (k : ℕ) → k < 4 → IsRun p (phases ++ phase ∷ []) → length (answers_in k phase) ≤ 2 ^ 32
  few_more phases phase k l run =
      let all = few_at (phases ++ phase ∷ []) k l run in
      let parts : length (answers_in_run k (phases ++ phase ∷ [])) ≡ length (answers_in_run k phases) + length (answers_in_run k (phase ∷ [])) =
      ap length (flat_map-append (answers_in k) phases (phase ∷ [])) ∙ length-append (answers_in_run k phases) (answers_in_run k (phase ∷ [])) in
      let one : length (answers_in_run k (phase ∷ [])) ≡ length (answers_in k phase) + 0 = length-append (answers_in k phase) [] in
      omega (arith, all, parts, one)
