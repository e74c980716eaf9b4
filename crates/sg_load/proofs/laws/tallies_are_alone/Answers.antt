use Rattle.std.proofs.Common.{◌≡◌, ℕ, zero, suc, ◌+◌, ◌/◌, ◌<◌, List, [], ◌∷◌, length, map, get_or, refl, sym, ap, ◌∙◌, arith}
use Rattle.std.specs.List.{sum_by}
use Rattle.sg_program.specs.declared.program.Program.{Program}
use Rattle.sg_graph.specs.Run.{Phase, IsWholeRun}
use Rattle.sg_gen.specs.declared.generated.Move.{Move}
use Rattle.sg_gen.specs.Generated.{seeded}
use Rattle.sg_load.specs.Generated.{all_statements, moves_of, generated}
use Rattle.sg_load.specs.Summary.{number_in, answers_in_run, empty_tally, counted, tallies_of}
use Rattle.sg_load.specs.Alone.{no_lists, sum_from, tally_alone, IsOfMoves, NoneIsFull, only}
use Rattle.sg_load.proofs.Runs.{all_answers}
use Rattle.sg_load.proofs.Alone.{run_read}
use Rattle.sg_load.proofs.OfMoves.{their_moves, generated_moves, only_moves}
use Rattle.sg_load.proofs.laws.tallies_are_alone.Goals as goal

of_moves : (p : Program) (owner : ℕ → ℕ) (drawn : ℕ → List Move) (phases : List Phase) (k : ℕ) → IsOfMoves p owner drawn → k < length p.mutators →
    IsWholeRun p phases → NoneIsFull phases → counted empty_tally (answers_in_run k phases) ≡ tally_alone (drawn k)
of_moves p owner drawn phases k of l whole none =
    let all = all_answers p phases k l whole ∙ ap length (of.scripts k) in
    let read = run_read p owner drawn of phases whole none k l in
    let statements : 0 + length (answers_in_run k phases) ≡ length (all_statements (drawn k)) = omega (arith, all) in
    let sum : 0 + sum_by number_in (answers_in_run k phases) ≡ sum_from no_lists (drawn k) = omega (arith, read) in
    cc

tallies : (seed size : ℕ) (phases : List Phase) → IsWholeRun (generated seed size) phases → NoneIsFull phases →
    tallies_of phases ≡ map (λ k. tally_alone (moves_of k (size / 24) (seeded seed))) (0 ∷ 1 ∷ 2 ∷ 3 ∷ [])
tallies seed size phases whole none =
    let drawn : ℕ → List Move = λ k. get_or (their_moves seed size) k [] in
    let of = of_moves (generated seed size) (λ x. x / 16) drawn phases in
    let zeroth : counted empty_tally (answers_in_run 0 phases) ≡ tally_alone (moves_of 0 (size / 24) (seeded seed)) = of 0 (generated_moves seed size) (omega arith) whole none in
    let first : counted empty_tally (answers_in_run 1 phases) ≡ tally_alone (moves_of 1 (size / 24) (seeded seed)) = of 1 (generated_moves seed size) (omega arith) whole none in
    let second : counted empty_tally (answers_in_run 2 phases) ≡ tally_alone (moves_of 2 (size / 24) (seeded seed)) = of 2 (generated_moves seed size) (omega arith) whole none in
    let third : counted empty_tally (answers_in_run 3 phases) ≡ tally_alone (moves_of 3 (size / 24) (seeded seed)) = of 3 (generated_moves seed size) (omega arith) whole none in
    cc

-- the moves of mutator k
theirs : (seed size k : ℕ) → k < 4 → get_or (their_moves seed size) k [] ≡ moves_of k (size / 24) (seeded seed)
theirs seed size zero l = refl
theirs seed size (suc zero) l = refl
theirs seed size (suc (suc zero)) l = refl
theirs seed size (suc (suc (suc zero))) l = refl
theirs seed size (suc (suc (suc (suc k)))) l = absurd (omega (arith, l))

by_itself : (seed size k : ℕ) (phases alone : List Phase) → k < 4 → IsWholeRun (generated seed size) phases → NoneIsFull phases →
    IsWholeRun (only seed size k) alone → NoneIsFull alone →
    counted empty_tally (answers_in_run k phases) ≡ counted empty_tally (answers_in_run 0 alone)
by_itself seed size k phases alone l whole none single no_full =
    of_moves (generated seed size) (λ x. x / 16) (λ k. get_or (their_moves seed size) k []) phases k (generated_moves seed size) l whole none
    ∙ ap tally_alone (theirs seed size k l)
    ∙ sym (of_moves (only seed size k) (λ x. 0) (λ j. get_or (moves_of k (size / 24) (seeded seed) ∷ []) j []) alone 0 (only_moves seed size k) (omega arith) single no_full)

pub returns : goal.returns
returns c = record { moves = of_moves; tallies = tallies; by_itself = by_itself }
