-- What the moves of one mutator come to by themselves: lists of numbers, without a heap, addresses or other mutators.
use Rattle.std.specs.Prelude.{◌≡◌, ◌≢◌, ℕ, ◌+◌, ◌/◌, ◌<◌, List, [], ◌∷◌, take, drop, length, map}
use Rattle.std.specs.List.{AllByRecursion, sum_by}
use Rattle.sg_words.specs.Words.{put}
use Rattle.sg_program.specs.declared.answers.Answer.TheVariants.{Full}
use Rattle.sg_program.specs.declared.program.Program.{Program}
use Rattle.sg_program.specs.Scripts.{script_of}
use Rattle.sg_graph.specs.Run.{Phase, IsWholeRun}
use Rattle.sg_gen.specs.declared.generated.Move.{Move}
use Rattle.sg_gen.specs.declared.generated.Move.TheVariants.{Grows, Reads, Shrinks}
use Rattle.sg_gen.specs.Generated.{seeded}
use Rattle.sg_load.specs.declared.summary.Tally.{Tally}
use Rattle.sg_load.specs.Generated.{all_statements, moves_of, script_of_moves, settings, node, generated}
use Rattle.sg_load.specs.Summary.{answers_in_run, empty_tally, counted, tallies_of}

-- the numbers in the nodes of each global's list, the first node's first: at the beginning every list is empty
abbrev pub no_lists : ℕ → List ℕ
no_lists global = []

-- the lists behind a move: a number comes in front of one, or its first one leaves
abbrev pub lists_after : (ℕ → List ℕ) → Move → ℕ → List ℕ
lists_after lists (Grows global number) = put lists global (number ∷ lists global)
lists_after lists (Reads global) = lists
lists_after lists (Shrinks global) = put lists global (drop 1 (lists global))

-- the sum of the numbers that a move reads: those of the first three nodes, or of as many as there are
abbrev pub read_by : (ℕ → List ℕ) → Move → ℕ
read_by lists (Grows global number) = 0
read_by lists (Reads global) = sum_by (λ n. n) (take 3 (lists global))
read_by lists (Shrinks global) = 0

-- the sum of the numbers that moves read, one after another
abbrev pub sum_from : (ℕ → List ℕ) → List Move → ℕ
sum_from lists [] = 0
sum_from lists (move ∷ more) = read_by lists move + sum_from (lists_after lists move) more

-- the tally of a mutator with these moves
abbrev pub tally_alone : List Move → Tally
tally_alone drawn = record { statements = length (all_statements drawn); sum = sum_from no_lists drawn }

abbrev pub global_of : Move → ℕ
global_of (Grows global number) = global
global_of (Reads global) = global
global_of (Shrinks global) = global

-- Each script is that of the moves that are drawn for its mutator, and each global has an owner, whose moves alone are around it.
pub record IsOfMoves (p : Program) (owner : ℕ → ℕ) (drawn : ℕ → List Move) : Type 0 where
  pub classes : p.classes ≡ node ∷ []
  pub scripts : (k : ℕ) → script_of p k ≡ all_statements (drawn k)
  pub owned : (k : ℕ) → AllByRecursion (λ move. owner (global_of move) ≡ k) (drawn k)

-- no answer of the run is `full`
abbrev pub NoneIsFull : List Phase → Type 0
NoneIsFull phases = (k : ℕ) → AllByRecursion (λ answer. answer ≢ Full) (answers_in_run k phases)

-- the program that has this mutator of a generated program alone
abbrev pub only : ℕ → ℕ → ℕ → Program
only seed size k = record { config = settings; classes = node ∷ []; mutators = script_of_moves (moves_of k (size / 24) (seeded seed)) ∷ [] }

-- Where no answer of a whole run is `full`, each mutator's tally is that of its moves by themselves, whatever the other mutators do and whoever comes
-- first: so it is that of each such run, and that of each such run of its script alone.
pub record TalliesAreAlone : Type 0 where
  pub moves : (p : Program) (owner : ℕ → ℕ) (drawn : ℕ → List Move) (phases : List Phase) (k : ℕ) → IsOfMoves p owner drawn → k < length p.mutators →
      IsWholeRun p phases → NoneIsFull phases → counted empty_tally (answers_in_run k phases) ≡ tally_alone (drawn k)
  pub tallies : (seed size : ℕ) (phases : List Phase) → IsWholeRun (generated seed size) phases → NoneIsFull phases →
      tallies_of phases ≡ map (λ k. tally_alone (moves_of k (size / 24) (seeded seed))) (0 ∷ 1 ∷ 2 ∷ 3 ∷ [])
  pub by_itself : (seed size k : ℕ) (phases alone : List Phase) → k < 4 → IsWholeRun (generated seed size) phases → NoneIsFull phases →
      IsWholeRun (only seed size k) alone → NoneIsFull alone →
      counted empty_tally (answers_in_run k phases) ≡ counted empty_tally (answers_in_run 0 alone)
