-- A generated program is one of moves, and each mutator's are around 16 globals of its own.
use Rattle.std.proofs.Common.{rules, ◌≡◌, ℕ, zero, suc, ◌+◌, ◌*◌, ◌/◌, ◌<◌, List, [], ◌∷◌, ◌++◌, get_or, slice_get, map, refl, ap, ◌∙◌, arith}
use Rattle.std.specs.List.{AllByRecursion}
use Rattle.rand_pcg.specs.Lcg.{Lcg}
use Rattle.sg_words.proofs.Everywhere.{all_append}
use Rattle.sg_program.specs.declared.program.Item.{fold-roll-Item}
use Rattle.sg_program.specs.declared.program.Item.TheOpen.{One}
use Rattle.sg_program.specs.declared.program.Statement.{Statement}
use Rattle.sg_program.specs.Scripts.{statements_of, written_out, statements_at}
use Rattle.sg_gen.specs.declared.generated.Move.{Move}
use Rattle.sg_gen.specs.Generated.{seeded, draw, move_of, drawn, moves, mutator_texts}
use Rattle.sg_load.specs.Generated.{item_of, all_statements, script_of_moves, moves_of, generated}
use Rattle.sg_load.specs.Alone.{global_of, IsOfMoves, only}

written : (ss : List Statement) → written_out (map item_of ss) ≡ ss
written [] = refl
written (s ∷ ss) = ap (λ (xs : List Statement). xs ++ written_out (map item_of ss)) (fold-roll-Item (List Statement) statements_of (One s)) ∙ ap (λ (xs : List Statement). s ∷ xs) (written ss)

-- the scripts of moves, mutator by mutator
scripts_of : (mss : List (List Move)) (k : ℕ) → statements_at (slice_get (map script_of_moves mss) k) ≡ all_statements (get_or mss k [])
scripts_of [] k = refl
scripts_of (ms ∷ mss) zero = written (all_statements ms)
scripts_of (ms ∷ mss) (suc k) = scripts_of mss k

-- a move of mutator i is around one of its globals
around : (k global : ℕ) (g : Lcg) → global_of (move_of k global g).0 ≡ global
around k global g = search rules

owns : (i r : ℕ) → r < 16 → (16 * i + r) / 16 ≡ i
owns i r l = omega (arith, l)

owner_of : (i : ℕ) (g : Lcg) → global_of (drawn i g).0 / 16 ≡ i
owner_of i g =
    ap (λ (x : ℕ). x / 16) (around (draw 4 g).0 (16 * i + (draw 16 (draw 4 g).1).0) (draw 16 (draw 4 g).1).1)
    ∙ owns i (draw 16 (draw 4 g).1).0 (omega arith)

all_own : (i n : ℕ) (g : Lcg) → AllByRecursion (λ move. global_of move / 16 ≡ i) (moves i n g).0
all_own i zero g = _
all_own i (suc n) g = all_append (λ move. global_of move / 16 ≡ i) (moves i n g).0 _ (all_own i n g) (owner_of i (moves i n g).1, _)

module _ (seed size : ℕ) where
  abbrev pub their_moves : List (List Move)
  their_moves = moves_of 0 (size / 24) (seeded seed) ∷ moves_of 1 (size / 24) (seeded seed) ∷ moves_of 2 (size / 24) (seeded seed) ∷ moves_of 3 (size / 24) (seeded seed) ∷ []

  all_owned : (k : ℕ) → AllByRecursion (λ move. global_of move / 16 ≡ k) (get_or their_moves k [])
  all_owned zero = all_own 0 (size / 24) (mutator_texts 0 (size / 24) (seeded seed)).1
  all_owned (suc zero) = all_own 1 (size / 24) (mutator_texts 1 (size / 24) (seeded seed)).1
  all_owned (suc (suc zero)) = all_own 2 (size / 24) (mutator_texts 2 (size / 24) (seeded seed)).1
  all_owned (suc (suc (suc zero))) = all_own 3 (size / 24) (mutator_texts 3 (size / 24) (seeded seed)).1
  all_owned (suc (suc (suc (suc k)))) = _

  pub generated_moves : IsOfMoves (generated seed size) (λ x. x / 16) (λ k. get_or their_moves k [])
  generated_moves = record { classes = refl; scripts = scripts_of their_moves; owned = all_owned }

  all_of_one : (owner : ℕ → ℕ) (ms : List Move) → ((x : ℕ) → owner x ≡ 0) → AllByRecursion (λ move. owner (global_of move) ≡ 0) ms
  all_of_one owner [] e = _
  all_of_one owner (move ∷ ms) e = (e (global_of move), all_of_one owner ms e)

  only_owned : (k j : ℕ) → AllByRecursion (λ move. 0 ≡ j) (get_or (moves_of k (size / 24) (seeded seed) ∷ []) j [])
  only_owned k zero = all_of_one (λ x. 0) (moves_of k (size / 24) (seeded seed)) (λ x. refl)
  only_owned k (suc j) = _

  pub only_moves : (k : ℕ) → IsOfMoves (only seed size k) (λ x. 0) (λ j. get_or (moves_of k (size / 24) (seeded seed) ∷ []) j [])
  only_moves k = record { classes = refl; scripts = scripts_of (moves_of k (size / 24) (seeded seed) ∷ []); owned = only_owned k }
