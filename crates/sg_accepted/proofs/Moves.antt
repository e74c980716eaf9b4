-- The moves that are drawn are small, and as many as are asked for.
use Rattle.std.proofs.Common.{◌≡◌, ℕ, zero, suc, ◌+◌, ◌*◌, ◌<◌, true, false, Bool, [], ◌∷◌, length, refl, arith, length-append}
use Rattle.std.specs.List.{AllByRecursion}
use Rattle.std.specs.Prelude.{◌==◌, nat_lt, if◌then◌else◌}
use Rattle.sg_words.proofs.Everywhere.{all_append}
use Rattle.rand_pcg.specs.Lcg.{Lcg}
use Rattle.sg_gen.specs.declared.generated.Move.{Move}
use Rattle.sg_gen.specs.declared.generated.Move.TheVariants.{Grows, Reads, Shrinks}
use Rattle.sg_gen.specs.Generated.{draw, move_of, drawn, moves}
use Rattle.sg_accepted.proofs.MoveLines.{IsSmallMove}

abbrev chosen : Bool → Bool → ℕ → Lcg → Move × Lcg
chosen first second global g = if first then (Grows global (draw 1000 g).0, (draw 1000 g).1) else if second then (Reads global, g) else (Shrinks global, g)

by_kind : (first second : Bool) (global : ℕ) (g : Lcg) → global < 64 → IsSmallMove (chosen first second global g).0
by_kind true second global g l = (l, omega arith)
by_kind false true global g l = l
by_kind false false global g l = l

small_move : (k global : ℕ) (g : Lcg) → global < 64 → IsSmallMove (move_of k global g).0
small_move k global g l = by_kind (nat_lt k 2) (k == 2) global g l

pub small_moves : (i n : ℕ) (g : Lcg) → i < 4 → AllByRecursion IsSmallMove (moves i n g).0
small_moves i zero g l = tt
small_moves i (suc n) g l =
    let h = (moves i n g).1 in
    let one : (draw 16 (draw 4 h).1).0 < 16 = omega arith in
    all_append IsSmallMove (moves i n g).0 ((drawn i h).0 ∷ []) (small_moves i n g l)
    (small_move (draw 4 h).0 (16 * i + (draw 16 (draw 4 h).1).0) (draw 16 (draw 4 h).1).1 (omega (arith, one, l)), tt)

pub so_many : (i n : ℕ) (g : Lcg) → length (moves i n g).0 ≡ n
so_many i zero g = refl
so_many i (suc n) g =
    let rest = so_many i n g in
    let both = length-append (moves i n g).0 ((drawn i (moves i n g).1).0 ∷ []) in
    omega (arith, rest, both)
