-- A generated text is short enough.
use Rattle.std.proofs.Common.{◌≡◌, ℕ, ◌+◌, ◌*◌, ◌<◌, ◌≤◌, List, [], ◌∷◌, ◌++◌, length, arith, length-append, codes}
use Rattle.std.specs.List.{AllByRecursion, flat_map}
use Rattle.std.specs.Fmt.{decimal}
use Rattle.std.proofs.lemmas.Fmt.{length-decimal-le}
use Rattle.sg_gen.specs.declared.generated.Move.{Move}
use Rattle.sg_gen.specs.declared.generated.Move.TheVariants.{Grows, Reads, Shrinks}
use Rattle.sg_gen.specs.Generated.{around, line_feed, move_text, mutator_text}
use Rattle.sg_accepted.proofs.MoveLines.{IsSmallMove}

two : (global : ℕ) → global < 64 → length (decimal global) ≤ 2
two global l = length-decimal-le 2 global (omega arith) (omega (arith, l)) (omega (arith, l))

three : (number : ℕ) → number < 1000 → length (decimal number) ≤ 3
three number l = length-decimal-le 3 number (omega arith) (omega (arith, l)) (omega (arith, l))

length_around : (before : List ℕ) (n : ℕ) (after : List ℕ) → length (around before n after) ≡ length before + (length (decimal n) + length after)
length_around before n after = let both = length-append before (decimal n ++ after) in let rest = length-append (decimal n) after in omega (arith, both, rest)

-- a move has at most 75 bytes
short_move : (move : Move) → IsSmallMove move → length (move_text move) ≤ 75
short_move (Grows global number) (g, n) =
    let first = length_around (codes "new r0 Node" ++ line_feed ++ codes "num r1 ") number (line_feed ++ codes "putd r0 2 r1" ++ line_feed) in
    let second = length_around (codes "gget r2 ") global (line_feed ++ codes "put r0 0 r2" ++ line_feed) in
    let third = length_around (codes "gput ") global (codes " r0" ++ line_feed) in
    let front = length-append (around (codes "new r0 Node" ++ line_feed ++ codes "num r1 ") number (line_feed ++ codes "putd r0 2 r1" ++ line_feed))
    (around (codes "gget r2 ") global (line_feed ++ codes "put r0 0 r2" ++ line_feed) ++ around (codes "gput ") global (codes " r0" ++ line_feed)) in
    let back = length-append (around (codes "gget r2 ") global (line_feed ++ codes "put r0 0 r2" ++ line_feed)) (around (codes "gput ") global (codes " r0" ++ line_feed)) in
    let few = two global g in
    let digits = three number n in
    omega (arith, first, second, third, front, back, few, digits)
short_move (Reads global) g =
    let all = length_around (codes "gget r2 ") global (line_feed ++ codes "getd r3 r2 2" ++ line_feed ++ codes "get r2 r2 0" ++ line_feed ++ codes "getd r3 r2 2" ++ line_feed
    ++ codes "get r2 r2 0" ++ line_feed ++ codes "getd r3 r2 2" ++ line_feed) in
    let few = two global g in
    omega (arith, all, few)
short_move (Shrinks global) g =
    let first = length_around (codes "gget r2 ") global (line_feed ++ codes "get r2 r2 0" ++ line_feed) in
    let second = length_around (codes "gput ") global (codes " r2" ++ line_feed ++ codes "drop r2" ++ line_feed ++ codes "drop r0" ++ line_feed ++ codes "num r3 0" ++ line_feed) in
    let front = length-append (around (codes "gget r2 ") global (line_feed ++ codes "get r2 r2 0" ++ line_feed))
    (around (codes "gput ") global (codes " r2" ++ line_feed ++ codes "drop r2" ++ line_feed ++ codes "drop r0" ++ line_feed ++ codes "num r3 0" ++ line_feed)) in
    let few = two global g in
    omega (arith, first, second, front, few)

short_moves : (moves : List Move) → AllByRecursion IsSmallMove moves → length (flat_map move_text moves) ≤ 75 * length moves
short_moves [] small = omega arith
short_moves (move ∷ moves) (one, small) =
    let rest = short_moves moves small in
    let here = short_move move one in
    let both = length-append (move_text move) (flat_map move_text moves) in
    omega (arith, rest, here, both)

pub short_mutator : (moves : List Move) → AllByRecursion IsSmallMove moves → length moves ≤ 3333 → length (mutator_text moves) ≤ 249987
short_mutator moves small few =
    let all = short_moves moves small in
    let first = length-append (codes "mutator" ++ line_feed ++ flat_map move_text moves ++ codes "end") line_feed in
    let second = length-append (codes "mutator" ++ line_feed ++ flat_map move_text moves) (codes "end") in
    let third = length-append (codes "mutator" ++ line_feed) (flat_map move_text moves) in
    omega (arith, all, first, second, third, few)
