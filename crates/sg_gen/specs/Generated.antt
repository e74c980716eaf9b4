-- A program that is made from a seed and a size. Its numbers are drawn from the generator PCG-XSH-RR with 64 bits of state and words of 32 bits, in
-- the order in which the text has its moves.
use Rattle.std.specs.Prelude.{ℕ, zero, suc, ◌+◌, ◌*◌, ◌/◌, ◌%◌, ◌==◌, nat_lt, if◌then◌else◌}
use Rattle.std.specs.Prelude.{List, [], ◌∷◌, ◌++◌, codes}
use Rattle.std.specs.List.{flat_map}
use Rattle.std.specs.Fmt.{decimal}
use Rattle.rand_pcg.specs.Lcg.{Lcg, started, increment_of}
use Rattle.rand_pcg.specs.Pcg.{multiplier_64, pcg32}
use Rattle.sg_gen.specs.declared.generated.Move.{Move}
use Rattle.sg_gen.specs.declared.generated.Move.TheVariants.{Grows, Reads, Shrinks}

-- the generator of a seed: this state, on stream 1
abbrev pub seeded : ℕ → Lcg
seeded seed = started 64 multiplier_64 seed (increment_of 64 1)

-- a number below n, the next word modulo n, and the generator behind it
abbrev pub draw : ℕ → Lcg → ℕ × Lcg
draw n g = ((pcg32 g).0 % n, (pcg32 g).1)

-- a move of the kind k around this global: of four kinds two grow the list, with a number below 1,000
abbrev pub move_of : ℕ → ℕ → Lcg → Move × Lcg
move_of k global g = if nat_lt k 2 then (Grows global (draw 1000 g).0, (draw 1000 g).1) else if k == 2 then (Reads global, g) else (Shrinks global, g)

-- the next move of mutator i: its kind is drawn, then which of its 16 globals it is around
abbrev pub drawn : ℕ → Lcg → Move × Lcg
drawn i g = move_of (draw 4 g).0 (16 * i + (draw 16 (draw 4 g).1).0) (draw 16 (draw 4 g).1).1

-- so many moves of mutator i, in order
abbrev pub moves : ℕ → ℕ → Lcg → List Move × Lcg
moves i zero g = ([], g)
moves i (suc n) g = ((moves i n g).0 ++ (drawn i (moves i n g).1).0 ∷ [], (drawn i (moves i n g).1).1)

abbrev pub line_feed : List ℕ
line_feed = 10 ∷ []

-- a number in decimal between these bytes
abbrev pub around : List ℕ → ℕ → List ℕ → List ℕ
around before number after = before ++ (decimal number ++ after)

-- the statements of a move, one a line
abbrev pub growing_text : ℕ → ℕ → List ℕ
growing_text global number =
    around (codes "new r0 Node" ++ line_feed ++ codes "num r1 ") number (line_feed ++ codes "putd r0 2 r1" ++ line_feed)
    ++ (around (codes "gget r2 ") global (line_feed ++ codes "put r0 0 r2" ++ line_feed) ++ around (codes "gput ") global (codes " r0" ++ line_feed))

abbrev pub reading_text : ℕ → List ℕ
reading_text global =
    around (codes "gget r2 ") global (line_feed ++ codes "getd r3 r2 2" ++ line_feed ++ codes "get r2 r2 0" ++ line_feed ++ codes "getd r3 r2 2" ++ line_feed
    ++ codes "get r2 r2 0" ++ line_feed ++ codes "getd r3 r2 2" ++ line_feed)

abbrev pub shrinking_text : ℕ → List ℕ
shrinking_text global =
    around (codes "gget r2 ") global (line_feed ++ codes "get r2 r2 0" ++ line_feed)
    ++ around (codes "gput ") global (codes " r2" ++ line_feed ++ codes "drop r2" ++ line_feed ++ codes "drop r0" ++ line_feed ++ codes "num r3 0" ++ line_feed)

abbrev pub move_text : Move → List ℕ
move_text (Grows global number) = growing_text global number
move_text (Reads global) = reading_text global
move_text (Shrinks global) = shrinking_text global

-- a mutator with these moves
abbrev pub mutator_text : List Move → List ℕ
mutator_text moves = codes "mutator" ++ line_feed ++ flat_map move_text moves ++ codes "end" ++ line_feed

-- the first j mutators, with so many moves each
abbrev pub mutator_texts : ℕ → ℕ → Lcg → List ℕ × Lcg
mutator_texts zero count g = ([], g)
mutator_texts (suc j) count g =
    ((mutator_texts j count g).0 ++ mutator_text (moves j count (mutator_texts j count g).1).0, (moves j count (mutator_texts j count g).1).1)

-- the settings and the class, before the mutators
abbrev pub settings_text : List ℕ
settings_text =
    codes "sgen 1" ++ line_feed ++ codes "nursery 4096" ++ line_feed ++ codes "blocks 512" ++ line_feed ++ codes "pages 64" ++ line_feed
    ++ codes "buffer 64" ++ line_feed ++ codes "workers 4" ++ line_feed ++ codes "cement 4" ++ line_feed ++ codes "class Node map rr." ++ line_feed

-- the program of this seed and size: four mutators, with a move for each 24 of the size
abbrev pub script_text : ℕ → ℕ → List ℕ
script_text seed size = settings_text ++ (mutator_texts 4 (size / 24) (seeded seed)).0
