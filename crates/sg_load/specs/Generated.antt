-- The program that the text of a seed and a size says.
use Rattle.std.specs.Prelude.{ℕ, ◌/◌, List, [], ◌∷◌, codes, map}
use Rattle.std.specs.List.{flat_map}
use Rattle.rand_pcg.specs.Lcg.{Lcg}
use Rattle.sg_desc.specs.declared.shapes.Descriptor.TheVariants.{Bitmap}
use Rattle.sg_program.specs.declared.program.Config.{Config}
use Rattle.sg_program.specs.declared.program.Class.{Class}
use Rattle.sg_program.specs.declared.program.Item.{Item, roll-Item}
use Rattle.sg_program.specs.declared.program.Item.TheOpen.{One}
use Rattle.sg_program.specs.declared.program.Script.{Script}
use Rattle.sg_program.specs.declared.program.Statement.{Statement}
use Rattle.sg_program.specs.declared.program.Statement.TheVariants.{New, Put, Get, PutD, GetD, Num, Drop, GPut, GGet}
use Rattle.sg_program.specs.declared.program.Program.{Program}
use Rattle.sg_gen.specs.declared.generated.Move.{Move}
use Rattle.sg_gen.specs.declared.generated.Move.TheVariants.{Grows, Reads, Shrinks}
use Rattle.sg_gen.specs.Generated.{seeded, moves, mutator_texts}

-- The statements of a move: a new node with the number comes in front of the global's list; the numbers of the list's first three nodes are read; the
-- first node leaves the list, and the two registers that may hold it are emptied.
abbrev pub statements_of : Move → List Statement
statements_of (Grows global number) = New 0 0 ∷ Num 1 number ∷ PutD 0 2 1 ∷ GGet 2 global ∷ Put 0 0 2 ∷ GPut global 0 ∷ []
statements_of (Reads global) = GGet 2 global ∷ GetD 3 2 2 ∷ Get 2 2 0 ∷ GetD 3 2 2 ∷ Get 2 2 0 ∷ GetD 3 2 2 ∷ []
statements_of (Shrinks global) = GGet 2 global ∷ Get 2 2 0 ∷ GPut global 2 ∷ Drop 2 ∷ Drop 0 ∷ Num 3 0 ∷ []

-- the statements of moves, in order
abbrev pub all_statements : List Move → List Statement
all_statements drawn = flat_map statements_of drawn

-- the moves of mutator j, with so many for each mutator, drawn from this generator
abbrev pub moves_of : ℕ → ℕ → Lcg → List Move
moves_of j count g = (moves j count (mutator_texts j count g).1).0

-- an item that is one statement
abbrev pub item_of : Statement → Item
item_of s = roll-Item (One s)

-- the script of these moves
abbrev pub script_of_moves : List Move → Script
script_of_moves drawn = record { items = map item_of (all_statements drawn) }

-- the settings of a generated program, and its one class, `Node`, of three fields, the first two of which are references
abbrev pub settings : Config
settings = record { nursery = 4096; blocks = 512; pages = 64; buffer = 64; workers = 4; cement = 4 }

abbrev pub node : Class
node = record { name = codes "Node"; shape = record { fields = 3; kind = Bitmap 3 } }

-- the program of this seed and size: four mutators, with a move for each 24 of the size
abbrev pub generated : ℕ → ℕ → Program
generated seed size =
    let count = size / 24 in
    let g = seeded seed in
    record {
      config = settings;
      classes = node ∷ [];
      mutators = script_of_moves (moves_of 0 count g) ∷ script_of_moves (moves_of 1 count g) ∷ script_of_moves (moves_of 2 count g)
          ∷ script_of_moves (moves_of 3 count g) ∷ [];
    }
