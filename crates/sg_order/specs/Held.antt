-- What is true wherever words hold a graph, and of the objects that statements make.
use Rattle.std.specs.Prelude.{◌≡◌, ℕ, ◌<◌, false, length}
use Rattle.sg_words.specs.Words.{Words}
use Rattle.sg_program.specs.declared.program.Program.{Program}
use Rattle.sg_program.specs.declared.program.Statement.{Statement}
use Rattle.sg_program.specs.Scripts.{kind_of, IsSizeOf, MakesObject, made_class, made_fields}
use Rattle.sg_graph.specs.Graph.{Mutator, Graph}
use Rattle.sg_graph.specs.Book.{Book, IsSoundBook}
use Rattle.sg_graph.specs.Pause.{is_pair}
use Rattle.sg_rules.specs.Rules.{Constants}
use Rattle.sg_rules.specs.Resting.{IsRunnable}
use Rattle.sg_order.specs.Rest.{IsHeld}

-- the book of a graph that words hold is sound
abbrev pub HeldIsSound : Type 0
HeldIsSound = (p : Program) (lay : Constants) (w : Words) (g : Graph) (b : Book) → IsHeld p lay w g b → IsSoundBook p g b

-- the mutators enter into nothing of it
abbrev pub HeldWhoever : Type 0
HeldWhoever =
    (p : Program) (lay : Constants) (w : Words) (g : Graph) (b : Book) (mutator : ℕ → Mutator) → IsHeld p lay w g b →
    IsHeld p lay w (record g { mutator = mutator }) b

-- the object that a statement makes: its class is one of the program's, its number of fields is right, and it is no pair
pub record MakesSmall (p : Program) (s : Statement) : Type 0 where
  pub known : made_class s < length p.classes
  pub sized : IsSizeOf p (made_class s) (made_fields p s)
  pub single : is_pair (kind_of p (made_class s)) ≡ false

-- a statement that is run now and makes an object makes such a one
abbrev pub RunnableMakes : Type 0
RunnableMakes = (p : Program) (s : Statement) → MakesObject s → IsRunnable p s → MakesSmall p s
