-- The answer to a statement at a stop, by the graph and the book that the space holds.
use Rattle.std.specs.Prelude.{◌≡◌, ℕ, List}
use Rattle.sg_program.specs.declared.program.Statement.{Statement}
use Rattle.sg_program.specs.declared.program.Statement.TheVariants.{Mature}
use Rattle.sg_program.specs.declared.program.Program.{Program}
use Rattle.sg_program.specs.declared.answers.Answer.{Answer}
use Rattle.sg_graph.specs.Graph.{Graph}
use Rattle.sg_graph.specs.Statements.{Does}
use Rattle.sg_graph.specs.Book.{Book}
use Rattle.sg_graph.specs.Epoch.{by_address}
use Rattle.sg_graph.specs.Invariants.{IsPlain}
use Rattle.sg_graph.specs.Stop.{Placing, InFragments, InSlotsToo, Places}
use Rattle.sg_space.specs.Space.{Contents}
use Rattle.sg_heap.specs.Holding.{HoldsHeap, OwesNothing}
use Rattle.sg_placing.specs.declared.placing.Room.{Room}
use Rattle.sg_placing.specs.declared.placing.Room.TheVariants.{Fragments, SlotsToo}

-- where an object of the nursery may be placed
abbrev pub placing_in : Room → Placing
placing_in Fragments = InFragments
placing_in SlotsToo = InSlotsToo

-- slots are given only where no block is owed
abbrev pub FitsRoom : Program → Book → Room → Type 0
FitsRoom p b Fragments = Unit {0}
FitsRoom p b SlotsToo = OwesNothing p b

-- and so a statement that makes an object of the major heap is answered only where none is
abbrev pub FitsStatement : Program → Book → Statement → Type 0
FitsStatement p b (Mature r class) = OwesNothing p b
FitsStatement p b s = Unit {0}

-- The statement s, with which mutator k has left, has this answer at a stop, with these statements before the mutator then, and the space holds
-- the graph and the book behind it.
pub record HasAnswered (p : Program) (how : Placing) (g : Graph) (b : Book) (k : ℕ) (s : Statement) (rest : List Statement) (answer : Answer) (t : Contents) : Type 0 where
  pub graph : Graph
  pub book : Book
  pub named : Answer
  pub does : Does p g k (g.mutator k) s rest named graph
  pub places : Places p how g b s named book
  pub told : answer ≡ by_address book named
  pub heap : HoldsHeap p t graph book
  pub plain : IsPlain p graph
  pub owed : book.owed ≡ b.owed
  pub ended : (j : ℕ) → (graph.mutator j).ended ≡ (g.mutator j).ended
