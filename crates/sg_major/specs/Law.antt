-- The law of a major pause: from the words after it to the graph, the book and the report.
use Rattle.std.specs.Prelude.{ℕ, List}
use Rattle.sg_program.specs.declared.program.Program.{Program}
use Rattle.sg_graph.specs.declared.reports.MajorReport.{MajorReport}
use Rattle.sg_graph.specs.Graph.{Graph}
use Rattle.sg_graph.specs.Book.{Book}
use Rattle.sg_graph.specs.Invariants.{IsPlain}
use Rattle.sg_graph.specs.Major.{IsMajorPause}
use Rattle.sg_space.specs.declared.objects.Object.{Object}
use Rattle.sg_space.specs.Space.{Contents, IsContents}
use Rattle.sg_heap.specs.Holding.{HoldsHeap, OwesNothing}
use Rattle.sg_major.specs.Parts.{HasTraced, HasFinished}

-- the pause leads from a space that holds g by b to v, which holds g by another book
pub record HasCollected (p : Program) (g : Graph) (b : Book) (ambiguous : List ℕ) (v : Contents) (report : MajorReport) : Type 0 where
  pub book : Book
  pub pause : IsMajorPause p g b ambiguous report g book
  pub heap : HoldsHeap p v g book

abbrev pub MajorLaw : Type 0
MajorLaw =
    (p : Program) (s : Contents) (g : Graph) (b : Book) (ambiguous : List ℕ) (told : List Object) (marked : Contents) (v : Contents) (report : MajorReport) →
    HoldsHeap p s g b → IsPlain p g → OwesNothing p b → IsContents s → HasTraced s ambiguous told marked → HasFinished marked told v report →
    HasCollected p g b ambiguous v report
