-- What the steps of a stop before its answers make, by the graph and the book that the space holds. No step changes the graph.
use Rattle.std.specs.Prelude.{◌≡◌, ℕ, ◌⊎◌, Bool, true, false, Option, Some, List, IsTrue, is_some}
use Rattle.sg_program.specs.declared.program.Program.{Program}
use Rattle.sg_graph.specs.declared.reports.MinorReport.{MinorReport}
use Rattle.sg_graph.specs.declared.reports.MajorReport.{MajorReport}
use Rattle.sg_graph.specs.Graph.{Graph}
use Rattle.sg_graph.specs.Book.{Book, swept_out}
use Rattle.sg_graph.specs.Copies.{CopiesInOrder}
use Rattle.sg_graph.specs.Stop.{Asked, InFragments, LacksOne, some_wants, wants_blocks, MakesMinor, MakesMajor, MakesRoom}
use Rattle.sg_space.specs.Space.{Contents}
use Rattle.sg_heap.specs.Holding.{HoldsHeap, OwesNothing}
use Rattle.sg_major.specs.Parts.{HasNoBuffer}
use Rattle.sg_placing.specs.declared.placing.Room.{Room}
use Rattle.sg_placing.specs.declared.placing.Room.TheVariants.{Fragments, SlotsToo}
use Rattle.sg_placing.specs.Answering.{FitsRoom}

-- the space holds some program's graph by some book
abbrev pub HoldsAny : Contents → Type 0
HoldsAny s = (p : Program) × (g : Graph) × (b : Book) × HoldsHeap p s g b

-- a minor pause was made where it is wanted, and the space holds the graph by the book behind it
pub record HasMadeMinor (p : Program) (g : Graph) (b : Book) (words : List ℕ) (requests : List Asked) (report : Option MinorReport)
    (t : Contents) : Type 0 where
  pub book : Book
  pub makes : MakesMinor p g b words requests report g book
  pub copies : (minor : MinorReport) → report ≡ Some minor → CopiesInOrder p g b words book
  pub heap : HoldsHeap p t g book
  pub owes : OwesNothing p book
  pub emptied : (minor : MinorReport) → report ≡ Some minor → HasNoBuffer book

-- a major pause was made where it is wanted behind this minor one
pub record HasMadeMajor (p : Program) (g : Graph) (b : Book) (words : List ℕ) (requests : List Asked) (minor : Option MinorReport) (report : Option MajorReport)
    (t : Contents) : Type 0 where
  pub book : Book
  pub makes : MakesMajor p g b words requests minor report g book
  pub heap : HoldsHeap p t g book
  -- without one no block is owed
  pub owes : is_some report ≡ false → OwesNothing p book

-- where new objects may be placed behind these pauses: behind a major one in fragments alone only where these have room for all
abbrev pub SuitsRoom : Program → Graph → Book → List Asked → Bool → Room → Type 0
SuitsRoom p g b requests true Fragments = ¬ LacksOne p InFragments g b requests
SuitsRoom p g b requests true SlotsToo = Unit {0}
SuitsRoom p g b requests false room = room ≡ Fragments

-- behind a major pause the owed blocks were swept where a request wants that
pub record HasMadeRoom (p : Program) (g : Graph) (b : Book) (requests : List Asked) (major : Bool) (room : Room) (t : Contents) : Type 0 where
  pub book : Book
  pub makes : (report : Option MajorReport) → is_some report ≡ major → MakesRoom p g b requests report book
  pub heap : HoldsHeap p t g book
  pub fits : FitsRoom p book room
  pub suits : SuitsRoom p g book requests major room
  -- no block is owed where a request wants that, and but for a major pause that leaves all in fragments
  pub shows : IsTrue (some_wants wants_blocks requests) → OwesNothing p book
  pub rests : (major ≡ false) ⊎ (room ≡ SlotsToo) → OwesNothing p book

-- all steps, one after another
pub record HasHalted (p : Program) (g : Graph) (b : Book) (words : List ℕ) (requests : List Asked) (minor : Option MinorReport) (major : Option MajorReport)
    (room : Room) (t : Contents) : Type 0 where
  -- the space before the minor pause, and behind it
  pub begun : Contents
  pub begun_heap : HoldsHeap p begun g (swept_out b)
  pub minor_book : Book
  pub minor_space : Contents
  pub minor_heap : HoldsHeap p minor_space g minor_book
  pub makes_minor : MakesMinor p g (swept_out b) words requests minor g minor_book
  pub copies : (report : MinorReport) → minor ≡ Some report → CopiesInOrder p g (swept_out b) words minor_book
  pub major_book : Book
  pub makes_major : MakesMajor p g minor_book words requests minor major g major_book
  pub book : Book
  pub makes_room : MakesRoom p g major_book requests major book
  pub heap : HoldsHeap p t g book
  pub fits : FitsRoom p book room
  pub suits : SuitsRoom p g book requests (is_some major) room
  pub shows : IsTrue (some_wants wants_blocks requests) → OwesNothing p book
  pub rests : (is_some major ≡ false) ⊎ (room ≡ SlotsToo) → OwesNothing p book
