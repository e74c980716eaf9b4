-- The law of a minor pause: from the words after it to the graph, the book and the report.
use Rattle.std.specs.Prelude.{◌≡◌, ℕ, ◌+◌, ◌<◌, ◌≤◌, ◌↔◌, List, ◌++◌, length}
use Rattle.std.specs.List.{Contains}
use Rattle.std.specs.List.Sorted.{IsStrictlyIncreasing}
use Rattle.sg_words.specs.Address.{byte_at}
use Rattle.sg_words.specs.Pieces.{fronts_of, ends_of}
use Rattle.sg_words.specs.declared.pieces.Move.{Move}
use Rattle.sg_words.specs.declared.pieces.Piece.{Piece}
use Rattle.sg_program.specs.declared.program.Program.{Program}
use Rattle.sg_graph.specs.declared.reports.MinorReport.{MinorReport}
use Rattle.sg_graph.specs.Graph.{Graph}
use Rattle.sg_graph.specs.Book.{Book}
use Rattle.sg_graph.specs.Invariants.{IsPlain}
use Rattle.sg_graph.specs.Copies.{CopiesInOrder}
use Rattle.sg_graph.specs.Minor.{sources, IsMinorPause}
use Rattle.sg_space.specs.declared.objects.Object.{Object}
use Rattle.sg_space.specs.Space.{Contents, IsContents}
use Rattle.sg_space.specs.Standing.{word}
use Rattle.sg_heap.specs.Holding.{HoldsHeap, OwesNothing}
use Rattle.sg_words.specs.Lists.{In}
use Rattle.sg_words.specs.Objects.{size_of}
use Rattle.sg_nursery.specs.Pieces.{IsTaken, ArePieces}
use Rattle.sg_minor.specs.Joined.{ArePins, IsEnded}

-- the list has exactly the byte addresses of these words, by address
pub record AreTold (told words : List ℕ) : Type 0 where
  pub in_order : IsStrictlyIncreasing told
  pub exact : (a : ℕ) → Contains told a ↔ ((x : ℕ) × In x words × (a ≡ byte_at x))

-- the list tells exactly the objects at these words, each of which is at m of its word now, by address
pub record AreToldMoves (told : List Move) (words : List ℕ) (m : ℕ → ℕ) : Type 0 where
  pub in_order : IsStrictlyIncreasing (sources told)
  pub exact : (move : Move) → Contains told move ↔ ((x : ℕ) × In x words × (move ≡ record { from = byte_at x; to = byte_at (m x) }))

-- what the report tells of a pause with these pins, moves and fails
pub record IsReportOf (report : MinorReport) (pinned moved failed : List ℕ) (m : ℕ → ℕ) : Type 0 where
  pub pins : AreTold report.pins pinned
  pub moves : AreToldMoves report.moves moved m
  pub fails : AreTold report.fails failed
  pub spares : report.spares ≡ 0

-- the objects of the list have exactly the words of what stays
abbrev pub HaveWords : List Object → (ℕ → ℕ) → List ℕ → Type 0
HaveWords standing w stays = (x : ℕ) → IsTaken standing x ↔ ((a : ℕ) × In a stays × (a ≤ x) × (x < a + size_of w a))

-- the space after the pause: other words, blocks, occupancies and cards, and new fragments
pub record IsRefitted (s v : Contents) (pieces : List Piece) : Type 0 where
  pub same : v ≡ record s { words = v.words; next = fronts_of pieces; ends = ends_of pieces; blocks = v.blocks; used = v.used; cards = v.cards }
  pub words : length v.words ≡ length s.words

-- The pause leads from the space s, which holds g by b, to v, which holds g by another book. One worker copies, in order.
pub record HasPaused (p : Program) (g : Graph) (b : Book) (ambiguous : List ℕ) (v : Contents) (report : MinorReport) : Type 0 where
  pub book : Book
  pub pause : IsMinorPause p g b ambiguous report g book
  pub copies : CopiesInOrder p g b ambiguous book
  pub heap : HoldsHeap p v g book

abbrev pub PauseLaw : Type 0
PauseLaw =
    (p : Program) (s : Contents) (g : Graph) (b : Book) (ambiguous pins moves fails : List ℕ) (m : ℕ → ℕ) (v : Contents) (standing : List Object)
    (report : MinorReport) →
    HoldsHeap p s g b → OwesNothing p b → IsPlain p g → IsContents s → ArePins g b ambiguous pins → IsEnded p s g b ambiguous pins moves fails m v → IsReportOf report pins moves
    fails m →
    HaveWords standing (word s) (pins ++ fails) → ArePieces s.layout standing report.pieces → IsRefitted s v report.pieces →
    HasPaused p g b ambiguous v report
