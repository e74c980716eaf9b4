-- A major pause and its report.
use Rattle.std.specs.Prelude.{◌≡◌, ◌≢◌, ℕ, ◌<◌, ◌≤◌, ◌⊎◌, ◌↔◌, Bool, true, false, List, length}
use Rattle.std.specs.List.{Contains}
use Rattle.sg_words.specs.Lists.{In}
use Rattle.sg_words.specs.Reach.{AreDistinct}
use Rattle.sg_program.specs.declared.program.Program.{Program}
use Rattle.sg_graph.specs.declared.reports.MajorReport.{MajorReport}
use Rattle.sg_graph.specs.Graph.{Graph}
use Rattle.sg_graph.specs.Book.{Book, IsInBlock, IsSoundBook}
use Rattle.sg_graph.specs.Pause.{IsPause, IsPointedInto}
use Rattle.sg_graph.specs.Tiling.{IsTiled}

-- the roots of a major pause: the standing objects, of any section, that an ambiguous word points into, and those that globals and the
-- row of ready ones hold
abbrev pub IsMajorRoot : Program → Graph → Book → List ℕ → ℕ → Type 0
IsMajorRoot p g b ambiguous n =
    (n ≢ 0) × (b.stands n ≡ true) × (IsPointedInto g b ambiguous n ⊎ (((x : ℕ) × (x < 64) × (g.global x ≡ n)) ⊎ Contains g.ready n))

-- these are exactly the names of this sort, each once
pub record AreNames (sort : ℕ → Type 0) (names : List ℕ) : Type 0 where
  pub once : AreDistinct names
  pub exact : (n : ℕ) → In n names ↔ sort n

-- there are so many names of this sort
abbrev pub HasCount : (ℕ → Type 0) → ℕ → Type 0
HasCount sort count = (names : List ℕ) × AreNames sort names × (length names ≡ count)

-- an object that stands
abbrev pub StandsNow : Book → ℕ → Type 0
StandsNow b n = (n ≢ 0) × (b.stands n ≡ true)

-- an object that stood before, and doesn't any more
abbrev pub IsFreed : Book → Book → ℕ → Type 0
IsFreed b c n = StandsNow b n × (c.stands n ≡ false)

-- What is kept: exactly what the roots reach, as the definition of a pause says. Exactly this stands then, of what stood before.
pub record KeepsReached (p : Program) (g : Graph) (b : Book) (ambiguous : List ℕ) (h : Graph) (c : Book) : Type 0 where
  pub kept : ℕ → Bool
  pub pause : IsPause p g (IsMajorRoot p g b ambiguous) h kept
  pub nothing : c.stands 0 ≡ true
  pub stands : (n : ℕ) → n ≢ 0 → c.stands n ≡ kept n
  pub stood : (n : ℕ) → c.stands n ≡ true → b.stands n ≡ true

-- no object is moved, whether it is kept or not
pub record MovesNothing (b c : Book) : Type 0 where
  pub address : (n : ℕ) → c.address n ≡ b.address n
  pub section : (n : ℕ) → c.section n ≡ b.section n

-- what is told: how many objects were kept, and how many were freed, in all sections
pub record TellsCounts (b c : Book) (report : MajorReport) : Type 0 where
  pub kept : HasCount (StandsNow c) report.kept
  pub freed : HasCount (IsFreed b c) report.freed

-- Exactly the blocks in which an object stood are owed.
pub record OwesUsed (p : Program) (b c : Book) : Type 0 where
  pub used : (j : ℕ) → j < p.config.blocks → c.owed j ≡ true ↔ ((n : ℕ) × IsInBlock p b n j)
  pub beyond : (j : ℕ) → p.config.blocks ≤ j → c.owed j ≡ false

-- The pause leads from g and b to h and c, with these ambiguous words, and this is its report. The nursery is tiled anew, no mutator has
-- a buffer, and the book is sound.
pub record IsMajorPause (p : Program) (g : Graph) (b : Book) (ambiguous : List ℕ) (report : MajorReport) (h : Graph) (c : Book) : Type 0 where
  pub keeps : KeepsReached p g b ambiguous h c
  pub stays : MovesNothing b c
  pub tells : TellsCounts b c report
  pub owes : OwesUsed p b c
  pub tiled : IsTiled p h c report.pieces
  pub emptied : (k : ℕ) → (c.from k ≡ 0) × (c.to k ≡ 0)
  pub sound : IsSoundBook p h c
