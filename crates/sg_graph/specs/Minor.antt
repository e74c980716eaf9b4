-- A minor pause and its report.
use Rattle.std.specs.Prelude.{◌≡◌, ◌≢◌, ℕ, ◌+◌, ◌-◌, ◌*◌, ◌<◌, ◌≤◌, ◌⊎◌, ◌↔◌, Bool, true, false, min, List, length, map}
use Rattle.std.specs.List.{Contains, AllByRecursion}
use Rattle.std.specs.List.Sorted.{IsStrictlyIncreasing}
use Rattle.sg_words.specs.Address.{byte_at}
use Rattle.sg_words.specs.Blocks.{slots}
use Rattle.sg_words.specs.Reach.{AreDistinct}
use Rattle.sg_words.specs.declared.pieces.Move.{Move}
use Rattle.sg_words.specs.declared.pieces.Piece.{Piece}
use Rattle.sg_program.specs.declared.program.Program.{Program}
use Rattle.sg_graph.specs.declared.reports.MinorReport.{MinorReport}
use Rattle.sg_graph.specs.Graph.{Graph}
use Rattle.sg_graph.specs.Book.{Book, slot_at, slot_words, IsInBlock, IsInSlot, IsEmptySlot, IsOfSize, IsSoundBook}
use Rattle.sg_graph.specs.Pause.{IsPause, IsRoot, IsPinned, StandsYoung}
use Rattle.sg_graph.specs.Tiling.{IsTiled}

-- a young object that is kept and isn't pinned
pub record IsLoose (g : Graph) (b : Book) (ambiguous : List ℕ) (c : Book) (n : ℕ) : Type 0 where
  pub young : StandsYoung b n
  pub kept : c.stands n ≡ true
  pub loose : IsPinned g b ambiguous n → ⊥

-- where a moved object goes: to the front of a slot of its size class in which no object stood
pub record HasMoved (p : Program) (g : Graph) (b c : Book) (n : ℕ) : Type 0 where
  pub block : ℕ
  pub slot : ℕ
  pub goes : IsInSlot p g c n block (slot_words (g.size n)) slot
  pub empty : IsEmptySlot p g b block (slot_words (g.size n)) slot

-- the object stays where it is
pub record IsStill (b c : Book) (n : ℕ) : Type 0 where
  pub address : c.address n ≡ b.address n
  pub section : c.section n ≡ b.section n

-- how many copiers work in a pause: one, as yet
abbrev pub copiers : Program → ℕ
copiers p = 1

-- block j is open for an object of z slot words: no object stands in it, or all that do have this size and a slot is without one
pub record IsOpen (p : Program) (g : Graph) (c : Book) (z j : ℕ) : Type 0 where
  pub there : j < p.config.blocks
  pub size : IsOfSize p g c j z
  pub slot : ℕ
  pub fits : slot < slots z
  pub empty : IsEmptySlot p g c j z slot

-- the word x is the front of a slot of z words without a standing object, of a block in which objects of this size stood before
pub record IsLeftOver (p : Program) (g : Graph) (b c : Book) (z x : ℕ) : Type 0 where
  pub block : ℕ
  pub slot : ℕ
  pub there : block < p.config.blocks
  pub fits : slot < slots z
  pub at : x ≡ slot_at p block z slot
  pub before : (m : ℕ) × IsInBlock p b m block × (slot_words (g.size m) ≡ z)
  pub empty : IsEmptySlot p g c block z slot

-- There are at most, or fewer than, this many numbers of this sort: so many does each list of different ones have.
abbrev pub AtMost : ℕ → (ℕ → Type 0) → Type 0
AtMost most sort = (xs : List ℕ) → AreDistinct xs → AllByRecursion sort xs → length xs ≤ most

abbrev pub FewerThan : ℕ → (ℕ → Type 0) → Type 0
FewerThan bound sort = (xs : List ℕ) → AreDistinct xs → AllByRecursion sort xs → length xs < bound

-- An object fails only where, after the pause, the blocks that are open for it are at most as many as the slots given back, and fewer
-- than nine for each copier; and where fewer slots than copiers are free in the blocks that had its size as the pause began.
pub record HasFailed (p : Program) (g : Graph) (b c : Book) (spares n : ℕ) : Type 0 where
  pub still : IsStill b c n
  pub few_blocks : AtMost (min spares (9 * copiers p - 1)) (IsOpen p g c (slot_words (g.size n)))
  pub few_slots : FewerThan (copiers p) (IsLeftOver p g b c (slot_words (g.size n)))

-- what is told of an object that moved
abbrev pub move_of : Book → Book → ℕ → Move
move_of b c n = record { from = byte_at (b.address n); to = byte_at (c.address n) }

abbrev pub sources : List Move → List ℕ
sources moves = map (λ (move : Move). move.from) moves

-- What is kept: exactly what the roots reach, and what is registered, as the definition of a pause says. Exactly this stands
-- then, and nothing that had died stands again.
pub record Keeping (p : Program) (g : Graph) (b : Book) (ambiguous : List ℕ) (h : Graph) (c : Book) : Type 0 where
  pub kept : ℕ → Bool
  pub pause : IsPause p g (IsRoot p g b ambiguous) h kept
  pub nothing : (c.stands 0 ≡ true) × (c.address 0 ≡ b.address 0) × (c.section 0 ≡ b.section 0)
  pub stands : (n : ℕ) → n ≢ 0 → c.stands n ≡ kept n
  pub stood : (n : ℕ) → c.stands n ≡ true → b.stands n ≡ true

-- Who keeps its address: each pinned object, and each other one that isn't told to have moved. What doesn't stand any more is left in
-- the book as it was.
pub record Staying (g : Graph) (b : Book) (ambiguous : List ℕ) (moves : List Move) (c : Book) : Type 0 where
  pub pinned : (n : ℕ) → IsPinned g b ambiguous n → (c.stands n ≡ true) × IsStill b c n
  pub still : (n : ℕ) → n ≢ 0 → c.stands n ≡ true → IsStill b c n ⊎ Contains moves (move_of b c n)
  pub gone : (n : ℕ) → c.stands n ≡ false → IsStill b c n

-- What is told: each young object that is kept is exactly one of pinned, moved and failed, and each list has exactly its objects,
-- by address.
pub record Telling (p : Program) (g : Graph) (b : Book) (ambiguous : List ℕ) (report : MinorReport) (c : Book) : Type 0 where
  pub pins_in_order : IsStrictlyIncreasing report.pins
  pub pins : (a : ℕ) → Contains report.pins a ↔ ((n : ℕ) × IsPinned g b ambiguous n × (a ≡ byte_at (b.address n)))
  pub moves_in_order : IsStrictlyIncreasing (sources report.moves)
  pub moves : (move : Move) → Contains report.moves move → (n : ℕ) × IsLoose g b ambiguous c n × HasMoved p g b c n × (move ≡ move_of b c n)
  pub fails_in_order : IsStrictlyIncreasing report.fails
  pub fails : (a : ℕ) → Contains report.fails a → (n : ℕ) × IsLoose g b ambiguous c n × HasFailed p g b c report.spares n × (a ≡ byte_at (b.address n))
  pub loose : (n : ℕ) → IsLoose g b ambiguous c n → Contains report.moves (move_of b c n) ⊎ Contains report.fails (byte_at (b.address n))
  -- a slot is given back only where two copiers raced for an object
  pub spares : report.spares ≤ (copiers p - 1) * (length report.moves + length report.fails)

-- How the sections are left: no block is owed that wasn't, the nursery is tiled anew, no mutator has a buffer, and the book is sound.
pub record Tidying (p : Program) (b : Book) (pieces : List Piece) (h : Graph) (c : Book) : Type 0 where
  pub owed : c.owed ≡ b.owed
  pub tiled : IsTiled p h c pieces
  pub emptied : (k : ℕ) → (c.from k ≡ 0) × (c.to k ≡ 0)
  pub sound : IsSoundBook p h c

-- The pause leads from g and b to h and c, with these ambiguous words, and this is its report.
pub record IsMinorPause (p : Program) (g : Graph) (b : Book) (ambiguous : List ℕ) (report : MinorReport) (h : Graph) (c : Book) : Type 0 where
  pub keeps : Keeping p g b ambiguous h c
  pub stays : Staying g b ambiguous report.moves c
  pub tells : Telling p g b ambiguous report c
  pub tidies : Tidying p b report.pieces h c
