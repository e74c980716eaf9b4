-- How the nursery is tiled after a pause: by the objects that stand in it, by fragments, and by waste.
use Rattle.std.specs.Prelude.{◌≡◌, ℕ, ◌+◌, ◌<◌, ◌≤◌, ◌⊎◌, List, map, length, slice_index}
use Rattle.std.specs.List.{Contains}
use Rattle.std.specs.List.Sorted.{IsStrictlyIncreasing}
use Rattle.sg_words.specs.Address.{byte_at}
use Rattle.sg_words.specs.Pieces.{fronts_of, ends_of, IsPieceOf, place}
use Rattle.sg_words.specs.declared.pieces.Piece.{Piece}
use Rattle.sg_program.specs.declared.program.Program.{Program}
use Rattle.sg_graph.specs.Graph.{Graph}
use Rattle.sg_graph.specs.Book.{Book, Young, nursery_end, IsWordOf}
use Rattle.sg_words.specs.Sections.{nursery_base}

-- the word x is a standing young object's
abbrev pub IsCovered : Graph → Book → ℕ → Type 0
IsCovered g b x = (n : ℕ) × (b.section n ≡ Young) × IsWordOf g b n x

-- a gap: n words of the nursery from x on, at least one, none of them an object's, that meet an object or the nursery's edge
-- on both sides
pub record IsGap (p : Program) (g : Graph) (b : Book) (x n : ℕ) : Type 0 where
  pub some : 0 < n
  pub from : nursery_base ≤ x
  pub within : x + n ≤ nursery_end p
  pub free : (y : ℕ) → x ≤ y → y < x + n → IsCovered g b y → ⊥
  pub before : (x ≡ nursery_base) ⊎ ((y : ℕ) × (y + 1 ≡ x) × IsCovered g b y)
  pub behind : (x + n ≡ nursery_end p) ⊎ IsCovered g b (x + n)

-- the pieces stand for exactly the gaps, in order of address, and those of 32 words or more are the fragments
pub record IsTiled (p : Program) (g : Graph) (b : Book) (pieces : List Piece) : Type 0 where
  pub in_order : IsStrictlyIncreasing (map place pieces)
  pub each : (piece : Piece) → Contains pieces piece → (x n : ℕ) × IsPieceOf piece x n × IsGap p g b x n
  pub all : (x n : ℕ) → IsGap p g b x n → (piece : Piece) × IsPieceOf piece x n × Contains pieces piece
  pub fragments : b.fragments ≡ length (fronts_of pieces)
  pub next : (f : ℕ) → f < b.fragments → byte_at (b.next f) ≡ slice_index (fronts_of pieces) f
  pub limit : (f : ℕ) → f < b.fragments → byte_at (b.limit f) ≡ slice_index (ends_of pieces) f
  pub beyond : (f : ℕ) → b.fragments ≤ f → (b.next f ≡ 0) × (b.limit f ≡ 0)
