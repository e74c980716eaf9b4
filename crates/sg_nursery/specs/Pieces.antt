-- The gaps between the objects that stand in the nursery, and the pieces that stand for them.
use Rattle.std.specs.Prelude.{◌≡◌, ℕ, ◌+◌, ◌<◌, ◌≤◌, ◌⊎◌, List, [], ◌∷◌, ◌++◌, map, slice_index_or, length}
use Rattle.std.specs.List.{Contains}
use Rattle.std.specs.List.Sorted.{IsStrictlyIncreasing}
use Rattle.sg_words.specs.Address.{word_at}
use Rattle.sg_words.specs.declared.pieces.Piece.{Piece}
use Rattle.sg_words.specs.Pieces.{IsPieceOf, place}
use Rattle.sg_words.specs.declared.layout.Layout.{Layout}
use Rattle.sg_space.specs.declared.objects.Object.{Object}
use Rattle.sg_words.specs.Sections.{nursery_base, old_base}

-- the object's first word, and the word behind its last one
abbrev pub first_word : Object → ℕ
first_word o = word_at o.at

abbrev pub word_behind : Object → ℕ
word_behind o = word_at o.at + o.words

-- objects that lie in the nursery, each with some words, by address and apart
pub record AreStanding (layout : Layout) (standing : List Object) : Type 0 where
  pub each : (o : Object) → Contains standing o → (0 < o.words) × (nursery_base ≤ first_word o) × (word_behind o ≤ old_base layout)
  pub apart : (j k : ℕ) (d : Object) → j < k → k < length standing → word_behind (slice_index_or standing j d) ≤ first_word (slice_index_or standing k d)

-- some object has this word
abbrev pub IsTaken : List Object → ℕ → Type 0
IsTaken standing x = (o : Object) × Contains standing o × (first_word o ≤ x) × (x < word_behind o)

-- a gap: n words of the nursery from x on, at least one, none of them an object's, that meet an object or the nursery's edge
-- on both sides
pub record IsGap (layout : Layout) (standing : List Object) (x n : ℕ) : Type 0 where
  pub some : 0 < n
  pub from : nursery_base ≤ x
  pub within : x + n ≤ old_base layout
  pub free : (y : ℕ) → x ≤ y → y < x + n → IsTaken standing y → ⊥
  pub before : (x ≡ nursery_base) ⊎ ((y : ℕ) × (y + 1 ≡ x) × IsTaken standing y)
  pub behind : (x + n ≡ old_base layout) ⊎ IsTaken standing (x + n)

-- the pieces stand for exactly the gaps, in increasing order
pub record ArePieces (layout : Layout) (standing : List Object) (pieces : List Piece) : Type 0 where
  pub in_order : IsStrictlyIncreasing (map place pieces)
  pub each : (p : Piece) → Contains pieces p → (x n : ℕ) × IsPieceOf p x n × IsGap layout standing x n
  pub all : (x n : ℕ) → IsGap layout standing x n → (p : Piece) × IsPieceOf p x n × Contains pieces p

-- the pieces after a gap of n words at word x, which may be none
abbrev pub IsGrown : List Piece → ℕ → ℕ → List Piece → Type 0
IsGrown pieces x n after = ((n ≡ 0) × (after ≡ pieces)) ⊎ ((0 < n) × ((p : Piece) × IsPieceOf p x n × (after ≡ pieces ++ p ∷ [])))
