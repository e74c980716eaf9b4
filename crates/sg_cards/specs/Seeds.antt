-- The strong fields of standing old and large objects that hold young references, and the cards that they need.
use Rattle.std.specs.Prelude.{◌≡◌, ℕ, ◌+◌, ◌<◌, ◌≤◌, true, Option, Some, List, map, slice_get, slice_index}
use Rattle.std.specs.List.Sorted.{IsStrictlyIncreasing}
use Rattle.sg_words.specs.Address.{byte_at}
use Rattle.sg_words.specs.Tags.{plain_word}
use Rattle.sg_words.specs.Blocks.{card_of}
use Rattle.sg_words.specs.Sections.{old_base, IsYoung}
use Rattle.sg_words.specs.declared.layout.Layout.{Layout}
use Rattle.sg_desc.specs.declared.shapes.Shape.{Shape}
use Rattle.sg_desc.specs.Shapes.{is_strong}
use Rattle.sg_space.specs.Space.{Contents}
use Rattle.sg_space.specs.Standing.{word, IsSoundBy}
use Rattle.sg_cards.specs.declared.found.Seed.{Seed}

-- v is the address of a word of the nursery
abbrev pub IsYoungWord : Layout → ℕ → Type 0
IsYoungWord layout v = (y : ℕ) × (v ≡ byte_at y) × IsYoung layout y

-- the word x is a strong field of a standing old or large object
pub record IsStrongField (s : Contents) (owner : ℕ → Option ℕ) (x : ℕ) : Type 0 where
  pub front : ℕ
  pub field : ℕ
  pub class : ℕ
  pub shape : Shape
  pub stands : owner front ≡ Some front
  pub old : old_base s.layout ≤ front
  pub at : x ≡ front + 2 + field
  pub within : field < word s (front + 1)
  pub shape_is : slice_get s.shapes class ≡ Some shape
  pub tag : word s front ≡ plain_word class
  pub strong : is_strong shape.kind field (word s (front + 1)) ≡ true

-- and it holds a young reference
pub record IsSeedAt (s : Contents) (owner : ℕ → Option ℕ) (x : ℕ) : Type 0 where
  pub field : IsStrongField s owner x
  pub young : IsYoungWord s.layout (word s x)

-- the list has exactly these fields, by address, each with what it holds
pub record AreSeeds (s : Contents) (owner : ℕ → Option ℕ) (seeds : List Seed) : Type 0 where
  pub in_order : IsStrictlyIncreasing (map (λ (seed : Seed). seed.slot) seeds)
  pub each : (k : ℕ) (seed : Seed) → slice_get seeds k ≡ Some seed → (x : ℕ) × IsSeedAt s owner x × (seed.slot ≡ byte_at x) × (seed.target ≡ word s x)
  pub all : (x : ℕ) → IsSeedAt s owner x → (k : ℕ) × (seed : Seed) × (slice_get seeds k ≡ Some seed) × (seed.slot ≡ byte_at x)

-- card c has such a field
abbrev pub HasSeed : Contents → (ℕ → Option ℕ) → ℕ → Type 0
HasSeed s owner c = (x : ℕ) × IsSeedAt s owner x × (card_of s.layout x ≡ c)

-- each such field has a dirty card
abbrev pub AreCarded : Contents → Type 0
AreCarded s = (owner : ℕ → Option ℕ) → IsSoundBy s owner → (x : ℕ) → IsSeedAt s owner x → slice_index s.cards (card_of s.layout x) ≡ 1
