-- What taking and freeing pages means for the objects of a sound space.
use Rattle.std.specs.Prelude.{◌≡◌, ◌≢◌, ℕ, ◌+◌, ◌/◌, ◌==◌, ◌<◌, ◌≤◌, ◌&&◌}
use Rattle.std.specs.Prelude.{nat_le, nat_lt, false, Option, Some, None, if◌then◌else◌, slice_get, slice_set}
use Rattle.sg_words.specs.Address.{byte_at, word_at}
use Rattle.sg_words.specs.Sections.{large_base}
use Rattle.sg_words.specs.Tags.{plain_word}
use Rattle.sg_desc.specs.declared.shapes.Shape.{Shape}
use Rattle.sg_desc.specs.Shapes.{is_vector}
use Rattle.sg_space.specs.Space.{Contents, IsContents}
use Rattle.sg_space.specs.Standing.{word, page_base, IsSoundBy, RefersSoundly, AreRows}
use Rattle.sg_los.specs.Pages.{IsFreeRun, TakesRun, IsLargeAt, FreesPages}

-- the owner, unless it is h
abbrev pub unless : ℕ → Option ℕ → Option ℕ
unless h None = None
unless h (Some g) = if g == h then None else Some g

-- the objects without the one whose first word is h
abbrev pub without : (ℕ → Option ℕ) → ℕ → ℕ → Option ℕ
without owner h x = unless h (owner x)

-- the objects, and one more, of n words from the word h on
abbrev pub with_object : (ℕ → Option ℕ) → ℕ → ℕ → ℕ → Option ℕ
with_object owner h n x = if nat_le h x && nat_lt x (h + n) then Some h else owner x

-- the space with the header of an object at the word h: its tag, and its number of fields
abbrev pub headed : Contents → ℕ → ℕ → ℕ → Contents
headed s h class fields = record s { words = slice_set (slice_set s.words (h + 1) fields) h (plain_word class) }

-- the pages of the standing large object whose first word is h were freed in a sound space
pub record HasFreed (s t : Contents) (owner : ℕ → Option ℕ) (h : ℕ) : Type 0 where
  pub contents : IsContents s
  pub sound : IsSoundBy s owner
  pub stands : owner h ≡ Some h
  pub large : large_base s.layout ≤ h
  pub frees : FreesPages s (byte_at h) t

-- All of these speak of a sound space, in which the first word of each object is its tag. A large object that is marked has its mark in that
-- word: so the marks of the large objects have to be cleared before the first of them is freed.
pub record LargeLaw : Type 0 where
  -- no object has a word of a free run, and its words are zero
  pub apart : (s : Contents) (owner : ℕ → Option ℕ) → IsSoundBy s owner → (j n x : ℕ) → IsFreeRun s j n →
      page_base s.layout j ≤ x → x < page_base s.layout (j + n) → (owner x ≡ None) × (word s x ≡ 0)
  -- a standing object of the pages has a run of pages, which begins with it
  pub stands : (s : Contents) → IsContents s → (owner : ℕ → Option ℕ) → IsSoundBy s owner → (h : ℕ) → owner h ≡ Some h →
      large_base s.layout ≤ h → IsLargeAt s (byte_at h)
  -- once its pages are freed, the space is sound with all other objects
  pub freed : (s t : Contents) (owner : ℕ → Option ℕ) (h : ℕ) → HasFreed s t owner h → IsSoundBy t (without owner h)
  -- and no word of any other object has changed
  pub kept : (s t : Contents) (owner : ℕ → Option ℕ) (h : ℕ) → HasFreed s t owner h → (x g : ℕ) → owner x ≡ Some g → g ≢ h → word t x ≡ word s x
  -- where the other objects and the roots refer to none but those others, they do afterwards; the ready row is as it was
  pub refers : (s t : Contents) (owner : ℕ → Option ℕ) (h : ℕ) → HasFreed s t owner h → RefersSoundly s (without owner h) →
      RefersSoundly t (without owner h)
  pub rows : (s t : Contents) (owner : ℕ → Option ℕ) (h : ℕ) → HasFreed s t owner h → AreRows s → AreRows t
  -- a large object that gets its header on the pages that were taken for it stands there, and the space is sound with it
  pub taken : (s t : Contents) (owner : ℕ → Option ℕ) → IsSoundBy s owner → (a class fields : ℕ) (shape : Shape) →
      slice_get s.shapes class ≡ Some shape →
      (is_vector shape.kind ≡ false → fields ≡ shape.fields) → 64 < fields + 2 → TakesRun s ((fields + 2 + 127) / 128) a t →
      IsSoundBy (headed t (word_at a) class fields) (with_object owner (word_at a) (fields + 2))
