-- Which objects stand in a space, read off its words, and when the space is sound.
use Rattle.std.specs.Prelude.{◌≡◌, ◌≢◌, ℕ, ◌+◌, ◌*◌, ◌%◌, ◌<◌, ◌≤◌, ◌⊎◌, true, false, Option, Some, None, List, length, slice_index, slice_index_or, slice_get}
use Rattle.std.specs.Prelude.{map}
use Rattle.std.specs.Int.{bit_at}
use Rattle.std.specs.List.Sorted.{IsStrictlyIncreasing}
use Rattle.sg_words.specs.Address.{byte_at, word_at}
use Rattle.sg_words.specs.Tags.{plain_word}
use Rattle.sg_words.specs.Blocks.{IsSizeClass, slot_size, slots, slot_base, IsOf, IsOwing, is_taken}
use Rattle.sg_words.specs.declared.steps.BlockWord.{BlockWord}
use Rattle.sg_words.specs.declared.steps.BlockWord.TheVariants.{Free, Sweeping}
use Rattle.sg_words.specs.declared.layout.Layout.{Layout}
use Rattle.sg_desc.specs.declared.shapes.Shape.{Shape}
use Rattle.sg_desc.specs.Shapes.{holds_reference, is_vector}
use Rattle.sg_space.specs.declared.objects.Object.{Object}
use Rattle.sg_words.specs.Sections.{nursery_base, old_base, large_base, globals_base, ready_base, links_base, words_end, IsYoung}
use Rattle.sg_space.specs.Space.{Contents}

-- the word with this number
abbrev pub word : Contents → ℕ → ℕ
word s x = slice_index s.words x

-- the word, the occupancy and the marks of block c, and the word of page j
abbrev pub block_in : Contents → ℕ → BlockWord
block_in s c = slice_index_or s.blocks c Free

abbrev pub used_in : Contents → ℕ → ℕ
used_in s c = slice_index s.used c

abbrev pub marks_in : Contents → ℕ → ℕ
marks_in s c = slice_index s.marks c

abbrev pub page_in : Contents → ℕ → ℕ
page_in s j = slice_index s.pages j

-- the first word of page j
abbrev pub page_base : Layout → ℕ → ℕ
page_base layout j = large_base layout + 128 * j

-- the words of the object whose first word is h
abbrev pub size_at : Contents → ℕ → ℕ
size_at s h = word s (h + 1) + 2

-- the object whose first word is h has a plain tag of one of the classes, and that class's number of fields if the class has one of its own
pub record IsObject (s : Contents) (h : ℕ) : Type 0 where
  pub class : ℕ
  pub shape : Shape
  pub shape_is : slice_get s.shapes class ≡ Some shape
  pub tag : word s h ≡ plain_word class
  pub size : is_vector shape.kind ≡ false → word s (h + 1) ≡ shape.fields
  -- that each reference field holds nothing or the address of a standing object is said in RefersSoundly, where the owners are known

-- a young object lies in the nursery and has at most 64 words
pub record IsInNursery (s : Contents) (h : ℕ) : Type 0 where
  pub above : nursery_base ≤ h
  pub within : h + size_at s h ≤ old_base s.layout
  pub small : size_at s h ≤ 64

-- an old object has at most 64 words, and stands at the front of a slot of its least size class, whose bit is set
pub record IsInSlot (s : Contents) (h : ℕ) : Type 0 where
  pub block : ℕ
  pub slot : ℕ
  pub there : block < s.layout.blocks
  pub sized : IsOf (block_in s block) (slot_size (size_at s h))
  pub fits : slot < slots (slot_size (size_at s h))
  pub front : h ≡ slot_base s.layout block (slot_size (size_at s h)) slot
  pub taken : is_taken (block_in s block) (used_in s block) (marks_in s block) slot ≡ 1
  pub small : size_at s h ≤ 64

-- a large object has more than 64 words, and stands at the front of the pages that it takes, whose words name the first of them
pub record IsInPages (s : Contents) (h : ℕ) : Type 0 where
  pub page : ℕ
  pub front : h ≡ page_base s.layout page
  pub large : 64 < size_at s h
  pub within : h + size_at s h ≤ globals_base s.layout
  pub takes : (j : ℕ) → page ≤ j → page_base s.layout j < h + size_at s h → page_in s j ≡ page + 1

-- a standing object is young, old or large
abbrev pub IsPlaced : Contents → ℕ → Type 0
IsPlaced s h = IsInNursery s h ⊎ (IsInSlot s h ⊎ IsInPages s h)

-- What block c's own words say: it isn't being swept, and its size is a size class; where it is free, no slot is occupied or marked; in each
-- slot whose bit is set (its occupancy's where it is swept, its marks' where it is to be swept) an object stands; only occupied slots are
-- marked.
pub record IsSoundBlock (s : Contents) (owner : ℕ → Option ℕ) (c : ℕ) : Type 0 where
  pub settled : (z : ℕ) → block_in s c ≢ Sweeping z
  pub sized : (z : ℕ) → IsOf (block_in s c) z → IsSizeClass z
  pub bare : block_in s c ≡ Free → (used_in s c ≡ 0) × (marks_in s c ≡ 0)
  pub filled : (z i : ℕ) → IsOf (block_in s c) z → is_taken (block_in s c) (used_in s c) (marks_in s c) i ≡ 1 →
      (i < slots z) × (owner (slot_base s.layout c z i) ≡ Some (slot_base s.layout c z i))
  pub marked : (i : ℕ) → bit_at (marks_in s c) i ≡ 1 → bit_at (used_in s c) i ≡ 1

-- where page j isn't free, its word names the first page of a large object that has a word of page j
pub record IsSoundPage (s : Contents) (owner : ℕ → Option ℕ) (j : ℕ) : Type 0 where
  pub named : (q : ℕ) → page_in s j ≡ q + 1 → (owner (page_base s.layout q) ≡ Some (page_base s.layout q)) × (q ≤ j) ×
      (page_base s.layout j < page_base s.layout q + size_at s (page_base s.layout q))

-- x is a word of a slot that isn't marked, of a block that is still to be swept: it may be anything
pub record IsGarbage (s : Contents) (x : ℕ) : Type 0 where
  pub block : ℕ
  pub size : ℕ
  pub slot : ℕ
  pub there : block < s.layout.blocks
  pub owing : IsOwing (block_in s block) size
  pub fits : slot < slots size
  pub unmarked : bit_at (marks_in s block) slot ≡ 0
  pub from : slot_base s.layout block size slot ≤ x
  pub to : x < slot_base s.layout block size slot + size

-- Whose word each word is: `owner x` is the first word of the standing object that has the word x. One function says that
-- ranges are disjoint, that gaps are what is left, and what a word points into.
pub record IsSoundBy (s : Contents) (owner : ℕ → Option ℕ) : Type 0 where
  pub words : length s.words ≡ words_end s.layout
  pub classes : length s.shapes ≤ 256
  pub owned : (x h : ℕ) → owner x ≡ Some h → (h ≤ x) × (x < h + size_at s h) × (owner h ≡ Some h)
  pub whole : (h x : ℕ) → owner h ≡ Some h → h ≤ x → x < h + size_at s h → owner x ≡ Some h
  pub objects : (h : ℕ) → owner h ≡ Some h → IsObject s h
  pub places : (h : ℕ) → owner h ≡ Some h → IsPlaced s h
  pub blocks : (c : ℕ) → c < s.layout.blocks → IsSoundBlock s owner c
  pub pages : (j : ℕ) → j < s.layout.pages → IsSoundPage s owner j
  -- the nursery, the blocks and the pages are zero outside of objects and of what is to be swept
  pub clear : (x : ℕ) → owner x ≡ None → nursery_base ≤ x → x < globals_base s.layout → (IsGarbage s x → ⊥) → word s x ≡ 0
  -- the fragments are byte addresses in the nursery, in order, and no word from a next word to its end is an object's
  pub fragments : length s.next ≡ length s.ends
  pub ordered : (f : ℕ) → f < length s.ends → (slice_index s.next f ≤ slice_index s.ends f) × (slice_index s.ends f ≤ byte_at (old_base s.layout)) × (byte_at nursery_base ≤ slice_index s.next f)
  pub apart : (f j : ℕ) → f < j → j < length s.ends → slice_index s.ends f ≤ slice_index s.next j
  pub addresses : (f : ℕ) → f < length s.ends → (slice_index s.next f % 8 ≡ 0) × (slice_index s.ends f % 8 ≡ 0)
  pub free : (f x : ℕ) → f < length s.ends → word_at (slice_index s.next f) ≤ x → x < word_at (slice_index s.ends f) → owner x ≡ None

-- some objects stand in the space
abbrev pub IsSound : Contents → Type 0
IsSound s = (owner : ℕ → Option ℕ) × IsSoundBy s owner

-- v is the address of a standing object; v holds nothing, or one
abbrev pub IsStanding : (ℕ → Option ℕ) → ℕ → Type 0
IsStanding owner v = (g : ℕ) × (owner g ≡ Some g) × (v ≡ byte_at g)

abbrev pub Refers : (ℕ → Option ℕ) → ℕ → Type 0
Refers owner v = (v ≡ 0) ⊎ IsStanding owner v

-- a weak link holds nothing, or the address of a standing object, and one more where it is a long link
abbrev pub Links : (ℕ → Option ℕ) → ℕ → Type 0
Links owner v = (v ≡ 0) ⊎ ((g : ℕ) × (owner g ≡ Some g) × ((v ≡ byte_at g) ⊎ (v ≡ byte_at g + 1)))

-- the reference fields of standing objects, the globals, the links' targets, the ready entries from the head on, the registrations
-- and the pairs hold nothing or the addresses of standing objects
pub record RefersSoundly (s : Contents) (owner : ℕ → Option ℕ) : Type 0 where
  pub fields : (h i class : ℕ) (shape : Shape) → owner h ≡ Some h → slice_get s.shapes class ≡ Some shape → word s h ≡ plain_word class → i < word s (h + 1) → holds_reference shape.kind i (word s (h + 1)) ≡ true →
      Refers owner (word s (h + 2 + i))
  pub globals : (x : ℕ) → x < 64 → Refers owner (word s (globals_base s.layout + x))
  pub links : (x : ℕ) → x < 64 → Links owner (word s (links_base s.layout + x))
  pub ready : (j : ℕ) → s.head ≤ j → j < 1024 → Refers owner (word s (ready_base s.layout + j))
  pub registered : (j : ℕ) → j < length s.registered → IsStanding owner (slice_index s.registered j)
  pub pairs : (j : ℕ) → j < length s.pairs → IsStanding owner (slice_index s.pairs j)

-- the head of the ready row isn't above the entries that were made, and from the head on exactly these aren't empty
pub record AreRows (s : Contents) : Type 0 where
  pub head : s.head ≤ s.made
  pub made : (j : ℕ) → s.head ≤ j → j < s.made → word s (ready_base s.layout + j) ≢ 0
  pub rest : (j : ℕ) → s.made ≤ j → j < 1024 → word s (ready_base s.layout + j) ≡ 0

-- what is told of the standing object whose first word is h
pub record IsToldOf (s : Contents) (h : ℕ) (o : Object) : Type 0 where
  pub at : o.at ≡ byte_at h
  pub class : word s h ≡ plain_word o.class
  pub fields : o.fields ≡ word s (h + 1)
  pub words : o.words ≡ size_at s h

-- the list tells exactly the standing objects of the nursery, by address
pub record TellsYoung (s : Contents) (owner : ℕ → Option ℕ) (told : List Object) : Type 0 where
  pub in_order : IsStrictlyIncreasing (map (λ (o : Object). o.at) told)
  pub each : (k : ℕ) (o : Object) → slice_get told k ≡ Some o → (h : ℕ) × (owner h ≡ Some h) × IsYoung s.layout h × IsToldOf s h o
  pub all : (h : ℕ) → owner h ≡ Some h → IsYoung s.layout h → (k : ℕ) × (o : Object) × (slice_get told k ≡ Some o) × (o.at ≡ byte_at h)

-- by every owner by which the space is sound, the objects that begin below the word x end there or below
pub record IsClearAt (s : Contents) (x : ℕ) : Type 0 where
  pub ends : (owner : ℕ → Option ℕ) → IsSoundBy s owner → (h : ℕ) → owner h ≡ Some h → h < x → h + size_at s h ≤ x

-- no object has the word x, by every owner by which the space is sound
pub record IsFree (s : Contents) (x : ℕ) : Type 0 where
  pub none : (owner : ℕ → Option ℕ) → IsSoundBy s owner → owner x ≡ None

-- no object has a word from x to before y, by every owner by which the space is sound
pub record AreFree (s : Contents) (x y : ℕ) : Type 0 where
  pub none : (owner : ℕ → Option ℕ) → IsSoundBy s owner → (z : ℕ) → x ≤ z → z < y → owner z ≡ None

-- no object begins at the word x, by every owner by which the space is sound
pub record IsNoFront (s : Contents) (x : ℕ) : Type 0 where
  pub other : (owner : ℕ → Option ℕ) → IsSoundBy s owner → owner x ≢ Some x

-- an object begins at the word x, by every owner by which the space is sound
pub record IsFront (s : Contents) (x : ℕ) : Type 0 where
  pub begins : (owner : ℕ → Option ℕ) → IsSoundBy s owner → owner x ≡ Some x

-- the word x is the first one of a standing object, of which this is told, by every owner by which the space is sound
pub record TellsAt (s : Contents) (x : ℕ) (o : Object) : Type 0 where
  pub begins : (owner : ℕ → Option ℕ) → IsSoundBy s owner → owner x ≡ Some x
  pub told : IsToldOf s x o

-- this is told of the standing object that has the word x
pub record HoldsWord (s : Contents) (x : ℕ) (o : Object) : Type 0 where
  pub tells : TellsAt s (word_at o.at) o
  pub whole : o.at % 8 ≡ 0
  pub above : word_at o.at ≤ x
  pub below : x < word_at o.at + o.words

-- the standing object at the byte address a has the byte v, by every owner by which the space is sound
pub record HasByte (s : Contents) (v a : ℕ) : Type 0 where
  pub owns : (owner : ℕ → Option ℕ) → IsSoundBy s owner → owner (word_at v) ≡ Some (word_at a)
  pub whole : a % 8 ≡ 0
  pub above : a ≤ v
  pub below : v < a + 8 * size_at s (word_at a)
