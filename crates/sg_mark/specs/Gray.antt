-- The gray list: the objects that got their marks, in the order in which they got them.
use Rattle.std.specs.Prelude.{◌≡◌, ℕ, ◌-◌, ◌/◌, ◌<◌, Bool, true, if◌then◌else◌, Option, Some, List, ◌++◌, slice_get, slice_index}
use Rattle.std.specs.List.{Contains}
use Rattle.sg_words.specs.Address.{byte_at}
use Rattle.sg_words.specs.Tags.{plain_word}
use Rattle.sg_words.specs.Lists.{has, In}
use Rattle.sg_words.specs.Reach.{AreDistinct}
use Rattle.sg_words.specs.Sections.{nursery_base, globals_base, IsInSection}
use Rattle.sg_words.specs.declared.layout.Layout.{Layout}
use Rattle.sg_desc.specs.declared.shapes.Descriptor.{Descriptor}
use Rattle.sg_desc.specs.declared.shapes.Shape.{Shape}
use Rattle.sg_space.specs.Space.{Contents, IsContents}
use Rattle.sg_space.specs.Standing.{word, IsSoundBy, RefersSoundly, IsStanding, Refers}
use Rattle.sg_mark.specs.Marking.{IsStrongTarget, IsReachedFrom, HasMarks}

-- at most so many objects stand in a space: each has two words or more
abbrev pub most_objects : Layout → ℕ
most_objects layout = (globals_base layout - nursery_base) / 2

-- the objects that were marked, and those of the list
abbrev pub marked_with : (ℕ → Bool) → List ℕ → ℕ → Bool
marked_with marked gray h = if marked h then true else has (byte_at h) gray

-- s is a sound space, whose references are those of standing objects, but that these objects are marked
pub record IsPartly (t : Contents) (owner : ℕ → Option ℕ) (now : ℕ → Bool) (s : Contents) : Type 0 where
  pub contents : IsContents t
  pub sound : IsSoundBy t owner
  pub refers : RefersSoundly t owner
  pub has : HasMarks t owner now s

-- the list has standing objects, each once, and beside those that were marked exactly these are
pub record IsGray (t : Contents) (owner : ℕ → Option ℕ) (marked : ℕ → Bool) (s : Contents) (gray : List ℕ) : Type 0 where
  pub partly : IsPartly t owner (marked_with marked gray) s
  pub stand : (a : ℕ) → In a gray → IsStanding owner a
  pub distinct : AreDistinct gray

-- behind the first list stand only such
abbrev pub GrowsBy : (ℕ → Type 0) → List ℕ → List ℕ → Type 0
GrowsBy P old new = (more : List ℕ) × (new ≡ old ++ more) × ((a : ℕ) → In a more → P a)

-- the object at the address a has its mark, and nothing else was added
pub record HasVisited (t : Contents) (owner : ℕ → Option ℕ) (marked : ℕ → Bool) (old : List ℕ) (a : ℕ) (s : Contents) (new : List ℕ) : Type 0 where
  pub gray : IsGray t owner marked s new
  pub grown : GrowsBy (λ v. v ≡ a) old new
  pub visited : (k : ℕ) → owner k ≡ Some k → a ≡ byte_at k → marked_with marked new k ≡ true

-- x is a word of an object, not its first, that holds nothing or the address of a standing object
pub record IsFieldAt (t : Contents) (owner : ℕ → Option ℕ) (x : ℕ) : Type 0 where
  pub inside : IsInSection t.layout x
  pub behind : owner x ≡ Some x → ⊥
  pub refers : Refers owner (word t x)

-- this is the descriptor of the object whose first word is h
pub record IsKindAt (t : Contents) (h : ℕ) (kind : Descriptor) : Type 0 where
  pub class : ℕ
  pub shape : Shape
  pub shape_is : slice_get t.shapes class ≡ Some shape
  pub tag : word t h ≡ plain_word class
  pub kind_is : kind ≡ shape.kind

-- what strong fields of the object whose first word is h refer to is marked, and nothing else was added
pub record HasScanned (t : Contents) (owner : ℕ → Option ℕ) (marked : ℕ → Bool) (old : List ℕ) (h : ℕ) (s : Contents) (new : List ℕ) : Type 0 where
  pub gray : IsGray t owner marked s new
  pub grown : GrowsBy (λ v. (k : ℕ) × (v ≡ byte_at k) × IsStrongTarget t owner h k) old new
  pub closed : (k : ℕ) → IsStrongTarget t owner h k → marked_with marked new k ≡ true

-- the same of the fields before this one
pub record HasScannedTo (t : Contents) (owner : ℕ → Option ℕ) (marked : ℕ → Bool) (old : List ℕ) (h i : ℕ) (s : Contents) (new : List ℕ) : Type 0 where
  pub gray : IsGray t owner marked s new
  pub grown : GrowsBy (λ v. (k : ℕ) × (v ≡ byte_at k) × IsStrongTarget t owner h k) old new
  pub closed : (k : ℕ) (target : IsStrongTarget t owner h k) → target.field < i → marked_with marked new k ≡ true

-- the first n roots have their marks, and nothing else was added
pub record HasVisitedRoots (t : Contents) (owner : ℕ → Option ℕ) (marked : ℕ → Bool) (old roots : List ℕ) (n : ℕ) (s : Contents) (new : List ℕ) : Type 0 where
  pub gray : IsGray t owner marked s new
  pub grown : GrowsBy (λ v. Contains roots v) old new
  pub visited : (i k : ℕ) → i < n → owner k ≡ Some k → slice_index roots i ≡ byte_at k → marked_with marked new k ≡ true

-- what is on the list is reached from the roots
pub record IsTraced (t : Contents) (owner : ℕ → Option ℕ) (marked : ℕ → Bool) (roots : List ℕ) (s : Contents) (gray : List ℕ) : Type 0 where
  pub is_gray : IsGray t owner marked s gray
  pub reached : (h : ℕ) → In (byte_at h) gray → IsReachedFrom t owner roots h

-- of the first n of the list what their strong fields refer to is marked
pub record IsTracedTo (t : Contents) (owner : ℕ → Option ℕ) (marked : ℕ → Bool) (roots old : List ℕ) (n : ℕ) (s : Contents) (new : List ℕ) : Type 0 where
  pub traced : IsTraced t owner marked roots s new
  pub grown : GrowsBy (λ v. Unit {0}) old new
  pub closed : (i h k : ℕ) → i < n → slice_index new i ≡ byte_at h → IsStrongTarget t owner h k → marked_with marked new k ≡ true
