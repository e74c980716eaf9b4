-- Marking: what strong fields reach from roots, and which objects of a space are marked.
use Rattle.std.specs.Prelude.{◌≡◌, ◌⊎◌, ◌↔◌, ℕ, ◌+◌, ◌^◌, ◌<◌, Bool, true, Option, Some, List, length, slice_get}
use Rattle.std.specs.List.{Contains}
use Rattle.std.specs.Int.{bit_at}
use Rattle.sg_words.specs.Address.{byte_at}
use Rattle.sg_words.specs.Tags.{plain_word}
use Rattle.sg_words.specs.Reach.{Reached}
use Rattle.sg_desc.specs.Shapes.{is_strong}
use Rattle.sg_desc.specs.declared.shapes.Shape.{Shape}
use Rattle.sg_space.specs.Space.{Contents, IsContents}
use Rattle.sg_space.specs.Standing.{word, marks_in, IsSoundBy, RefersSoundly}
use Rattle.sg_space.specs.Marks.{KeepsItself, IsSlotFront}

-- a strong field of the object whose first word is h holds the address of the object whose first word is k
pub record IsStrongTarget (t : Contents) (owner : ℕ → Option ℕ) (h k : ℕ) : Type 0 where
  pub class : ℕ
  pub shape : Shape
  pub field : ℕ
  pub stands : owner h ≡ Some h
  pub target : owner k ≡ Some k
  pub shape_is : slice_get t.shapes class ≡ Some shape
  pub tag : word t h ≡ plain_word class
  pub within : field < word t (h + 1)
  pub strong : is_strong shape.kind field (word t (h + 1)) ≡ true
  pub holds : word t (h + 2 + field) ≡ byte_at k

-- the address of the object whose first word is h is among the roots
abbrev pub IsRootAt : List ℕ → ℕ → Type 0
IsRootAt roots h = Contains roots (byte_at h)

-- strong fields reach the object whose first word is h from the roots
abbrev pub IsReachedFrom : Contents → (ℕ → Option ℕ) → List ℕ → ℕ → Type 0
IsReachedFrom t owner roots = Reached (IsStrongTarget t owner) (IsRootAt roots)

-- s is the space t, in which no object is marked, but that exactly these of its objects are
pub record HasMarks (t : Contents) (owner : ℕ → Option ℕ) (marked : ℕ → Bool) (s : Contents) : Type 0 where
  pub same : s ≡ record t { words = s.words; marks = s.marks }
  pub words_length : length s.words ≡ length t.words
  pub marks_length : length s.marks ≡ length t.marks
  -- the first word of a marked object that isn't old has its top bit set, and every other word is as in t
  pub top : (h : ℕ) → owner h ≡ Some h → KeepsItself t.layout h → marked h ≡ true → word s h ≡ word t h + 2 ^ 63
  pub rest : (x : ℕ) → ((owner x ≡ Some x) × KeepsItself t.layout x × (marked x ≡ true) → ⊥) → word s x ≡ word t x
  -- the marks of a block are set for exactly the slots of its marked objects
  pub set : (h c z i : ℕ) → owner h ≡ Some h → IsSlotFront t c z i h → marked h ≡ true → bit_at (marks_in s c) i ≡ 1
  pub only : (c i : ℕ) → bit_at (marks_in s c) i ≡ 1 → (h : ℕ) × (z : ℕ) × (owner h ≡ Some h) × IsSlotFront t c z i h × (marked h ≡ true)

-- Marking may go on from s: it is the space t, sound and with no mark, but that these objects are marked; what strong fields of marked objects
-- refer to is marked; and at each root an object stands.
pub record CanMark (t : Contents) (owner : ℕ → Option ℕ) (marked : ℕ → Bool) (s : Contents) (roots : List ℕ) : Type 0 where
  pub contents : IsContents t
  pub sound : IsSoundBy t owner
  pub refers : RefersSoundly t owner
  pub unmarked : (c : ℕ) → marks_in t c ≡ 0
  pub has : HasMarks t owner marked s
  pub closed : (h k : ℕ) → marked h ≡ true → IsStrongTarget t owner h k → marked k ≡ true
  pub stand : (a : ℕ) → Contains roots a → (h : ℕ) × (owner h ≡ Some h) × (a ≡ byte_at h)

-- after marking exactly those objects are marked that were before, or that strong fields reach from the roots
pub record HasMarked (t : Contents) (owner : ℕ → Option ℕ) (marked : ℕ → Bool) (roots : List ℕ) (s : Contents) : Type 0 where
  pub now : ℕ → Bool
  pub has : HasMarks t owner now s
  pub exact : (h : ℕ) → owner h ≡ Some h → (now h ≡ true) ↔ ((marked h ≡ true) ⊎ IsReachedFrom t owner roots h)
