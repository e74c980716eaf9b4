-- What follows from which objects are marked.
use Rattle.std.specs.Prelude.{◌≡◌, ◌⊎◌, ◌↔◌, ℕ, Bool, true, false, Option, Some, List, slice_set}
use Rattle.std.specs.List.{Contains}
use Rattle.sg_space.specs.Space.{Contents, IsContents}
use Rattle.sg_space.specs.Standing.{marks_in, IsSoundBy, IsStanding}
use Rattle.sg_space.specs.Marks.{KeepsItself, IsSlotFront, HasMark, IsMarked, Marks}
use Rattle.sg_mark.specs.Marking.{HasMarks, CanMark, HasMarked}

pub record MarkingLaw : Type 0 where
  -- after a marking one may go on from other roots
  pub again : (t : Contents) (owner : ℕ → Option ℕ) (marked : ℕ → Bool) (before after : Contents) (roots more : List ℕ) → CanMark t owner marked before roots →
      (marks : HasMarked t owner marked roots after) → ((a : ℕ) → Contains more a → IsStanding owner a) → CanMark t owner marks.now after more
  -- a mark that is read tells whether its object is one of those
  pub told : (t : Contents) (owner : ℕ → Option ℕ) (now : ℕ → Bool) (s : Contents) → IsSoundBy t owner → HasMarks t owner now s → (h : ℕ) → owner h ≡ Some h →
      HasMark s h × (IsMarked s h ↔ (now h ≡ true))
  -- without the mark of a young or a large object those are marked but this one
  pub without : (t : Contents) (owner : ℕ → Option ℕ) (now less : ℕ → Bool) (s new : Contents) (h : ℕ) → IsContents t → IsSoundBy t owner → HasMarks t owner now s →
      owner h ≡ Some h → KeepsItself t.layout h → Marks s h false new → ((x : ℕ) → less x ≡ true → now x ≡ true) → ((x : ℕ) → now x ≡ true → (less x ≡ true) ⊎ (x ≡ h)) →
      less h ≡ false → HasMarks t owner less new
  -- without the marks of a block those are marked but the ones in its slots
  pub cleared : (t : Contents) (owner : ℕ → Option ℕ) (now less : ℕ → Bool) (s new : Contents) (c : ℕ) → HasMarks t owner now s →
      new ≡ record s { marks = slice_set s.marks c 0 } → ((x : ℕ) → less x ≡ true → now x ≡ true) →
      ((x : ℕ) → now x ≡ true → (less x ≡ true) ⊎ ((z : ℕ) × (i : ℕ) × IsSlotFront t c z i x)) → ((x z i : ℕ) → IsSlotFront t c z i x → less x ≡ false) → HasMarks t owner less new
  -- with no object marked it is the space without marks
  pub bare : (t : Contents) (owner : ℕ → Option ℕ) (now : ℕ → Bool) (s : Contents) → ((c : ℕ) → marks_in t c ≡ 0) → HasMarks t owner now s → ((h : ℕ) → now h ≡ false) → s ≡ t
