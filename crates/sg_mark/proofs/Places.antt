-- Where objects stand, and where their marks are.
use Rattle.std.proofs.Common.{◌≡◌, ℕ, ◌+◌, ◌<◌, ◌≤◌, ◌⊎◌, inl, inr, Bool, Option, Some, sym, ap, subst, arith}
use Rattle.sg_words.specs.Address.{byte_at, word_at}
use Rattle.sg_words.specs.Blocks.{slot_size}
use Rattle.sg_words.specs.Sections.{nursery_base, old_base, large_base, globals_base}
use Rattle.sg_words.proofs.Blocks.{class_bounds, slot_size-class, slot_size-holds, slot_fits}
use Rattle.sg_space.specs.Space.{Contents}
use Rattle.sg_space.specs.Standing.{size_at, IsSoundBy, IsPlaced, IsStanding}
use Rattle.sg_space.specs.Marks.{IsSlotFront, KeepsItself, HasMark, InWord, InSlot}
use Rattle.sg_mark.specs.Marking.{HasMarks}

-- the number of the word at an address
pub word_of_byte : (a h : ℕ) → a ≡ byte_at h → word_at a ≡ h
word_of_byte a h e = omega arith

-- at an address that an object has, its first word is the object's
pub stands_at : (owner : ℕ → Option ℕ) (a : ℕ) → IsStanding owner a → owner (word_at a) ≡ Some (word_at a)
stands_at owner a at = subst (λ (n : ℕ). owner n ≡ Some n) (sym (word_of_byte a at.0 at.2)) at.1

pub byte_of_word : (owner : ℕ → Option ℕ) (a : ℕ) → IsStanding owner a → a ≡ byte_at (word_at a)
byte_of_word owner a at = let e = at.2 in omega arith

module _ (t : Contents) (c z i h : ℕ) where
  -- a slot lies in the blocks
  pub front_within : IsSlotFront t c z i h → (old_base t.layout ≤ h) × (h < large_base t.layout)
  front_within f =
      let front = f.front in
      let there = f.there in
      let fits = slot_fits z i f.fits in
      let some = (class_bounds z f.class).0 in
      (omega arith, omega arith)

  pub not_both : IsSlotFront t c z i h → KeepsItself t.layout h → ⊥
  not_both f k =
      let is = front_within f in
      let a = is.0 in
      let b = is.1 in
      elim k [ inl y ↦ let l = y.1 in omega arith | inr y ↦ let l = y.0 in omega arith ]

-- where an object keeps its mark
abbrev pub Place : Contents → ℕ → Type 0
Place t h = KeepsItself t.layout h ⊎ ((c : ℕ) × (z : ℕ) × (i : ℕ) × IsSlotFront t c z i h)

module _ (t : Contents) (owner : ℕ → Option ℕ) (sound : IsSoundBy t owner) (h : ℕ) (stands : owner h ≡ Some h) where
  pub place_of : Place t h
  place_of = of (sound.places h stands)
    where
      of : IsPlaced t h → Place t h
      of (inl young) = inl (inl (young.above, let w = young.within in omega arith))
      of (inr (inl old)) = inr (
        old.block,
        slot_size (size_at t h),
        old.slot,
        record {
          there = old.there;
          sized = old.sized;
          class = slot_size-class (size_at t h);
          fits = old.fits;
          front = old.front;
        },
      )
      of (inr (inr large)) = inl (inr (let f = large.front in omega arith, let w = large.within in omega arith))

  -- it lies in the nursery, the blocks and the pages
  pub inside : (nursery_base ≤ h) × (h + size_at t h ≤ globals_base t.layout)
  inside = of (sound.places h stands)
    where
      of : IsPlaced t h → (nursery_base ≤ h) × (h + size_at t h ≤ globals_base t.layout)
      of (inl young) = (young.above, let w = young.within in omega arith)
      of (inr (inl old)) =
          let front = old.front in
          let there = old.there in
          let fits = slot_fits (slot_size (size_at t h)) old.slot old.fits in
          let holds = slot_size-holds (size_at t h) old.small in
          (omega arith, omega arith)
      of (inr (inr large)) = (let f = large.front in omega arith, large.within)

-- the places of marks are those of the space without marks
module _ (t : Contents) (owner : ℕ → Option ℕ) (now : ℕ → Bool) (s : Contents) (marks : HasMarks t owner now s) where
  pub front_to : (c z i h : ℕ) → IsSlotFront t c z i h → IsSlotFront s c z i h
  front_to c z i h f = subst (λ (x : Contents). IsSlotFront x c z i h) (sym marks.same) (record {
    there = f.there;
    sized = f.sized;
    class = f.class;
    fits = f.fits;
    front = f.front;
  })

  pub front_from : (c z i h : ℕ) → IsSlotFront s c z i h → IsSlotFront t c z i h
  front_from c z i h f =
      let g = subst (λ (x : Contents). IsSlotFront x c z i h) marks.same f in
      record {
        there = g.there;
        sized = g.sized;
        class = g.class;
        fits = g.fits;
        front = g.front;
      }

  pub layout_same : s.layout ≡ t.layout
  layout_same = ap (λ (x : Contents). x.layout) marks.same

  pub keeps_to : (h : ℕ) → KeepsItself t.layout h → KeepsItself s.layout h
  keeps_to h k = subst (λ l. KeepsItself l h) (sym layout_same) k

  pub keeps_from : (h : ℕ) → KeepsItself s.layout h → KeepsItself t.layout h
  keeps_from h k = subst (λ l. KeepsItself l h) layout_same k

  pub has_mark : (h : ℕ) → Place t h → HasMark s h
  has_mark h p = elim p [
    | inl k ↦ InWord (keeps_to h k)
    | inr q ↦ InSlot q.0 q.1 q.2 (front_to q.0 q.1 q.2 h q.3)
  ]
