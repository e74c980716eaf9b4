-- Where the mark of an object is.
use Rattle.std.proofs.Common.{◌≡◌, ℕ, ◌+◌, ◌*◌, ◌<◌, ◌≤◌, ◌↔◌, Bool, true, inl, inr, sym, ap, ◌∙◌, subst, slice_set, arith}
use Rattle.std.specs.Int.{bit_at}
use Rattle.sg_words.specs.Blocks.{slot_base, IsOf}
use Rattle.sg_words.specs.Sections.{old_base, large_base, IsInSection}
use Rattle.sg_words.proofs.Blocks.{class_bounds, class_slots, slot_fits, slot_once}
use Rattle.sg_space.specs.Space.{Contents}
use Rattle.sg_space.specs.Standing.{word, block_in, marks_in}
use Rattle.sg_space.specs.Marks.{with_bit, IsSlotFront, KeepsItself, IsMarked, ByWord, BySlot, Marks}
use Rattle.sg_space.proofs.Slots.{of_once}

module _ (s : Contents) (h : ℕ) where
  -- it is in one place
  pub front_inside : (c z i : ℕ) → IsSlotFront s c z i h → (old_base s.layout + 256 * c ≤ h) × (h < old_base s.layout + 256 * c + 256) ×
      (h < large_base s.layout)
  front_inside c z i f =
      let front = f.front in
      let there = f.there in
      let fits = slot_fits z i f.fits in
      let some = (class_bounds z f.class).0 in
      (omega arith, omega arith, omega arith)

  pub not_both : (c z i : ℕ) → IsSlotFront s c z i h → KeepsItself s.layout h → ⊥
  not_both c z i f k =
      let is = front_inside c z i f in
      let a = is.0 in
      let b = is.2 in
      elim k [ inl y ↦ let l = y.1 in omega arith | inr y ↦ let l = y.0 in omega arith ]

  pub block_same : (c z i d y j : ℕ) → IsSlotFront s c z i h → IsSlotFront s d y j h → c ≡ d
  block_same c z i d y j f g =
      let a = front_inside c z i f in
      let b = front_inside d y j g in
      let a0 = a.0 in
      let a1 = a.1 in
      let b0 = b.0 in
      let b1 = b.1 in
      omega arith

  pub slot_same : (c z i d y j : ℕ) → IsSlotFront s c z i h → IsSlotFront s d y j h → i ≡ j
  slot_same c z i d y j f g =
      let block = block_same c z i d y j f g in
      let size : z ≡ y = of_once (block_in s d) z y (subst (λ (k : ℕ). IsOf (block_in s k) z) block f.sized) g.sized in
      let front : h ≡ slot_base s.layout d y i = f.front ∙ ap (λ (k : ℕ). slot_base s.layout k z i) block ∙ ap (λ (k : ℕ). slot_base s.layout d k i) size in
      let other = g.front in
      let some = (class_bounds y g.class).0 in
      slot_once (old_base s.layout) d y i j h (omega arith) (omega arith) (omega arith) (omega arith)

  -- the mark that is read is the object's
  pub marked_in_slot : (c z i : ℕ) (b : Bool) → IsSlotFront s c z i h → (b ≡ true) ↔ (bit_at (marks_in s c) i ≡ 1) → (b ≡ true) ↔ IsMarked s h
  marked_in_slot c z i b f has = (λ e. BySlot c z i f (has.0 e), λ m. has.1 (set m))
    where
      set : IsMarked s h → bit_at (marks_in s c) i ≡ 1
      set (ByWord k e) = absurd (not_both c z i f k)
      set (BySlot d y j g e) =
          subst (λ (k : ℕ). bit_at (marks_in s k) i ≡ 1) (sym (block_same c z i d y j f g))
          (subst (λ (k : ℕ). bit_at (marks_in s d) k ≡ 1) (sym (slot_same c z i d y j f g)) e)

  pub marked_in_word : (b : Bool) → KeepsItself s.layout h → (b ≡ true) ↔ (bit_at (word s h) 63 ≡ 1) → (b ≡ true) ↔ IsMarked s h
  marked_in_word b k has = (λ e. ByWord k (has.0 e), λ m. has.1 (set m))
    where
      set : IsMarked s h → bit_at (word s h) 63 ≡ 1
      set (ByWord k e) = e
      set (BySlot d y j g e) = absurd (not_both d y j g k)

  -- and so is the one that is written
  pub marks_in_slot : (on : Bool) (t : Contents) (c z i : ℕ) → IsSlotFront s c z i h →
      t ≡ record s { marks = slice_set s.marks c (with_bit on (marks_in s c) i) } → Marks s h on t
  marks_in_slot on t c z i f e = record {
    by_word = λ k. absurd (not_both c z i f k);
    by_slot = λ d y j g.
        subst (λ (k : ℕ). t ≡ record s { marks = slice_set s.marks k (with_bit on (marks_in s k) j) }) (block_same c z i d y j f g)
        (subst (λ (k : ℕ). t ≡ record s { marks = slice_set s.marks c (with_bit on (marks_in s c) k) }) (slot_same c z i d y j f g) e);
  }

  pub marks_in_word : (on : Bool) (t : Contents) → KeepsItself s.layout h → t ≡ record s { words = slice_set s.words h (with_bit on (word s h) 63) } →
      Marks s h on t
  marks_in_word on t k e = record {
    by_word = λ k. e;
    by_slot = λ d y j g. absurd (not_both d y j g k);
  }

-- a slot is one of 64
pub few_slots : (s : Contents) (c z i h : ℕ) → IsSlotFront s c z i h → i < 64
few_slots s c z i h f = let fits = f.fits in let most = (class_slots z f.class).1 in omega arith

-- such an object lies in a section
pub keeps_section : (s : Contents) (h : ℕ) → KeepsItself s.layout h → IsInSection s.layout h
keeps_section s h k = elim k [
  | inl y ↦ let a = y.0 in let b = y.1 in (omega arith, omega arith)
  | inr y ↦ let a = y.0 in let b = y.1 in (omega arith, omega arith)
]
