-- Where each object stands after a pause that copies in order.
use Rattle.std.proofs.Common.{◌≡◌, ◌≢◌, ℕ, ◌<◌, inl, inr, true, List, [], ◌∷◌, sym, ap, ◌∙◌, subst, arith}
use Rattle.std.proofs.lemmas.Bool.{cases_lt}
use Rattle.sg_words.specs.Lists.{In}
use Rattle.sg_words.specs.Found.{IsSearched}
use Rattle.sg_words.proofs.Blocks.{slot_size-class, class_bounds}
use Rattle.sg_words.proofs.Members.{has-cases}
use Rattle.sg_program.specs.declared.program.Program.{Program}
use Rattle.sg_program.specs.Scripts.{words_for}
use Rattle.sg_graph.specs.Graph.{Graph}
use Rattle.sg_graph.specs.Book.{Book, slot_at, slot_words, IsInSlot, IsEmptySlot, IsOpenSlot, IsShut, IsFirstSlot, IsApart}
use Rattle.sg_graph.specs.Pause.{IsPinned}
use Rattle.sg_graph.specs.Copies.{IsMovable, AreByAddress, StandsOld, items_of, leads_of, moved_to_slot, AreCopied, CopiesInOrder}
use Rattle.sg_replay.proofs.Rising.{one_by_names}
use Rattle.sg_words.proofs.Found.{one_search}

-- two standing objects at one address are one
pub one_standing : (p : Program) (g : Graph) (b : Book) → IsApart p g b → (m n : ℕ) → m ≢ 0 → b.stands m ≡ true → n ≢ 0 → b.stands n ≡ true →
    b.address m ≡ b.address n → m ≡ n
one_standing p g b apart m n some stands some' stands' same =
    apart.apart m n (b.address m) (record { some = omega arith; stands = stands; above = omega arith; below = omega arith })
    (record { some = omega arith; stands = stands'; above = omega arith; below = omega arith })

pub one_by_address : (b : Book) (sort : ℕ → Type 0) (xs ys : List ℕ) → AreByAddress b sort xs → AreByAddress b sort ys → xs ≡ ys
one_by_address b sort xs ys x y =
    one_by_names b.address xs ys x.in_order y.in_order (λ n i. (y.exact n).1 ((x.exact n).0 i)) (λ n i. (x.exact n).1 ((y.exact n).0 i))

-- two pauses find the same objects in one order
pub one_found : (p : Program) (g : Graph) (b : Book) (ambiguous : List ℕ) (c d : Book) (x : CopiesInOrder p g b ambiguous c)
    (y : CopiesInOrder p g b ambiguous d) → x.found ≡ y.found
one_found p g b ambiguous c d x y = one_search (IsMovable g b ambiguous) (leads_of p g (items_of p g x.old x.pinned)) x.found y.found x.searched there
  where
    old : x.old ≡ y.old
    old = one_by_address b (StandsOld b) x.old y.old x.old_are y.old_are

    pinned : x.pinned ≡ y.pinned
    pinned = one_by_address b (IsPinned g b ambiguous) x.pinned y.pinned x.pinned_are y.pinned_are

    there : IsSearched (IsMovable g b ambiguous) (leads_of p g (items_of p g x.old x.pinned)) y.found
    there = subst (λ (o : List ℕ). IsSearched (IsMovable g b ambiguous) (leads_of p g (items_of p g o x.pinned)) y.found) (sym old)
        (subst (λ (o : List ℕ). IsSearched (IsMovable g b ambiguous) (leads_of p g (items_of p g y.old o)) y.found) (sym pinned) y.searched)

-- the object stands at one place by both books
abbrev pub StandsAlike : Book → Book → ℕ → Type 0
StandsAlike c d n = (c.address n ≡ d.address n) × (c.section n ≡ d.section n)

module _ (p : Program) (g : Graph) (d : Book) (z : ℕ) (some : 0 < z) where
  -- the first word of the object in a slot is one of the slot
  not_empty : (n j i : ℕ) → IsInSlot p g d n j z i → IsEmptySlot p g d j z i → ⊥
  not_empty n j i there empty =
      empty n (d.address n) (record { some = there.some; stands = there.stands; above = omega arith; below = omega arith }) (omega (arith, there.at))
      (omega (arith, there.at))

  -- a block with an open slot isn't shut
  pub not_shut : (j i : ℕ) → IsOpenSlot p g d j z i → IsShut p g d j z → ⊥
  not_shut j i at (inl other) = other.2 (at.size other.0 other.1)
  not_shut j i at (inr full) = let n = full i at.fits in not_empty n.0 j i n.1 at.empty

  -- the first slot is one
  one_block : (j k i l : ℕ) → IsFirstSlot p g d j z i → IsFirstSlot p g d k z l → j ≡ k
  one_block j k i l x y = elim (cases_lt j k) [
    | inl before ↦ absurd (not_shut j i x.open_slot (y.below j before))
    | inr above ↦ elim (cases_lt k j) [ inl before ↦ absurd (not_shut k l y.open_slot (x.below k before)) | inr below ↦ omega arith ]
  ]

  one_slot : (j i l : ℕ) → IsOpenSlot p g d j z i → IsOpenSlot p g d j z l → i ≡ l
  one_slot j i l x y = elim (cases_lt i l) [
    | inl before ↦ absurd (let n = y.lowest i before in not_empty n.0 j i n.1 x.empty)
    | inr above ↦ elim (cases_lt l i) [ inl before ↦ absurd (let n = x.lowest l before in not_empty n.0 j l n.1 y.empty) | inr below ↦ omega arith ]
  ]

  pub one_first_slot : (j k i l : ℕ) → IsFirstSlot p g d j z i → IsFirstSlot p g d k z l → slot_at p j z i ≡ slot_at p k z l
  one_first_slot j k i l x y =
      let block = one_block j k i l x y in
      let slot : i ≡ l = one_slot k i l (subst (λ m. IsOpenSlot p g d m z i) block x.open_slot) y.open_slot in
      ap (λ m. slot_at p m z i) block ∙ ap (slot_at p k z) slot

-- an object's slot has words
pub slot_some : (fields : ℕ) → 0 < slot_words fields
slot_some fields = let l = (class_bounds (slot_words fields) (slot_size-class (words_for fields))).0 in omega arith

module _ (p : Program) (g : Graph) (b : Book) where
  -- what is copied in one order goes to one place each
  pub one_copy : (c d so_far : Book) (found : List ℕ) → AreCopied p g b c so_far found → AreCopied p g b d so_far found → (n : ℕ) → In n found →
      StandsAlike c d n
  one_copy c d so_far [] x y n i = absurd (let z = i in cc)
  one_copy c d so_far (m ∷ found) (inl x) (inl y) n i =
      let z = slot_words (g.size m) in
      let at : slot_at p y.0 z y.1 ≡ slot_at p x.0 z x.1 = sym (one_first_slot p g so_far z (slot_some (g.size m)) x.0 y.0 x.1 y.1 x.2 y.2) in
      elim (has-cases n m found i) [
        | inl e ↦ subst (λ z. StandsAlike c d z) (sym e) (x.3 ∙ sym at ∙ sym y.3, x.4 ∙ sym y.4)
        | inr j ↦ one_copy c d (moved_to_slot so_far m (slot_at p x.0 z x.1)) found x.5
            (subst (λ a. AreCopied p g b d (moved_to_slot so_far m a) found) at y.5) n j
      ]
  one_copy c d so_far (m ∷ found) (inl x) (inr y) n i =
      absurd (not_shut p g so_far (slot_words (g.size m)) (slot_some (g.size m)) x.0 x.1 x.2.open_slot (y.0 x.0 x.2.open_slot.there))
  one_copy c d so_far (m ∷ found) (inr x) (inl y) n i =
      absurd (not_shut p g so_far (slot_words (g.size m)) (slot_some (g.size m)) y.0 y.1 y.2.open_slot (x.0 y.0 y.2.open_slot.there))
  one_copy c d so_far (m ∷ found) (inr x) (inr y) n i = elim (has-cases n m found i) [
    | inl e ↦ subst (λ z. StandsAlike c d z) (sym e) (x.1.address ∙ sym y.1.address, x.1.section ∙ sym y.1.section)
    | inr j ↦ one_copy c d so_far found x.2 y.2 n j
  ]
