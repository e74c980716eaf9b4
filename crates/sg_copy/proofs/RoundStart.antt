-- A round of one worker opens where its space can be copied.
use Rattle.std.proofs.Common.{◌≡◌, ◌≢◌, ℕ, zero, suc, ◌<◌, ◌≤◌, ◌⊎◌, List}
use Rattle.std.proofs.Common.{[], ◌∷◌, ◌++◌, length, map, slice_index, replicate, inl, inr, refl, sym, ap, ◌∙◌, subst, arith}
use Rattle.std.proofs.lemmas.List.{length-map}
use Rattle.sg_words.specs.Lists.{In}
use Rattle.sg_words.specs.Reach.{AreDistinct}
use Rattle.sg_words.specs.Sections.{IsLayout}
use Rattle.sg_words.specs.declared.layout.Layout.{Layout}
use Rattle.sg_words.proofs.Puts.{put-all, put-same}
use Rattle.sg_words.proofs.Members.{in-here, in-there}
use Rattle.sg_desc.specs.declared.shapes.Shape.{Shape}
use Rattle.sg_space.specs.Space.{Contents}
use Rattle.sg_space.specs.Standing.{word}
use Rattle.sg_round.specs.Area.{Area, IsArea}
use Rattle.sg_round.specs.Items.{Item, SlotOf, WholeOf, HasWhole, slots_in, slots_of}
use Rattle.sg_round.specs.Worker.{Idle, Over, Worker, starting}
use Rattle.sg_round.specs.Order.{strong_of}
use Rattle.sg_round.specs.Round.{Start, AreDealt, IsRoundOpening}
use Rattle.sg_copy.specs.declared.gray.Gray.{Gray}
use Rattle.sg_copy.specs.Grays.{item_of}
use Rattle.sg_copy.specs.Copying.{area_by, area_of, items_of, CanCopy}
use Rattle.sg_copy.specs.Rounds.{resting, alone, start_of, AreItems}

-- the slots of items
wholes-slots : (area : Area) (w : ℕ → ℕ) (wholes : List ℕ) → slots_of area w (λ x. x) (map WholeOf wholes) ≡ strong_of area w wholes
wholes-slots area w [] = refl
wholes-slots area w (t ∷ wholes) = ap (λ (l : List ℕ). slots_in area w (λ x. x) (WholeOf t) ++ l) (wholes-slots area w wholes)

pub items-slots : (area : Area) (w : ℕ → ℕ) (slots wholes : List ℕ) →
    slots_of area w (λ x. x) (map SlotOf slots ++ map WholeOf wholes) ≡ slots ++ strong_of area w wholes
items-slots area w [] wholes = wholes-slots area w wholes
items-slots area w (s ∷ slots) wholes = ap (λ (l : List ℕ). s ∷ l) (items-slots area w slots wholes)

whole-in : (wholes : List ℕ) (x : ℕ) → HasWhole x (map WholeOf wholes) → In x wholes
whole-in [] x h = absurd h
whole-in (t ∷ wholes) x (inl e) = in-here x t wholes e
whole-in (t ∷ wholes) x (inr h) = in-there x t wholes (whole-in wholes x h)

items-whole : (slots wholes : List ℕ) (x : ℕ) → HasWhole x (map SlotOf slots ++ map WholeOf wholes) → In x wholes
items-whole [] wholes x h = whole-in wholes x h
items-whole (s ∷ slots) wholes x h = items-whole slots wholes x h

-- empty cells
pub cells-empty : (n i : ℕ) → slice_index (replicate n 0) i ≡ 0
cells-empty zero i = refl
cells-empty (suc n) zero = refl
cells-empty (suc n) (suc i) = cells-empty n i

pub is-area : (layout : Layout) (shapes : List Shape) → IsLayout layout → IsArea (area_by layout shapes) 1
is-area layout shapes h =
    let a = h.nursery_most in let b = h.blocks_most in let c = h.pages in
    record {
      above = omega arith;
      nursery = omega arith;
      heap = omega arith;
      sections = omega arith;
      small = omega arith;
      some = omega arith;
      most = omega arith;
    }

module _ (s : Contents) (slots wholes : List ℕ) (items : List Gray) (can : CanCopy s slots wholes) (are : AreItems slots wholes items) where
  abbrev t : Start
  t = start_of s slots wholes items can.zone

  abbrev dealt_to : Worker → List ℕ
  dealt_to a = slots_of (area_of s) (word s) (λ x. x) a.list

  pub first-slots : slots_of (area_of s) (word s) (λ x. x) (map item_of items) ≡ items_of s slots wholes
  first-slots = ap (slots_of (area_of s) (word s) (λ x. x)) are ∙ items-slots (area_of s) (word s) slots wholes

  -- something of the first worker, and of the others
  each : (P : ℕ → Worker → Type 0) → P 0 (starting (map item_of items)) → ((k : ℕ) → k ≢ 0 → P k resting) → (k : ℕ) → P k (t.workers k)
  each P first rest = put-all P (λ _. resting) 0 (starting (map item_of items)) first rest

  none-in : (z : ℕ) → In z [] → ⊥
  none-in z h = (let g = h in cc)

  only-first : (k z : ℕ) → In z (dealt_to (t.workers k)) → k ≡ 0
  only-first = each (λ k a. (z : ℕ) → In z (dealt_to a) → k ≡ 0) (λ z h. refl) (λ k n z h. absurd (none-in z h))

  are-dealt : AreDealt t
  are-dealt = record {
    given = λ z h. (
      0,
      subst (λ (a : Worker). In z (dealt_to a)) (sym (put-same (λ _. resting) 0 (starting (map item_of items))))
          (subst (λ (l : List ℕ). In z l) (sym first-slots) h),
    );
    only = each (λ k a. (z : ℕ) → In z (dealt_to a) → In z (items_of s slots wholes)) (λ z h. subst (λ (l : List ℕ). In z l) first-slots h)
        (λ k n z h. absurd (none-in z h));
    wholes = each (λ k a. (x : ℕ) → HasWhole x a.list → In x wholes)
        (λ x h. items-whole slots wholes x (subst (λ (l : List Item). HasWhole x l) are h)) (λ k n x h. absurd h);
    once = each (λ k a. AreDistinct (dealt_to a)) (subst AreDistinct (sym first-slots) can.once) (λ k n. tt);
    apart = λ j k z h g. only-first j z h ∙ sym (only-first k z g);
    few = each (λ k a. length a.list ≤ length items) (simp length-map (omega arith)) (λ k n. omega arith);
    hands = each (λ k a. a.hand ≡ []) refl (λ k n. refl);
    spares = each (λ k a. (z : ℕ) → a.spare z ≡ 0) (λ z. refl) (λ k n z. refl);
    passed = each (λ k a. (z : ℕ) → a.passed z ≡ 0) (λ z. refl) (λ k n z. refl);
    mids = each (λ k a. ((k < 1) × (a.mid ≡ Idle)) ⊎ ((a.mid ≡ Over) × (a.list ≡ []))) (inl (omega arith, refl)) (λ k n. inr (refl, refl));
    cells = cells-empty 64;
  }

  pub opens : IsRoundOpening t
  opens = record { limits = is-area s.layout s.shapes can.contents.layout; opening = can.opening; zoned = can.zoned; dealt = are-dealt }

-- the first worker's items
pub alone-list : (items : List Gray) → (alone (starting (map item_of items)) 0).list ≡ map item_of items
alone-list items = ap (λ (a : Worker). a.list) (put-same (λ _. resting) 0 (starting (map item_of items)))
