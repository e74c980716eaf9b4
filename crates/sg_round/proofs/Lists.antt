-- Members of lists without doubles, and the slots of items.
use Rattle.std.proofs.Common.{◌≡◌, ℕ, zero, suc, ◌+◌, ◌≤◌, Bool, List, [], ◌∷◌, ◌++◌, length, sym, refl, ap, ◌∙◌, subst, inl, inr}
use Rattle.std.proofs.Common.{arith}
use Rattle.std.proofs.lemmas.Bool.{cond-true, cond-false, cases_Bool}
use Rattle.std.proofs.lemmas.List.{append-nil, append_assoc}
use Rattle.sg_words.specs.Lists.{In}
use Rattle.sg_words.specs.Objects.{strong_slots}
use Rattle.sg_words.specs.Reach.{IsFreshIn, AreDistinct}
use Rattle.sg_words.proofs.Members.{has-cases, in-here, in-there, in-left, in-right, in-cases, fresh-out}
use Rattle.sg_round.specs.Area.{Area, class_of}
use Rattle.sg_round.specs.Items.{Item, SlotOf, WholeOf, slots_by, slots_in, slots_of}

-- what isn't in a list and what is
pub fresh-not : (x : ℕ) (xs : List ℕ) → IsFreshIn x xs → In x xs → ⊥
fresh-not x [] f h = (let z = h in cc)
fresh-not x (y ∷ xs) f h = elim (has-cases x y xs h) [
  | inl e ↦ f.0 e
  | inr i ↦ fresh-not x xs f.1 i
]

pub distinct-append : (xs ys : List ℕ) → AreDistinct xs → AreDistinct ys → ((z : ℕ) → In z ys → In z xs → ⊥) → AreDistinct (xs ++ ys)
distinct-append [] ys d e n = e
distinct-append (x ∷ xs) ys d e n = (
  fresh-out x (xs ++ ys) (λ h. elim (in-cases x xs ys h) [
    | inl i ↦ fresh-not x xs d.0 i
    | inr i ↦ n x i (in-here x x xs refl)
  ]),
  distinct-append xs ys d.1 e (λ z h i. n z h (in-there z x xs i)),
)

-- two lists that are without doubles together
pub distinct-left : (xs ys : List ℕ) → AreDistinct (xs ++ ys) → AreDistinct xs
distinct-left [] ys d = tt
distinct-left (x ∷ xs) ys d = (fresh-out x xs (λ h. fresh-not x (xs ++ ys) d.0 (in-left x xs ys h)), distinct-left xs ys d.1)

pub distinct-apart : (xs ys : List ℕ) → AreDistinct (xs ++ ys) → (z : ℕ) → In z xs → In z ys → ⊥
distinct-apart [] ys d z h i = (let e = h in cc)
distinct-apart (x ∷ xs) ys d z h i = elim (has-cases z x xs h) [
  | inl e ↦ fresh-not x (xs ++ ys) d.0 (in-right x xs ys (subst (λ (u : ℕ). In u ys) e i))
  | inr k ↦ distinct-apart xs ys d.1 z k i
]

-- the strong slots of an object are different
slots-above : (strong : ℕ → Bool) (at i n s : ℕ) → In s (strong_slots strong at i n) → at + 2 + i ≤ s
slots-above strong at i zero s h = absurd (let z = h in cc)
slots-above strong at i (suc n) s h = elim (cases_Bool (strong i)) [
  | inl y ↦ elim (has-cases s (at + 2 + i) (strong_slots strong at (suc i) n) (subst (λ (l : List ℕ). In s l) (cond-true _ _ _ y) h)) [
    | inl e ↦ (omega arith)
    | inr k ↦ (let l = slots-above strong at (suc i) n s k in omega arith)
  ]
  | inr y ↦ (let l = slots-above strong at (suc i) n s
      (subst (λ (l : List ℕ). In s l) (cond-false _ ((at + 2 + i) ∷ strong_slots strong at (suc i) n) _ y) h) in omega arith)
]

strong-distinct : (strong : ℕ → Bool) (at i n : ℕ) → AreDistinct (strong_slots strong at i n)
strong-distinct strong at i zero = tt
strong-distinct strong at i (suc n) = elim (cases_Bool (strong i)) [
  | inl y ↦ subst AreDistinct (sym (cond-true (strong i) ((at + 2 + i) ∷ strong_slots strong at (suc i) n) (strong_slots strong at (suc i) n) y)) (
    fresh-out (at + 2 + i) (strong_slots strong at (suc i) n) (λ h. (let l = slots-above strong at (suc i) n (at + 2 + i) h in absurd (omega arith))),
    strong-distinct strong at (suc i) n,
  )
  | inr y ↦ subst AreDistinct (sym (cond-false (strong i) ((at + 2 + i) ∷ strong_slots strong at (suc i) n) (strong_slots strong at (suc i) n) y))
      (strong-distinct strong at (suc i) n)
]

pub slots-distinct : (area : Area) (c at n : ℕ) → AreDistinct (slots_by area c at n)
slots-distinct area c at n = strong-distinct (area.strong c) at 0 n

module _ (area : Area) (w : ℕ → ℕ) where
  pub item-distinct : (source : ℕ → ℕ) (item : Item) → AreDistinct (slots_in area w source item)
  item-distinct source (SlotOf s) = (tt, tt)
  item-distinct source (WholeOf x) = slots-distinct area (class_of (w (source x))) x (w (source (x + 1)))

  pub slots_of-append : (source : ℕ → ℕ) (xs ys : List Item) → slots_of area w source (xs ++ ys) ≡ slots_of area w source xs ++ slots_of area w source ys
  slots_of-append source [] ys = refl
  slots_of-append source (x ∷ xs) ys =
      ap (λ (l : List ℕ). slots_in area w source x ++ l) (slots_of-append source xs ys)
      ∙ sym (append_assoc (slots_in area w source x) (slots_of area w source xs) (slots_of area w source ys))

  -- what a worker has to do with one more item at the end of its list
  pub todo-last : (source : ℕ → ℕ) (front hand : List ℕ) (items : List Item) (item : Item) →
      front ++ (hand ++ slots_of area w source (items ++ item ∷ [])) ≡ (front ++ (hand ++ slots_of area w source items)) ++ slots_in area w source item
  todo-last source front hand items item =
      let new = slots_in area w source item in
      let old = slots_of area w source items in
      let e : slots_of area w source (items ++ item ∷ []) ≡ old ++ new = slots_of-append source items (item ∷ [])
      ∙ ap (λ (l : List ℕ). old ++ l) (append-nil new) in
      ap (λ (l : List ℕ). front ++ (hand ++ l)) e ∙ ap (λ (l : List ℕ). front ++ l) (sym (append_assoc hand old new))
      ∙ sym (append_assoc front (hand ++ old) new)

-- the length of a list with one more
pub length-last : {A : Type 0} (xs : List A) (x : A) → length (xs ++ x ∷ []) ≡ suc (length xs)
length-last [] x = refl
length-last (y ∷ xs) x = ap suc (length-last xs x)
