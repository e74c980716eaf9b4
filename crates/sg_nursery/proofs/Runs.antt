-- Dead objects whose words become zero later, at once with those of their neighbours.
use Rattle.std.proofs.Common.{◌≡◌, ℕ, ◌+◌, ◌<◌, ◌≤◌, ◌⊎◌, nat_le, nat_lt, if◌then◌else◌, inl, inr, List, [], ◌∷◌, slice_index_or, zero, suc, arith, sym, subst, ap, ◌∙◌, refl}
use Rattle.std.specs.List.{Contains}
use Rattle.std.proofs.lemmas.Bool.{le-leb, lt-leb, lt-ltb, le-ltb, and_left, and_right, and_from, cases_lt}
use Rattle.sg_words.specs.Tags.{plain_word}
use Rattle.sg_space.specs.declared.objects.Object.{Object}
use Rattle.sg_space.specs.Changes.{Stores}
use Rattle.sg_nursery.specs.Pieces.{first_word, word_behind}
use Rattle.sg_nursery.specs.Parts.{IsStaying, AreCleaned, blank}

pub blank_low : (from to : ℕ) (w : ℕ → ℕ) (y : ℕ) → y < from → blank from to w y ≡ w y
blank_low from to w y l = ap (λ b. if b then 0 else w y) (and_left (nat_le from y) (nat_lt y to) (lt-leb from y l))

pub blank_high : (from to : ℕ) (w : ℕ → ℕ) (y : ℕ) → to ≤ y → blank from to w y ≡ w y
blank_high from to w y l = ap (λ b. if b then 0 else w y) (and_right (nat_le from y) (nat_lt y to) (le-ltb y to l))

pub blank_in : (from to : ℕ) (w : ℕ → ℕ) (y : ℕ) → from ≤ y → y < to → blank from to w y ≡ 0
blank_in from to w y l m = ap (λ b. if b then 0 else w y) (and_from (nat_le from y) (nat_lt y to) (le-leb from y l) (lt-ltb y to m))

-- an empty run changes nothing
pub blank_none : (at : ℕ) (w : ℕ → ℕ) (y : ℕ) → blank at at w y ≡ w y
blank_none at w y = elim (cases_lt y at) [ inl l ↦ blank_low at at w y l | inr l ↦ blank_high at at w y l ]

-- what a store to these words leaves
pub blank_by : (from to : ℕ) (w v : ℕ → ℕ) → ((y : ℕ) → from ≤ y → y < to → v y ≡ 0) → ((y : ℕ) → (from ≤ y → y < to → ⊥) → v y ≡ w y) → (y : ℕ) → v y ≡ blank from to w y
blank_by from to w v inside others y = elim (cases_lt y from) [
  | inl l ↦ others y (λ a b. omega arith) ∙ sym (blank_low from to w y l)
  | inr a ↦ elim (cases_lt y to) [
    | inl b ↦ inside y a b ∙ sym (blank_in from to w y a b)
    | inr b ↦ others y (λ c d. omega arith) ∙ sym (blank_high from to w y b)
  ]
]

pub cleaned_same : (told : List Object) (old mid new : ℕ → ℕ) → ((y : ℕ) → new y ≡ mid y) → AreCleaned told old mid → AreCleaned told old new
cleaned_same told old mid new e f = record {
  untagged = λ o i s. ap (λ z. z + 2) (e (first_word o)) ∙ f.untagged o i s;
  kept = λ o y i s a b. e y ∙ f.kept o y i s a b;
  zero = λ o y i s a b. e y ∙ f.zero o y i s a b;
  others = λ y n. e y ∙ f.others y n;
}

-- one object
module _ (o : Object) (some : 0 < o.words) where
  in_one : Contains (o ∷ []) o
  in_one = (0, omega arith, refl)

  only : (q : Object) → Contains (o ∷ []) q → o ≡ q
  only q i = let l = i.1 in sym (at q i.0 l) ∙ i.2
    where
      at : (d : Object) (k : ℕ) → k < 1 → slice_index_or (o ∷ []) k d ≡ o
      at d zero l = refl
      at d (suc k) l = absurd (omega arith)

  module _ (old new : ℕ → ℕ)
      (untagged : IsStaying old o → new (first_word o) + 2 ≡ old (first_word o))
      (kept : (y : ℕ) → IsStaying old o → first_word o < y → y < word_behind o → new y ≡ old y)
      (zeroed : (y : ℕ) → (IsStaying old o → ⊥) → first_word o ≤ y → y < word_behind o → new y ≡ 0)
      (others : (y : ℕ) → (y < first_word o) ⊎ (word_behind o ≤ y) → new y ≡ old y) where
    cleaned_one : AreCleaned (o ∷ []) old new
    cleaned_one = record {
      untagged = λ q i. subst (λ (z : Object). IsStaying old z → new (first_word z) + 2 ≡ old (first_word z)) (only q i) untagged;
      kept = λ q y i. subst (λ (z : Object). IsStaying old z → first_word z < y → y < word_behind z → new y ≡ old y) (only q i) (kept y);
      zero = λ q y i. subst (λ (z : Object). (IsStaying old z → ⊥) → first_word z ≤ y → y < word_behind z → new y ≡ 0) (only q i) (zeroed y);
      others = λ y n. elim (cases_lt y (first_word o)) [
        | inl l ↦ others y (inl l)
        | inr l ↦ elim (cases_lt y (word_behind o)) [
          | inl m ↦ absurd (n (o, in_one, l, m))
          | inr m ↦ others y (inr m)
        ]
      ];
    }

  -- a run ends below this object
  module _ (from to : ℕ) (w : ℕ → ℕ) (below : to ≤ first_word o) where
    here : blank from to w (first_word o) ≡ w (first_word o)
    here = blank_high from to w (first_word o) below

    -- it stays, and the run becomes zero
    pub run_ends : (v new : ℕ → ℕ) → ((y : ℕ) → v y ≡ blank from to w y) → IsStaying w o → Stores v (first_word o) (plain_word o.class) new → AreCleaned (o ∷ []) (blank from to w) (blank to to new)
    run_ends v new cleared stays stored = cleaned_one (blank from to w) (blank to to new)
        (λ e. ap (λ z. z + 2) (blank_none to new (first_word o) ∙ stored.0) ∙ sym e)
        (λ y e a b. same y (λ z. omega (arith, z)))
        (λ y n a b. absurd (n (here ∙ stays)))
        (λ y a. same y (λ z. elim a [ inl l ↦ omega (arith, z, l) | inr l ↦ omega (arith, z, l, some) ]))
      where
        same : (y : ℕ) → (y ≡ first_word o → ⊥) → blank to to new y ≡ blank from to w y
        same y n = blank_none to new y ∙ stored.1 y n ∙ cleared y

    -- it is dead, and the run goes on through it
    pub run_grows : (first_word o ≡ to) → from ≤ to → (IsStaying w o → ⊥) → AreCleaned (o ∷ []) (blank from to w) (blank from (word_behind o) w)
    run_grows touches order goes = cleaned_one (blank from to w) (blank from (word_behind o) w)
        (λ e. absurd (goes (sym here ∙ e)))
        (λ y e a b. absurd (goes (sym here ∙ e)))
        (λ y n a b. blank_in from (word_behind o) w y (omega arith) b)
        (λ y a. elim a [
          | inl l ↦ elim (cases_lt y from) [
            | inl m ↦ blank_low from (word_behind o) w y m ∙ sym (blank_low from to w y m)
            | inr m ↦ blank_in from (word_behind o) w y m (omega arith) ∙ sym (blank_in from to w y m (omega arith))
          ]
          | inr l ↦ blank_high from (word_behind o) w y l ∙ sym (blank_high from to w y (omega arith))
        ])

    -- it is dead, and a new run begins with it
    pub run_restarts : (v : ℕ → ℕ) → ((y : ℕ) → v y ≡ blank from to w y) → (IsStaying w o → ⊥) → AreCleaned (o ∷ []) (blank from to w) (blank (first_word o) (word_behind o) v)
    run_restarts v cleared goes = cleaned_one (blank from to w) (blank (first_word o) (word_behind o) v)
        (λ e. absurd (goes (sym here ∙ e)))
        (λ y e a b. absurd (goes (sym here ∙ e)))
        (λ y n a b. blank_in (first_word o) (word_behind o) v y a b)
        (λ y a. elim a [
          | inl l ↦ blank_low (first_word o) (word_behind o) v y l ∙ cleared y
          | inr l ↦ blank_high (first_word o) (word_behind o) v y l ∙ cleared y
        ])
