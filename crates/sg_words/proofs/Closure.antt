-- As many rounds as there are objects reach all that is ever reached.
use Rattle.std.proofs.Common.{◌≡◌, ℕ, zero, suc, ◌+◌, ◌-◌, ◌≤◌, ◌⊎◌, inl, inr, List, [], ◌∷◌, length, sym, subst, arith}
use Rattle.std.proofs.lemmas.Bool.{cases_eq}
use Rattle.sg_words.specs.Reach.{Rounds, Reached, Root, Next, IsFreshIn, AreDistinct, AreAmong}
use Rattle.sg_words.proofs.Distinct.{few}

module _ (target : ℕ → ℕ → Type 0) (root : ℕ → Type 0) where
  -- each round's members were reached
  pub from_rounds : (k n : ℕ) → Rounds target root k n → Reached target root n
  from_rounds zero n h = Root n h
  from_rounds (suc k) n (inl h) = from_rounds k n h
  from_rounds (suc k) n (inr h) = Next h.0 n (from_rounds k h.0 h.1) h.2

  -- what is reached lies in every set that has the roots and its own targets
  pub within_closed : (s : ℕ → Type 0) → ((n : ℕ) → root n → s n) → ((m n : ℕ) → s m → target m n → s n) → (n : ℕ) → Reached target root n → s n
  within_closed s roots closed _ (Root n h) = roots n h
  within_closed s roots closed _ (Next m n h t) = closed m n (within_closed s roots closed m h) t

  -- a way from a root to n, last step first
  abbrev Way : ℕ → List ℕ → Type 0
  Way n [] = root n
  Way n (m ∷ l) = target m n × Way m l

  -- n isn't on the way to m, or the way passes n
  passes : (n m : ℕ) (l : List ℕ) → Way m l → AreDistinct (m ∷ l) → IsFreshIn n (m ∷ l) ⊎ ((p : List ℕ) × Way n p × AreDistinct (n ∷ p))
  passes n m [] w d = elim (cases_eq n m) [
    | inl e ↦ inr ([], subst (λ x. root x) (sym e) w, (tt, tt))
    | inr o ↦ inl (o, tt)
  ]
  passes n m (j ∷ l) w d = elim (cases_eq n m) [
    | inl e ↦ inr (j ∷ l, subst (λ x. Way x (j ∷ l)) (sym e) w, subst (λ x. AreDistinct (x ∷ j ∷ l)) (sym e) d)
    | inr o ↦ elim (passes n j l w.1 d.1) [
      | inl f ↦ inl (o, f)
      | inr p ↦ inr p
    ]
  ]

  short_way : (n : ℕ) → Reached target root n → (l : List ℕ) × Way n l × AreDistinct (n ∷ l)
  short_way _ (Root n h) = ([], h, (tt, tt))
  short_way _ (Next m n h t) =
      let s = short_way m h in
      elim (passes n m s.0 s.1 s.2) [
        | inl f ↦ (m ∷ s.0, (t, s.1), (f, s.2))
        | inr p ↦ p
      ]

  module _ (count : ℕ) (bound : (m : ℕ) → Reached target root m → (1 ≤ m) × (m ≤ count)) where
    reached : (n : ℕ) (l : List ℕ) → Way n l → Reached target root n
    reached n [] w = Root n w
    reached n (m ∷ l) w = Next m n (reached m l w.1) w.0

    among : (n : ℕ) (l : List ℕ) → Way n l → AreAmong count (n ∷ l)
    among n [] w = let b = bound n (reached n [] w) in (b.0, b.1, tt)
    among n (m ∷ l) w = let b = bound n (reached n (m ∷ l) w) in (b.0, b.1, among m l w.1)

    by_length : (n : ℕ) (l : List ℕ) → Way n l → Rounds target root (length l) n
    by_length n [] w = w
    by_length n (m ∷ l) w = inr (m, by_length m l w.1, w.0)

    more : (k j n : ℕ) → Rounds target root k n → Rounds target root (j + k) n
    more k zero n h = subst (λ i. Rounds target root i n) (let e : k ≡ 0 + k = omega arith in e) h
    more k (suc j) n h = subst (λ i. Rounds target root i n) (let e : suc (j + k) ≡ suc j + k = omega arith in e) (inl (more k j n h))

    at_most : (k c n : ℕ) → k ≤ c → Rounds target root k n → Rounds target root c n
    at_most k c n l h = subst (λ i. Rounds target root i n) (let e : (c - k) + k ≡ c = omega arith in e) (more k (c - k) n h)

    pub to_rounds : (n : ℕ) → Reached target root n → Rounds target root count n
    to_rounds n h =
        let s = short_way n h in
        let f = few count (n ∷ s.0) s.2 (among n s.0 s.1) in
        at_most (length s.0) count n (omega arith) (by_length n s.0 s.1)
