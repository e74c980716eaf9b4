-- A schedule gives the next turn to one actor.
use Rattle.std.proofs.Common.{◌≡◌, ℕ, ◌+◌, ◌%◌, ◌⊎◌, inl, inr, List, [], ◌∷◌, sym, refl, ap, ◌∙◌, subst, arith}
use Rattle.std.proofs.lemmas.Bool.{cases_lt}
use Rattle.sg_words.specs.Schedule.{Schedule, IsFirstGoing, Gives, Listed, Spent, Rotates}

module _ (actors : ℕ) (ended : ℕ → Type 0) where
  -- what a schedule gives, by its list
  abbrev GivesOf : List ℕ → ℕ → ℕ → Schedule → Type 0
  GivesOf [] next k t = IsFirstGoing next actors ended k × (t ≡ record { left = []; next = (k + 1) % actors })
  GivesOf (n ∷ rest) next k t =
      ((¬ ended (n % actors)) × (k ≡ n % actors) × (t ≡ record { left = rest; next = next })) ⊎ (ended (n % actors) × GivesOf rest next k t)

  by_list : (s : Schedule) (k : ℕ) (t : Schedule) → Gives actors ended s k t → GivesOf s.left s.next k t
  by_list _ _ _ (Listed n rest next goes) = inl (goes, refl, refl)
  by_list _ _ _ (Spent n rest next k t gone more) = inr (gone, by_list (record { left = rest; next = next }) k t more)
  by_list _ _ _ (Rotates next k first) = (first, refl)

  -- who has a turn hasn't ended
  pub going : (s : Schedule) (k : ℕ) (t : Schedule) → Gives actors ended s k t → ¬ ended k
  going _ _ _ (Listed n rest next goes) = goes
  going _ _ _ (Spent n rest next k t gone more) = going (record { left = rest; next = next }) k t more
  going _ _ _ (Rotates next k first) = first.going

  one_first : (first k j : ℕ) → IsFirstGoing first actors ended k → IsFirstGoing first actors ended j → k ≡ j
  one_first first k j x y = elim (cases_lt x.steps y.steps) [
    | inl l ↦ absurd (x.going (subst ended (sym x.is) (y.passed x.steps l)))
    | inr above ↦ elim (cases_lt y.steps x.steps) [
      | inl l ↦ absurd (y.going (subst ended (sym y.is) (x.passed y.steps l)))
      | inr below ↦ x.is ∙ ap (λ n. (first + n) % actors) (let e : x.steps ≡ y.steps = omega arith in e) ∙ sym y.is
    ]
  ]

  one_given : (left : List ℕ) (next k j : ℕ) (t u : Schedule) → GivesOf left next k t → GivesOf left next j u → (k ≡ j) × (t ≡ u)
  one_given [] next k j t u (x, e) (y, q) =
      let same = one_first next k j x y in (same, e ∙ ap (λ (n : ℕ). record { left = []; next = (n + 1) % actors }) same ∙ sym q)
  one_given (n ∷ rest) next k j t u (inl (go, e, q)) (inl (go', e', q')) = (e ∙ sym e', q ∙ sym q')
  one_given (n ∷ rest) next k j t u (inl (go, e, q)) (inr (gone, more)) = absurd (go gone)
  one_given (n ∷ rest) next k j t u (inr (gone, more)) (inl (go, e, q)) = absurd (go gone)
  one_given (n ∷ rest) next k j t u (inr (gone, more)) (inr (gone', more')) = one_given rest next k j t u more more'

  pub one_giving : (s : Schedule) (k j : ℕ) (t u : Schedule) → Gives actors ended s k t → Gives actors ended s j u → (k ≡ j) × (t ≡ u)
  one_giving s k j t u x y = one_given s.left s.next k j t u (by_list s k t x) (by_list s j u y)
