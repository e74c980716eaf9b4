-- A function changed on a range, or on several.
use Rattle.std.proofs.Common.{◌≡◌, ℕ, zero, suc, ◌≤◌, ◌<◌, ◌⊎◌, sym, refl, ap, ◌∙◌, inl, inr, arith, le_refl}
use Rattle.std.proofs.lemmas.Bool.{cases_eq, cases_lt}
use Rattle.sg_words.proofs.Puts.{within_range, range-in, range-below, range-above}

-- x is outside
pub range-out : {A : Type 0} (f : ℕ → A) (lo hi : ℕ) (o : A) (x : ℕ) → (lo ≤ x → x < hi → ⊥) → within_range f lo hi o x ≡ f x
range-out f lo hi o x n = elim (cases_lt x lo) [
  | inl p ↦ range-below f lo hi o x p
  | inr p ↦ elim (cases_lt x hi) [
    | inl q ↦ absurd (n p q)
    | inr q ↦ range-above f lo hi o x q
  ]
]

-- the ranges of the first k numbers, each with its own value
pub ranged : {A : Type 0} → (ℕ → A) → (ℕ → ℕ) → (ℕ → ℕ) → (ℕ → A) → ℕ → ℕ → A
ranged f lo hi o zero = f
ranged f lo hi o (suc k) = within_range (ranged f lo hi o k) (lo k) (hi k) (o k)

pub ranged-out : {A : Type 0} (f : ℕ → A) (lo hi : ℕ → ℕ) (o : ℕ → A) (k x : ℕ) → ((j : ℕ) → j < k → lo j ≤ x → x < hi j → ⊥) → ranged f lo hi o k x ≡ f x
unfolding ranged
ranged-out f lo hi o zero x n = refl
ranged-out f lo hi o (suc k) x n = range-out (ranged f lo hi o k) (lo k) (hi k) (o k) x (n k (le_refl _)) ∙ ranged-out f lo hi o k x
    (λ j l. n j (let m = l in omega arith))

pub ranged-in : {A : Type 0} (f : ℕ → A) (lo hi : ℕ → ℕ) (o : ℕ → A) (k j x : ℕ) → j < k → ((i : ℕ) → j < i → i < k → lo i ≤ x → x < hi i → ⊥) → lo j ≤ x → x <
    hi j → ranged f lo hi o k x ≡ o j
unfolding ranged
ranged-in f lo hi o zero j x l n p q = absurd (omega arith)
ranged-in f lo hi o (suc k) j x l n p q = elim (cases_eq j k) [
  | inl e ↦ (let u = ap lo e in let v = ap hi e in range-in (ranged f lo hi o k) (lo k) (hi k) (o k) x (omega arith) (omega arith)) ∙ ap o (sym e)
  | inr d ↦ range-out (ranged f lo hi o k) (lo k) (hi k) (o k) x (n k (omega arith) (le_refl _)) ∙ ranged-in f lo hi o k j x (omega arith)
      (λ i a c. n i a (let z = c in omega arith)) p q
]

-- x lies in one of the first k ranges, or in none of them
abbrev pub RangedCases : (lo hi : ℕ → ℕ) (k x : ℕ) → Type 0
RangedCases lo hi k x = ((j : ℕ) × (j < k) × (lo j ≤ x) × (x < hi j)) ⊎ ((j : ℕ) → j < k → lo j ≤ x → x < hi j → ⊥)

one-more : (lo hi : ℕ → ℕ) (k x : ℕ) → RangedCases lo hi k x → (lo k ≤ x → x < hi k → ⊥) → RangedCases lo hi (suc k) x
one-more lo hi k x (inl h) n = inl (h.0, let l = h.1 in omega arith, h.2, h.3)
one-more lo hi k x (inr out) n = inr (λ j l p q. elim (cases_eq j k) [
  | inl e ↦ (let u = ap lo e in let v = ap hi e in n (omega arith) (omega arith))
  | inr d ↦ out j (let z = l in omega arith) p q
])

pub ranged-cases : (lo hi : ℕ → ℕ) (k x : ℕ) → RangedCases lo hi k x
ranged-cases lo hi zero x = inr (λ j l p q. absurd (let z = l in omega arith))
ranged-cases lo hi (suc k) x = elim (cases_lt x (lo k)) [
  | inl under ↦ one-more lo hi k x (ranged-cases lo hi k x) (λ p q. (let z = p in omega arith))
  | inr over ↦ elim (cases_lt x (hi k)) [
    | inl inside ↦ inl (k, le_refl _, over, inside)
    | inr past ↦ one-more lo hi k x (ranged-cases lo hi k x) (λ p q. (let z = q in omega arith))
  ]
]
