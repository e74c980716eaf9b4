-- Addresses come to the roots one after another.
use Rattle.std.proofs.Common.{◌≡◌, ℕ, ◌+◌, ◌<◌, ◌⊎◌, List, [], ◌∷◌, ◌++◌, sym, subst, inl, inr, arith}
use Rattle.std.proofs.lemmas.Bool.{cases_eq}
use Rattle.std.proofs.lemmas.List.Elements.{Contains-append_left, Contains-push, Contains-push_cases}
use Rattle.std.specs.List.{Contains}
use Rattle.sg_major.specs.Parts.{AddsThose}

pub adds_none : (sort : ℕ → Type 0) (old : List ℕ) → ((a : ℕ) → sort a → ⊥) → AddsThose sort old old
adds_none sort old none = record { each = λ a i. inl i; stays = λ a i. i; comes = λ a s. absurd (none a s) }

pub adds_one : (sort : ℕ → Type 0) (old new : List ℕ) (a : ℕ) → new ≡ old ++ a ∷ [] → sort a → ((d : ℕ) → sort d → d ≡ a) → AddsThose sort old new
adds_one sort old new a e s only = record {
  each = λ d i. elim (Contains-push_cases old a d (subst (λ (l : List ℕ). Contains l d) e i)) [
    | inl q ↦ inl q
    | inr q ↦ inr (subst sort q s)
  ];
  stays = λ d i. subst (λ (l : List ℕ). Contains l d) (sym e) (Contains-append_left old (a ∷ []) d i);
  comes = λ d i. subst (λ (l : List ℕ). Contains l d) (sym e) (subst (Contains (old ++ a ∷ [])) (sym (only d i)) (Contains-push old a));
}

-- first those of one sort come, and then those of another
pub adds_both : (first second both : ℕ → Type 0) (old mid new : List ℕ) → AddsThose first old mid → AddsThose second mid new →
    ((a : ℕ) → first a ⊎ second a → both a) → ((a : ℕ) → both a → first a ⊎ second a) → AddsThose both old new
adds_both first second both old mid new f g to from = record {
  each = λ a i. elim (g.each a i) [
    | inr s ↦ inr (to a (inr s))
    | inl j ↦ elim (f.each a j) [
      | inl k ↦ inl k
      | inr s ↦ inr (to a (inl s))
    ]
  ];
  stays = λ a i. g.stays a (f.stays a i);
  comes = λ a s. elim (from a s) [
    | inl k ↦ g.stays a (f.comes a k)
    | inr k ↦ g.comes a k
  ];
}

-- the sorts of the first n numbers
abbrev pub SortBelow : (ℕ → ℕ → Type 0) → ℕ → ℕ → Type 0
SortBelow sort n a = (k : ℕ) × (k < n) × sort k a

pub below_none : (sort : ℕ → ℕ → Type 0) (old : List ℕ) → AddsThose (SortBelow sort 0) old old
below_none sort old = adds_none (SortBelow sort 0) old (λ a s. let l = s.1 in absurd (omega arith))

pub below_more : (sort : ℕ → ℕ → Type 0) (n : ℕ) (old mid new : List ℕ) → AddsThose (SortBelow sort n) old mid → AddsThose (sort n) mid new → AddsThose (SortBelow sort (n + 1)) old new
below_more sort n old mid new f g = adds_both (SortBelow sort n) (sort n) (SortBelow sort (n + 1)) old mid new f g
    (λ a s. elim s [
      | inl q ↦ (q.0, let l = q.1 in omega arith, q.2)
      | inr q ↦ (n, omega arith, q)
    ])
    (λ a s. elim (cases_eq s.0 n) [
      | inl e ↦ inr (subst (λ k. sort k a) e s.2)
      | inr d ↦ inl (s.0, let l = s.1 in omega arith, s.2)
    ])

-- the same addresses by another name of their sort
pub adds_as : (sort other : ℕ → Type 0) (old new : List ℕ) → ((a : ℕ) → sort a → other a) → ((a : ℕ) → other a → sort a) → AddsThose sort old new → AddsThose other old new
adds_as sort other old new to from f = record {
  each = λ a i. elim (f.each a i) [ inl j ↦ inl j | inr s ↦ inr (to a s) ];
  stays = f.stays;
  comes = λ a s. f.comes a (from a s);
}
