-- Two lists of different numbers with the same members have one sum and one length.
use Rattle.std.proofs.Common.{◌≡◌, ◌≢◌, ℕ, ◌+◌, inl, inr, List, [], ◌∷◌, length, cond, eqb, sym, refl, ap, ◌∙◌, subst, arith}
use Rattle.std.proofs.lemmas.Bool.{cond-true, cond-false, eq-eqb, ne_eqb, cases_eq}
use Rattle.std.proofs.lemmas.List.Sums.{sum_by-cons}
use Rattle.std.specs.List.{sum_by}
use Rattle.sg_words.specs.Lists.{In}
use Rattle.sg_words.specs.Reach.{IsFreshIn, AreDistinct}
use Rattle.sg_words.proofs.Members.{has-cases, in-here, in-there}
use Rattle.sg_graph.specs.Major.{AreNames, HasCount}

-- without the first n
abbrev without : ℕ → List ℕ → List ℕ
without n [] = []
without n (x ∷ xs) = cond (eqb x n) xs (x ∷ without n xs)

without_here : (n x : ℕ) (xs : List ℕ) → x ≡ n → without n (x ∷ xs) ≡ xs
without_here n x xs e = cond-true _ xs (x ∷ without n xs) (eq-eqb x n e)

without_there : (n x : ℕ) (xs : List ℕ) → x ≢ n → without n (x ∷ xs) ≡ x ∷ without n xs
without_there n x xs d = cond-false _ xs (x ∷ without n xs) (ne_eqb x n d)

not_fresh : (a : ℕ) (xs : List ℕ) → IsFreshIn a xs → In a xs → ⊥
not_fresh a [] f i = let z = i in cc
not_fresh a (x ∷ xs) f i = elim (has-cases a x xs i) [
  | inl e ↦ f.0 e
  | inr j ↦ not_fresh a xs f.1 j
]

without_fresh : (y n : ℕ) (xs : List ℕ) → IsFreshIn y xs → IsFreshIn y (without n xs)
without_fresh y n [] f = tt
without_fresh y n (x ∷ xs) f = elim (cases_eq x n) [
  | inl e ↦ subst (λ (l : List ℕ). IsFreshIn y l) (sym (without_here n x xs e)) f.1
  | inr d ↦ subst (λ (l : List ℕ). IsFreshIn y l) (sym (without_there n x xs d)) (f.0, without_fresh y n xs f.1)
]

without_distinct : (n : ℕ) (xs : List ℕ) → AreDistinct xs → AreDistinct (without n xs)
without_distinct n [] d = tt
without_distinct n (x ∷ xs) d = elim (cases_eq x n) [
  | inl e ↦ subst (λ (l : List ℕ). AreDistinct l) (sym (without_here n x xs e)) d.1
  | inr o ↦ subst (λ (l : List ℕ). AreDistinct l) (sym (without_there n x xs o)) (without_fresh x n xs d.0, without_distinct n xs d.1)
]

-- who is left without n is who was there, but n
in_without : (a n : ℕ) (xs : List ℕ) → In a xs → a ≢ n → In a (without n xs)
in_without a n [] i other = i
in_without a n (x ∷ xs) i other = elim (has-cases a x xs i) [
  | inl e ↦ subst (λ (l : List ℕ). In a l) (sym (without_there n x xs (λ q. other (e ∙ q)))) (in-here a x (without n xs) e)
  | inr j ↦ elim (cases_eq x n) [
    | inl e ↦ subst (λ (l : List ℕ). In a l) (sym (without_here n x xs e)) j
    | inr o ↦ subst (λ (l : List ℕ). In a l) (sym (without_there n x xs o)) (in-there a x (without n xs) (in_without a n xs j other))
  ]
]

without_in : (a n : ℕ) (xs : List ℕ) → AreDistinct xs → In a (without n xs) → In a xs × (a ≢ n)
without_in a n [] d i = absurd (let z = i in cc)
without_in a n (x ∷ xs) d i = elim (cases_eq x n) [
  | inl e ↦
      let j = subst (λ (l : List ℕ). In a l) (without_here n x xs e) i in
      (in-there a x xs j, λ q. not_fresh x xs d.0 (subst (λ z. In z xs) (q ∙ sym e) j))
  | inr o ↦ elim (has-cases a x (without n xs) (subst (λ (l : List ℕ). In a l) (without_there n x xs o) i)) [
    | inl e ↦ (in-here a x xs e, λ q. o (sym e ∙ q))
    | inr j ↦ let r = without_in a n xs d.1 j in (in-there a x xs r.0, r.1)
  ]
]

module _ (f : ℕ → ℕ) where
  without_sum : (n : ℕ) (xs : List ℕ) → In n xs → sum_by f xs ≡ f n + sum_by f (without n xs)
  without_sum n [] i = absurd (let z = i in cc)
  without_sum n (x ∷ xs) i = elim (cases_eq x n) [
    | inl e ↦ sum_by-cons f x xs ∙ ap (λ z. f z + sum_by f xs) e ∙ ap (λ (l : List ℕ). f n + sum_by f l) (sym (without_here n x xs e))
    | inr o ↦ elim (has-cases n x xs i) [
      | inl e ↦ absurd (o (sym e))
      | inr j ↦
          let first = sum_by-cons f x xs in
          let rest = without_sum n xs j in
          let there = sum_by-cons f x (without n xs) in
          let whole : sum_by f (without n (x ∷ xs)) ≡ sum_by f (x ∷ without n xs) = ap (λ (l : List ℕ). sum_by f l) (without_there n x xs o) in
          omega arith
    ]
  ]

  pub one_sum : (xs ys : List ℕ) → AreDistinct xs → AreDistinct ys → ((n : ℕ) → In n xs → In n ys) → ((n : ℕ) → In n ys → In n xs) → sum_by f xs ≡ sum_by f ys
  one_sum [] [] d e to back = refl
  one_sum [] (y ∷ ys) d e to back = absurd (let z = back y (in-here y y ys refl) in cc)
  one_sum (x ∷ xs) ys d e to back =
      sum_by-cons f x xs
      ∙ ap (λ z. f x + z) (one_sum xs (without x ys) d.1 (without_distinct x ys e) there here)
      ∙ sym (without_sum x ys (to x (in-here x x xs refl)))
    where
      there : (n : ℕ) → In n xs → In n (without x ys)
      there n i = in_without n x ys (to n (in-there n x xs i)) (λ q. not_fresh x xs d.0 (subst (λ z. In z xs) q i))

      here : (n : ℕ) → In n (without x ys) → In n xs
      here n i = let r = without_in n x ys e i in elim (has-cases n x xs (back n r.0)) [
        | inl q ↦ absurd (r.1 q)
        | inr j ↦ j
      ]

by_ones : (xs : List ℕ) → length xs ≡ sum_by (λ _. 1) xs
by_ones [] = refl
by_ones (x ∷ xs) = let more = by_ones xs in let sum = sum_by-cons (λ _. 1) x xs in omega arith

-- the names of one sort have one sum, and are so many
module _ (sort : ℕ → Type 0) (xs ys : List ℕ) (x : AreNames sort xs) (y : AreNames sort ys) where
  pub one_total : (f : ℕ → ℕ) → sum_by f xs ≡ sum_by f ys
  one_total f = one_sum f xs ys x.once y.once (λ n i. (y.exact n).1 ((x.exact n).0 i)) (λ n i. (x.exact n).1 ((y.exact n).0 i))

  pub one_length : length xs ≡ length ys
  one_length = by_ones xs ∙ one_total (λ _. 1) ∙ sym (by_ones ys)

pub one_count : (sort : ℕ → Type 0) (m n : ℕ) → HasCount sort m → HasCount sort n → m ≡ n
one_count sort m n (xs, x, e) (ys, y, q) = sym e ∙ one_length sort xs ys x y ∙ q
