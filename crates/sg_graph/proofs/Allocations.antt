-- Counting what a mutator made.
use Rattle.std.proofs.Common.{◌≡◌, ◌≢◌, ℕ, zero, suc, ◌+◌, ◌<◌, ◌≤◌, eqb, inl, inr, sym, refl, ap, ◌∙◌, subst, arith, le_refl}
use Rattle.std.proofs.lemmas.Bool.{cases_eq, cases_lt, eq-eqb, ne_eqb, cond-true, cond-false}
use Rattle.sg_graph.specs.Graph.{Graph}
use Rattle.sg_graph.specs.Names.{made_up_to, allocation, NamesArePairs}

own : (maker : ℕ → ℕ) (k n : ℕ) → maker (suc n) ≡ k → made_up_to maker k (suc n) ≡ suc (made_up_to maker k n)
own maker k n e = ap (λ x. x + made_up_to maker k n) (cond-true (eqb (maker (suc n)) k) 1 0 (eq-eqb (maker (suc n)) k e)) ∙ (omega arith)

other : (maker : ℕ → ℕ) (k n : ℕ) → maker (suc n) ≢ k → made_up_to maker k (suc n) ≡ made_up_to maker k n
other maker k n e = ap (λ x. x + made_up_to maker k n) (cond-false (eqb (maker (suc n)) k) 1 0 (ne_eqb (maker (suc n)) k e)) ∙ (omega arith)

rises : (maker : ℕ → ℕ) (k m n : ℕ) → m ≤ n → made_up_to maker k m ≤ made_up_to maker k n
rises maker k m zero l = let e : m ≡ 0 = omega arith in subst (λ x. made_up_to maker k x ≤ 0) (sym e) (le_refl 0)
rises maker k m (suc n) l = elim (cases_eq m (suc n)) [
  | inl e ↦ subst (λ x. made_up_to maker k m ≤ made_up_to maker k x) e (le_refl _)
  | inr o ↦ let h = rises maker k m n (omega arith) in elim (cases_eq (maker (suc n)) k) [
    | inl e ↦ let q = own maker k n e in omega arith
    | inr d ↦ let q = other maker k n d in omega arith
  ]
]

-- an own object counts one more than what was made before it
counts : (maker : ℕ → ℕ) (m n : ℕ) → m < n → made_up_to maker (maker n) m < made_up_to maker (maker n) n
counts maker m zero l = absurd (omega arith)
counts maker m (suc n) l = let q = own maker (maker (suc n)) n refl in let h = rises maker (maker (suc n)) m n (omega arith) in omega arith

one : (g : Graph) (m n : ℕ) → g.maker m ≡ g.maker n → allocation g m ≡ allocation g n → m ≡ n
one g m n e q = elim (cases_lt m n) [
  | inl l ↦ let h = counts g.maker m n l in let u = ap (λ k. made_up_to g.maker k m) e in absurd (omega arith)
  | inr above ↦ elim (cases_lt n m) [
    | inl l ↦ let h = counts g.maker n m l in let u = ap (λ k. made_up_to g.maker k n) e in absurd (omega arith)
    | inr below ↦ omega arith
  ]
]

filled : (maker : ℕ → ℕ) (k n i : ℕ) → 1 ≤ i → i ≤ made_up_to maker k n → (m : ℕ) × (1 ≤ m) × (m ≤ n) × (maker m ≡ k) × (made_up_to maker k m ≡ i)
filled maker k zero i l h = absurd (omega arith)
filled maker k (suc n) i l h = elim (cases_eq (maker (suc n)) k) [
  | inl e ↦ let q = own maker k n e in elim (cases_eq i (suc (made_up_to maker k n))) [
    | inl s ↦ (suc n, omega arith, le_refl _, e, q ∙ sym s)
    | inr o ↦ let r = filled maker k n i l (omega arith) in let r2 = r.2 in (r.0, r.1, omega arith, r.3, r.4)
  ]
  | inr d ↦ let q = other maker k n d in let r = filled maker k n i l (omega arith) in let r2 = r.2 in (r.0, r.1, omega arith, r.3, r.4)
]

pub names_are_pairs : NamesArePairs
names_are_pairs = record {
  one = λ g m n p q e a. one g m n e a;
  counted = λ g n p. let h = counts g.maker 0 n (omega arith) in omega arith;
  filled = λ g n i p l h. let r = filled g.maker (g.maker n) n i l h in
      (r.0, r.1, r.2, r.3, ap (λ k. made_up_to g.maker k r.0) r.3 ∙ r.4);
}
