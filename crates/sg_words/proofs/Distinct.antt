-- A list of different numbers from 1 to n has at most n of them.
use Rattle.std.proofs.Common.{◌≢◌, ℕ, zero, suc, ◌≤◌, inl, inr, List, [], ◌∷◌, length, cond, eqb, sym, subst, arith, zero-le, le_refl}
use Rattle.std.proofs.lemmas.Bool.{cond-true, cond-false, eq-eqb, ne_eqb, cases_eq}
use Rattle.sg_words.specs.Reach.{IsFreshIn, AreDistinct, AreAmong}

-- without the first n
abbrev without : ℕ → List ℕ → List ℕ
without n [] = []
without n (x ∷ xs) = cond (eqb x n) xs (x ∷ without n xs)

without-length : (n : ℕ) (xs : List ℕ) → length xs ≤ suc (length (without n xs))
without-length n [] = zero-le
without-length n (x ∷ xs) = elim (cases_eq x n) [
  | inl e ↦ subst (λ (ys : List ℕ). suc (length xs) ≤ suc (length ys)) (sym (cond-true _ xs (x ∷ without n xs) (eq-eqb x n e))) (le_refl _)
  | inr d ↦ subst (λ (ys : List ℕ). suc (length xs) ≤ suc (length ys)) (sym (cond-false _ xs (x ∷ without n xs) (ne_eqb x n d))) (let h = without-length n xs in omega arith)
]

without-fresh : (y n : ℕ) (xs : List ℕ) → IsFreshIn y xs → IsFreshIn y (without n xs)
without-fresh y n [] f = tt
without-fresh y n (x ∷ xs) f = elim (cases_eq x n) [
  | inl e ↦ subst (λ (ys : List ℕ). IsFreshIn y ys) (sym (cond-true _ xs (x ∷ without n xs) (eq-eqb x n e))) f.1
  | inr d ↦ subst (λ (ys : List ℕ). IsFreshIn y ys) (sym (cond-false _ xs (x ∷ without n xs) (ne_eqb x n d))) (f.0, without-fresh y n xs f.1)
]

without-distinct : (n : ℕ) (xs : List ℕ) → AreDistinct xs → AreDistinct (without n xs)
without-distinct n [] d = tt
without-distinct n (x ∷ xs) d = elim (cases_eq x n) [
  | inl e ↦ subst AreDistinct (sym (cond-true _ xs (x ∷ without n xs) (eq-eqb x n e))) d.1
  | inr o ↦ subst AreDistinct (sym (cond-false _ xs (x ∷ without n xs) (ne_eqb x n o))) (without-fresh x n xs d.0, without-distinct n xs d.1)
]

fresh-among : (n : ℕ) (xs : List ℕ) → IsFreshIn (suc n) xs → AreAmong (suc n) xs → AreAmong n xs
fresh-among n [] f a = tt
fresh-among n (x ∷ xs) f a = (a.0, let d : x ≢ suc n = λ e. f.0 (sym e) in omega arith, fresh-among n xs f.1 a.2)

without-among : (n : ℕ) (xs : List ℕ) → AreDistinct xs → AreAmong (suc n) xs → AreAmong n (without (suc n) xs)
without-among n [] d a = tt
without-among n (x ∷ xs) d a = elim (cases_eq x (suc n)) [
  | inl e ↦ subst (AreAmong n) (sym (cond-true _ xs (x ∷ without (suc n) xs) (eq-eqb x (suc n) e))) (fresh-among n xs (subst (λ y. IsFreshIn y xs) e d.0) a.2)
  | inr o ↦ subst (AreAmong n) (sym (cond-false _ xs (x ∷ without (suc n) xs) (ne_eqb x (suc n) o))) (a.0, let l = a.1 in omega arith, without-among n xs d.1 a.2)
]

pub few : (n : ℕ) (xs : List ℕ) → AreDistinct xs → AreAmong n xs → length xs ≤ n
few zero [] d a = zero-le
few zero (x ∷ xs) d a = let l = a.0 in let m = a.1 in absurd (omega arith)
few (suc n) xs d a = let h = few n (without (suc n) xs) (without-distinct (suc n) xs d) (without-among n xs d a) in let l = without-length (suc n) xs in omega arith
