-- What `put` gives, and what a change of a range gives.
use Rattle.std.proofs.Common.{◌≡◌, ◌≢◌, ℕ, ◌≤◌, ◌<◌, leb, ltb, cond, sym, refl, ap, ◌∙◌, subst, inl, inr}
use Rattle.std.proofs.lemmas.Bool.{cond-true, cond-false, eq-eqb, ne_eqb, cases_eq, cases_lt, cases_Bool, le-leb, lt-ltb, lt-leb, le-ltb}
use Rattle.sg_words.specs.Words.{put}

pub put-at : {A : Type 0} (f : ℕ → A) (k : ℕ) (v : A) (j : ℕ) → j ≡ k → put f k v j ≡ v
unfolding put
put-at f k v j e = cond-true _ v (f j) (eq-eqb j k e)

pub put-same : {A : Type 0} (f : ℕ → A) (k : ℕ) (v : A) → put f k v k ≡ v
put-same f k v = put-at f k v k refl

pub put-other : {A : Type 0} (f : ℕ → A) (k : ℕ) (v : A) (j : ℕ) → j ≢ k → put f k v j ≡ f j
unfolding put
put-other f k v j n = cond-false _ v (f j) (ne_eqb j k n)

-- what holds at k of v, and elsewhere of f, holds of put
pub put-all : {A : Type 0} (P : ℕ → A → Type 0) (f : ℕ → A) (k : ℕ) (v : A) → P k v → ((j : ℕ) → j ≢ k → P j (f j)) → (j : ℕ) → P j (put f k v j)
put-all P f k v here there j = elim (cases_eq j k) [
  | inl e ↦ subst (λ u. P j u) (sym (put-at f k v j e)) (subst (λ i. P i v) (sym e) here)
  | inr n ↦ subst (λ u. P j u) (sym (put-other f k v j n)) (there j n)
]

-- two functions that agree through m agree where both are changed
pub put-along : {A B : Type 0} (m : A → B) (f : ℕ → B) (g : ℕ → A) (k : ℕ) (x : B) (n : A) → ((r : ℕ) → f r ≡ m (g r)) → x ≡ m n → (r : ℕ) → put f k x r ≡ m (put g k n r)
put-along m f g k x n e q r = elim (cases_eq r k) [
  | inl p ↦ put-at f k x r p ∙ q ∙ sym (ap m (put-at g k n r p))
  | inr p ↦ put-other f k x r p ∙ e r ∙ sym (ap m (put-other g k n r p))
]

-- o from lo to before hi, and f elsewhere
pub within_range : {A : Type 0} → (ℕ → A) → ℕ → ℕ → A → ℕ → A
within_range f lo hi o x = cond (leb lo x) (cond (ltb x hi) o (f x)) (f x)

pub range-in : {A : Type 0} (f : ℕ → A) (lo hi : ℕ) (o : A) (x : ℕ) → lo ≤ x → x < hi → within_range f lo hi o x ≡ o
unfolding within_range
range-in f lo hi o x p q = cond-true _ _ _ (le-leb lo x p) ∙ cond-true _ _ _ (lt-ltb x hi q)

pub range-below : {A : Type 0} (f : ℕ → A) (lo hi : ℕ) (o : A) (x : ℕ) → x < lo → within_range f lo hi o x ≡ f x
unfolding within_range
range-below f lo hi o x p = cond-false _ _ _ (lt-leb lo x p)

pub range-above : {A : Type 0} (f : ℕ → A) (lo hi : ℕ) (o : A) (x : ℕ) → hi ≤ x → within_range f lo hi o x ≡ f x
unfolding within_range
range-above f lo hi o x p = elim (cases_Bool (leb lo x)) [
  | inl e ↦ cond-true _ _ _ e ∙ cond-false _ _ _ (le-ltb x hi p)
  | inr e ↦ cond-false _ _ _ e
]

-- where f has another value than each of the range, the change is none
pub range-keeps : {A : Type 0} (f : ℕ → A) (lo hi : ℕ) (o u : A) (x : ℕ) → f x ≡ u → (lo ≤ x → x < hi → u ≡ o) → within_range f lo hi o x ≡ u
range-keeps f lo hi o u x e h = elim (cases_lt x lo) [
  | inl p ↦ range-below f lo hi o x p ∙ e
  | inr p ↦ elim (cases_lt x hi) [
    | inl q ↦ range-in f lo hi o x p q ∙ sym (h p q)
    | inr q ↦ range-above f lo hi o x q ∙ e
  ]
]
