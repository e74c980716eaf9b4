-- Where a value comes from that stands after a change of a range, and the parts of a list of events.
use Rattle.std.proofs.Common.{◌≡◌, ◌≢◌, ℕ, ◌≤◌, ◌<◌, ◌⊎◌, List, [], ◌∷◌, sym, refl, ap, ◌∙◌, inl, inr}
use Rattle.std.proofs.lemmas.Bool.{cond-true, cond-false, eq-eqb, ne_eqb, cases_lt}
use Rattle.sg_words.specs.declared.steps.Tick.{Tick}
use Rattle.sg_words.specs.Events.{Event, part, by_one, ticks}
use Rattle.sg_words.proofs.Puts.{within_range, range-in, range-below, range-above}

pub part-same : (e : Event) (es : List Event) → part e.by (e ∷ es) ≡ e.tick ∷ part e.by es
part-same e es = cond-true _ _ _ (eq-eqb e.by e.by refl)

pub part-other : (k : ℕ) (e : Event) (es : List Event) → k ≢ e.by → part k (e ∷ es) ≡ part k es
part-other k e es n = cond-false _ _ _ (ne_eqb k e.by n)

-- the parts of one actor's steps
pub part-own : (k : ℕ) (ts : List Tick) → part k (by_one k ts) ≡ ts
part-own k [] = refl
part-own k (t ∷ ts) = part-same (record { by = k; tick = t }) (by_one k ts) ∙ ap (λ s. t ∷ s) (part-own k ts)

pub part-none : (j k : ℕ) (ts : List Tick) → j ≢ k → part j (by_one k ts) ≡ []
part-none j k [] n = refl
part-none j k (t ∷ ts) n = part-other j (record { by = k; tick = t }) (by_one k ts) n ∙ part-none j k ts n

pub ticks-own : (k : ℕ) (ts : List Tick) → ticks (by_one k ts) ≡ ts
ticks-own k [] = refl
ticks-own k (t ∷ ts) = ap (λ s. t ∷ s) (ticks-own k ts)

-- a value after the change is the new one within the range, or was there before
pub range-was : {A : Type 0} (f : ℕ → A) (lo hi : ℕ) (o u : A) (x : ℕ) → within_range f lo hi o x ≡ u → ((u ≡ o) × (lo ≤ x) × (x < hi)) ⊎ (f x ≡ u)
range-was f lo hi o u x e = elim (cases_lt x lo) [
  | inl p ↦ inr (sym (range-below f lo hi o x p) ∙ e)
  | inr p ↦ elim (cases_lt x hi) [
    | inl q ↦ inl (sym e ∙ range-in f lo hi o x p q, p, q)
    | inr q ↦ inr (sym (range-above f lo hi o x q) ∙ e)
  ]
]
