-- Objects that stand apart: those of them that pass a test stand apart too, and there are no more than words.
use Rattle.std.proofs.Common.{◌≡◌, ℕ, zero, suc, ◌+◌, ◌≤◌, ◌<◌, Bool, true, not, List, [], ◌∷◌, length, filter, get_or, AllPairs, refl, sym, ap, ◌∙◌, subst, inl, inr, arith}
use Rattle.std.proofs.lemmas.Bool.{cases_Bool, cond-true, cond-false}
use Rattle.std.proofs.lemmas.List.Elements.{All-contains, All-filter, All-contains_itself, filter_passes}
use Rattle.std.proofs.lemmas.List.Filters.{length-filter_both}
use Rattle.std.proofs.lemmas.List.Kept.{AllPairs-filter}
use Rattle.std.specs.List.{Contains}
use Rattle.sg_words.specs.Sections.{nursery_base, old_base, IsLayout}
use Rattle.sg_words.specs.declared.layout.Layout.{Layout}
use Rattle.sg_space.specs.declared.objects.Object.{Object}
use Rattle.sg_nursery.specs.Pieces.{AreStanding, first_word, word_behind}

later : (o q : Object) (os : List Object) → Contains os q → Contains (o ∷ os) q
later o q os h = (suc h.0, let l = h.1 in omega arith, h.2)

pub passed : (f : Object → Bool) (os : List Object) (o : Object) → Contains (filter f os) o → Contains os o × (f o ≡ true)
passed f os o h = (All-contains (Contains os) (filter f os) o (All-filter f (Contains os) os (All-contains_itself os)) h, All-contains (λ q. f q ≡ true) (filter f os) o (filter_passes f os) h)

pub passes : (f : Object → Bool) (os : List Object) (o : Object) → Contains os o → f o ≡ true → Contains (filter f os) o
passes f [] o (k, l, e) t = absurd (omega arith)
passes f (q ∷ os) o (zero, l, e) t =
    let here : f q ≡ true = ap f e ∙ t in
    subst (λ (z : List Object). Contains z o) (sym (cond-true (f q) (q ∷ filter f os) (filter f os) here)) (zero, omega arith, e)
passes f (q ∷ os) o (suc k, l, e) t =
    let more = passes f os o (k, (let u = l in omega arith), e) t in
    elim (cases_Bool (f q)) [
      | inl y ↦ subst (λ (z : List Object). Contains z o) (sym (cond-true (f q) (q ∷ filter f os) (filter f os) y)) (later q o (filter f os) more)
      | inr y ↦ subst (λ (z : List Object). Contains z o) (sym (cond-false (f q) (q ∷ filter f os) (filter f os) y)) more
    ]

pub standing_passed : (layout : Layout) (f : Object → Bool) (os : List Object) → AreStanding layout os → AreStanding layout (filter f os)
standing_passed layout f os h = record {
  each = λ o i. h.each o (passed f os o i).0;
  apart = AllPairs-filter (λ (j k : Object). word_behind j ≤ first_word k) f os h.apart;
}

pub no_more : (f : Object → Bool) (os : List Object) → length (filter f os) ≤ length os
no_more f os = let e = length-filter_both f (λ o. not (f o)) (λ o. refl) os in omega arith

spread : (os : List Object) (low high : ℕ) → low ≤ high → ((o : Object) → Contains os o → (0 < o.words) × (low ≤ first_word o) × (word_behind o ≤ high)) →
    AllPairs (λ (j k : Object). word_behind j ≤ first_word k) os → low + length os ≤ high
spread [] low high order each apart = omega arith
spread (o ∷ os) low high order each apart =
    let here = each o (zero, omega arith, refl) in
    let more = spread os (word_behind o) high here.2
    (λ q i. let e = each q (later o q os i) in (e.0, let up = apart 0 (suc i.0) q (omega arith) (let l = i.1 in omega arith) in let at : first_word (get_or os i.0 q) ≡ first_word q = ap first_word i.2 in omega arith, e.2))
    (λ j k d l u. apart (suc j) (suc k) d (omega arith) (omega arith)) in
    let some = here.0 in
    let from = here.1 in
    omega arith

pub few : (layout : Layout) (os : List Object) → IsLayout layout → AreStanding layout os → length os ≤ 65536
few layout os is h =
    let most = is.nursery_most in
    let fits = spread os nursery_base (old_base layout) (omega arith) (λ o i. h.each o i) h.apart in
    omega arith
