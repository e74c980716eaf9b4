-- One pass over the objects after a round: what stays is plain again, and all others' words are zero.
use Rattle.std.proofs.Common.{◌≡◌, ℕ, ◌+◌, ◌<◌, ◌≤◌, inl, inr, List, [], ◌∷◌, ◌++◌, length, get_or, slice_index_or, zero, suc, take, arith, sym, subst, ap, ◌∙◌, refl}
use Rattle.std.specs.List.{Contains}
use Rattle.std.proofs.lemmas.List.{take_more, take_all, get_or_default, get_or-take, length-take-le}
use Rattle.std.proofs.lemmas.List.Elements.{Contains-append_left, Contains-push, Contains-push_cases}
use Rattle.sg_words.specs.declared.layout.Layout.{Layout}
use Rattle.sg_space.specs.declared.objects.Object.{Object}
use Rattle.sg_nursery.specs.Pieces.{AreStanding, IsTaken, first_word, word_behind}
use Rattle.sg_nursery.specs.Parts.{IsStaying, AreCleaned}

pub cleaned_none : (w : ℕ → ℕ) → AreCleaned [] w w
cleaned_none w = record {
  untagged = λ o i. let l = i.1 in absurd (omega arith);
  kept = λ o y i. let l = i.1 in absurd (omega arith);
  zero = λ o y i. let l = i.1 in absurd (omega arith);
  others = λ y n. refl;
}

-- objects that all end at or below another one, and this one
module _ (xs : List Object) (o : Object) (some : 0 < o.words) (before : (q : Object) → Contains xs q → (word_behind q ≤ first_word o) × (0 < q.words)) (old mid new : ℕ → ℕ) (f : AreCleaned xs old mid) (g : AreCleaned (o ∷ []) mid new) where
  in_one : Contains (o ∷ []) o
  in_one = (0, omega arith, refl)

  taken_one : (y : ℕ) → IsTaken (o ∷ []) y → (first_word o ≤ y) × (y < word_behind o)
  taken_one y t =
      let l = t.1.1 in
      let q : t.0 ≡ o = sym t.1.2 ∙ at t.0 t.1.0 l in
      let from = t.2 in
      let to = t.3 in
      let first = ap first_word q in
      let behind = ap word_behind q in
      (omega arith, omega arith)
    where
      at : (d : Object) (k : ℕ) → k < 1 → slice_index_or (o ∷ []) k d ≡ o
      at d zero l = refl
      at d (suc k) l = absurd (omega arith)

  -- the words of this one are as they were
  fresh : (y : ℕ) → first_word o ≤ y → mid y ≡ old y
  fresh y from = f.others y (λ t. let end = (before t.0 t.1).0 in let to = t.3 in omega arith)

  -- the words of the others stay as they became
  done : (y : ℕ) → y < first_word o → new y ≡ mid y
  done y below = g.others y (λ t. let q = taken_one y t in let from = q.0 in omega arith)

  stays_here : IsStaying old o → IsStaying mid o
  stays_here e = fresh (first_word o) (omega arith) ∙ e

  stayed_here : IsStaying mid o → IsStaying old o
  stayed_here e = sym (fresh (first_word o) (omega arith)) ∙ e

  pub cleaned_more : AreCleaned (xs ++ o ∷ []) old new
  cleaned_more = record {
    untagged = λ q i e. elim (Contains-push_cases xs o q i) [
      | inl earlier ↦ let end = (before q earlier).0 in let some_q = (before q earlier).1 in ap (λ z. z + 2) (done (first_word q) (omega arith)) ∙ f.untagged q earlier e
      | inr same ↦ subst (λ (z : Object). new (first_word z) + 2 ≡ old (first_word z)) same
          (g.untagged o in_one (stays_here (subst (IsStaying old) (sym same) e)) ∙ fresh (first_word o) (omega arith))
    ];
    kept = λ q y i e from to. elim (Contains-push_cases xs o q i) [
      | inl earlier ↦ let end = (before q earlier).0 in done y (omega arith) ∙ f.kept q y earlier e from to
      | inr same ↦
          let first = ap first_word same in
          let behind = ap word_behind same in
          g.kept o y in_one (stays_here (subst (IsStaying old) (sym same) e)) (omega arith) (omega arith) ∙ fresh y (omega arith)
    ];
    zero = λ q y i n from to. elim (Contains-push_cases xs o q i) [
      | inl earlier ↦ let end = (before q earlier).0 in done y (omega arith) ∙ f.zero q y earlier n from to
      | inr same ↦
          let first = ap first_word same in
          let behind = ap word_behind same in
          g.zero o y in_one (λ e. n (subst (IsStaying old) same (stayed_here e))) (omega arith) (omega arith)
    ];
    others = λ y n.
        g.others y (λ t. let q = taken_one y t in n (o, Contains-push xs o, q.0, q.1))
        ∙ f.others y (λ t. n (t.0, Contains-append_left xs (o ∷ []) t.0 t.1, t.2, t.3));
  }

-- the step of the walk at the object with the number i
pub cleaned_next : (layout : Layout) (told : List Object) (i : ℕ) (o : Object) (old mid new : ℕ → ℕ) → AreStanding layout told → i < length told → o ≡ get_or told i o →
    AreCleaned (take i told) old mid → AreCleaned (o ∷ []) mid new → AreCleaned (take (i + 1) told) old new
cleaned_next layout told i o old mid new standing there is f g =
    let longer : take (i + 1) told ≡ take i told ++ o ∷ [] = take_more told i o there ∙ ap (λ (q : Object). take i told ++ q ∷ []) (sym is) in
    subst (λ (l : List Object). AreCleaned l old new) (sym longer)
    (cleaned_more (take i told) o (standing.each o (i, there, sym is)).0
    (λ q in_passed.
    let k = in_passed.0 in
    let within = length-take-le i told (omega arith) in
    let lower = in_passed.1 in
    let earlier : k < i = omega arith in
    let at_k : get_or told k q ≡ q = sym (get_or-take i told k q earlier) ∙ in_passed.2 in
    let apart = standing.apart k i q earlier there in
    let first = ap word_behind at_k in
    let second = ap first_word (get_or_default told i q o there ∙ sym is) in
    (omega arith, (standing.each q (k, omega arith, at_k)).0))
    old mid new f g)

pub cleaned_all : (told : List Object) (i : ℕ) (old new : ℕ → ℕ) → length told ≤ i → AreCleaned (take i told) old new → AreCleaned told old new
cleaned_all told i old new l f = subst (λ (os : List Object). AreCleaned os old new) (take_all i told l) f
