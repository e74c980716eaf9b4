-- The young objects after marking, one after another.
use Rattle.std.proofs.Common.{◌≡◌, ℕ, ◌+◌, ◌^◌, ◌<◌, ◌≤◌, inl, inr, List, [], ◌∷◌, ◌++◌, length, get_or, slice_index_or, zero, suc, take, arith, sym, subst, ap, ◌∙◌, refl}
use Rattle.std.specs.List.{Contains}
use Rattle.std.proofs.lemmas.List.{take_more, take_all, get_or_default, get_or-take, length-take-le}
use Rattle.std.proofs.lemmas.List.Elements.{Contains-append_left, Contains-push, Contains-push_cases}
use Rattle.sg_words.specs.declared.layout.Layout.{Layout}
use Rattle.sg_space.specs.declared.objects.Object.{Object}
use Rattle.sg_nursery.specs.Pieces.{AreStanding, IsTaken, first_word, word_behind}
use Rattle.sg_major.specs.Parts.{is_marked, AreSifted}

pub sifted_none : (w : ℕ → ℕ) → AreSifted [] w w
sifted_none w = record {
  unmarked = λ o i. let l = i.1 in absurd (omega arith);
  kept = λ o y i. let l = i.1 in absurd (omega arith);
  zero = λ o y i. let l = i.1 in absurd (omega arith);
  others = λ y n. refl;
}

-- objects that all end at or below another one, and this one
module _ (xs : List Object) (o : Object) (some : 0 < o.words) (before : (q : Object) → Contains xs q → (word_behind q ≤ first_word o) × (0 < q.words))
    (old mid new : ℕ → ℕ) (f : AreSifted xs old mid) (g : AreSifted (o ∷ []) mid new) where
  in_one : Contains (o ∷ []) o
  in_one = (0, omega arith, refl)

  taken_one : (y : ℕ) → IsTaken (o ∷ []) y → (first_word o ≤ y) × (y < word_behind o)
  taken_one y t =
      let l = t.1.1 in
      let q : t.0 ≡ o = sym t.1.2 ∙ at t.0 t.1.0 l in
      let from = t.2 in
      let to = t.3 in
      let first = ap first_word q in
      let behind = ap word_behind q in
      (omega arith, omega arith)
    where
      at : (d : Object) (k : ℕ) → k < 1 → slice_index_or (o ∷ []) k d ≡ o
      at d zero l = refl
      at d (suc k) l = absurd (omega arith)

  -- the words of this one are as they were
  fresh : (y : ℕ) → first_word o ≤ y → mid y ≡ old y
  fresh y from = f.others y (λ t. let end = (before t.0 t.1).0 in let to = t.3 in omega arith)

  -- the words of the others stay as they became
  done : (y : ℕ) → y < first_word o → new y ≡ mid y
  done y below = g.others y (λ t. let q = taken_one y t in let from = q.0 in omega arith)

  mark_here : is_marked mid o ≡ is_marked old o
  mark_here = ap (λ z. is_marked (λ _. z) o) (fresh (first_word o) (omega arith))

  sifted_more : AreSifted (xs ++ o ∷ []) old new
  sifted_more = record {
    unmarked = λ q i e. elim (Contains-push_cases xs o q i) [
      | inl earlier ↦ let end = (before q earlier).0 in let some_q = (before q earlier).1 in ap (λ z. z + 2 ^ 63) (done (first_word q) (omega arith)) ∙ f.unmarked q earlier e
      | inr same ↦ subst (λ (z : Object). new (first_word z) + 2 ^ 63 ≡ old (first_word z)) same
          (g.unmarked o in_one (mark_here ∙ ap (is_marked old) same ∙ e) ∙ fresh (first_word o) (omega arith))
    ];
    kept = λ q y i e from to. elim (Contains-push_cases xs o q i) [
      | inl earlier ↦ let end = (before q earlier).0 in done y (omega arith) ∙ f.kept q y earlier e from to
      | inr same ↦
          let first = ap first_word same in
          let behind = ap word_behind same in
          g.kept o y in_one (mark_here ∙ ap (is_marked old) same ∙ e) (omega arith) (omega arith) ∙ fresh y (omega arith)
    ];
    zero = λ q y i e from to. elim (Contains-push_cases xs o q i) [
      | inl earlier ↦ let end = (before q earlier).0 in done y (omega arith) ∙ f.zero q y earlier e from to
      | inr same ↦
          let first = ap first_word same in
          let behind = ap word_behind same in
          g.zero o y in_one (mark_here ∙ ap (is_marked old) same ∙ e) (omega arith) (omega arith)
    ];
    others = λ y n.
        g.others y (λ t. let q = taken_one y t in n (o, Contains-push xs o, q.0, q.1))
        ∙ f.others y (λ t. n (t.0, Contains-append_left xs (o ∷ []) t.0 t.1, t.2, t.3));
  }

-- the step of the walk at the object with the number i
pub sifted_next : (layout : Layout) (told : List Object) (i : ℕ) (o : Object) (old mid new : ℕ → ℕ) → AreStanding layout told → i < length told →
    o ≡ get_or told i o → AreSifted (take i told) old mid → AreSifted (o ∷ []) mid new → AreSifted (take (i + 1) told) old new
sifted_next layout told i o old mid new standing there is f g =
    let longer : take (i + 1) told ≡ take i told ++ o ∷ [] = take_more told i o there ∙ ap (λ (q : Object). take i told ++ q ∷ []) (sym is) in
    subst (λ (l : List Object). AreSifted l old new) (sym longer)
    (sifted_more (take i told) o (standing.each o (i, there, sym is)).0
    (λ q in_passed.
    let k = in_passed.0 in
    let within = length-take-le i told (omega arith) in
    let lower = in_passed.1 in
    let earlier : k < i = omega arith in
    let at_k : get_or told k q ≡ q = sym (get_or-take i told k q earlier) ∙ in_passed.2 in
    let apart = standing.apart k i q earlier there in
    let first = ap word_behind at_k in
    let second = ap first_word (get_or_default told i q o there ∙ sym is) in
    (omega arith, (standing.each q (k, omega arith, at_k)).0))
    old mid new f g)

pub sifted_all : (told : List Object) (i : ℕ) (old new : ℕ → ℕ) → length told ≤ i → AreSifted (take i told) old new → AreSifted told old new
sifted_all told i old new l f = subst (λ (os : List Object). AreSifted os old new) (take_all i told l) f
