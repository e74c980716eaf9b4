-- The young objects that are told, and the roots.
use Rattle.std.proofs.Common.{◌≡◌, ℕ, ◌+◌, ◌*◌, ◌≤◌, ◌<◌, List, Option, Some, map, get_or, refl, sym, ap, ◌∙◌, subst, inl, inr, arith}
use Rattle.std.proofs.lemmas.Bool.{cases_lt}
use Rattle.std.proofs.lemmas.List.{get_or-map, length-map}
use Rattle.std.proofs.lemmas.List.Kept.{AllPairs-from_increasing}
use Rattle.std.proofs.lemmas.List.Elements.{Contains-get_or}
use Rattle.std.proofs.lemmas.Option.{slice_get_within, get_or_from_slice_get, slice_get_read, same_Some}
use Rattle.std.specs.List.{Contains}
use Rattle.sg_words.specs.Address.{word_at}
use Rattle.sg_words.specs.Sections.{old_base, IsYoung}
use Rattle.sg_space.specs.declared.objects.Object.{Object}
use Rattle.sg_space.specs.Space.{Contents}
use Rattle.sg_space.specs.Standing.{size_at, IsSoundBy, TellsYoung, IsToldOf}
use Rattle.sg_nursery.specs.Pieces.{AreStanding}
use Rattle.sg_pins.specs.Pins.{AreReached}
use Rattle.sg_major.specs.Parts.{HoldsByte, ArePointedBehind, IsGlobal, IsRootOf, AreRoots, AddsThose}

module _ (s : Contents) (owner : ℕ → Option ℕ) (sound : IsSoundBy s owner) (told : List Object) (tells : TellsYoung s owner told) where
  -- what is told of an object on the list
  pub told_of : (o : Object) → Contains told o → (h : ℕ) × (owner h ≡ Some h) × IsYoung s.layout h × IsToldOf s h o
  told_of o i = tells.each i.0 o (slice_get_read told _ i.0 o refl i.1 (sym i.2))

  -- the object at a first word of the nursery is on the list
  pub told_at : (h : ℕ) → owner h ≡ Some h → IsYoung s.layout h → (o : Object) × Contains told o × IsToldOf s h o
  told_at h e y =
      let q = tells.all h e y in
      let o = q.1 in
      let i : Contains told o = (q.0, slice_get_within told q.0 o q.2, get_or_from_slice_get told q.0 o o q.2) in
      let t = told_of o i in
      let at = t.3.at in
      let is = q.3 in
      let h_is : t.0 ≡ h = omega arith in
      (o, i, subst (λ x. IsToldOf s x o) h_is t.3)

  -- a young object ends in the nursery
  young_ends : (h : ℕ) → owner h ≡ Some h → IsYoung s.layout h → h + size_at s h ≤ old_base s.layout
  young_ends h e y = elim (sound.places h e) [
    | inl q ↦ q.within
    | inr more ↦ elim more [
      | inl q ↦ (let front = q.front in let low = y.1 in absurd (omega arith))
      | inr q ↦ (let front = q.front in let low = y.1 in absurd (omega arith))
    ]
  ]

  pub told_stand : AreStanding s.layout told
  told_stand = record {
    each = λ o i.
        let t = told_of o i in
        let at = t.3.at in
        let words = t.3.words in
        let young = t.2 in
        let end = young_ends t.0 t.1 t.2 in
        (omega arith, omega arith, omega arith);
    apart = λ j k d l u.
        let a = get_or told j d in
        let c = get_or told k d in
        let in_a : Contains told a = Contains-get_or told j d (omega arith) in
        let in_c : Contains told c = Contains-get_or told k d u in
        let t = told_of a in_a in
        let q = told_of c in_c in
        let at_a = t.3.at in
        let words = t.3.words in
        let at_c = q.3.at in
        let lengths = length-map told (λ (o : Object). o.at) in
        let rise : get_or (map (λ (o : Object). o.at) told) j 0 < get_or (map (λ (o : Object). o.at) told) k 0 = AllPairs-from_increasing (map (λ (o : Object). o.at) told) tells.in_order j k 0 l (omega arith) in
        let first : get_or (map (λ (o : Object). o.at) told) j 0 ≡ a.at = get_or-map (λ (o : Object). o.at) told j d 0 (omega arith) in
        let second : get_or (map (λ (o : Object). o.at) told) k 0 ≡ c.at = get_or-map (λ (o : Object). o.at) told k d 0 u in
        elim (cases_lt q.0 (t.0 + size_at s t.0)) [
          | inl under ↦ (let e = same_Some _ _ (sym q.1 ∙ sound.whole t.0 q.0 t.1 (omega arith) under) in absurd (omega arith))
          | inr over ↦ omega arith
        ];
  }

  -- a byte of an object on the list
  pub byte_of : (o : Object) (v : ℕ) → Contains told o → o.at ≤ v → v < o.at + 8 * o.words → owner (word_at v) ≡ Some (word_at o.at)
  byte_of o v i from to =
      let t = told_of o i in
      let at = t.3.at in
      let words = t.3.words in
      let here : t.0 ≡ word_at o.at = omega arith in
      sound.whole t.0 (word_at v) t.1 (omega arith) (omega arith) ∙ ap Some here

  -- what a word of the nursery points into is on the list
  pub byte_told : (v a : ℕ) → HoldsByte owner v a → word_at v < old_base s.layout → (o : Object) × Contains told o × (o.at ≡ a) × (o.at ≤ v) × (v < o.at + 8 * o.words)
  byte_told v a h below =
      let o = sound.owned (word_at v) (word_at a) h.0 in
      let from = o.0 in
      let young : IsYoung s.layout (word_at a) = elim (sound.places (word_at a) o.2) [
        | inl q ↦ (let above = q.above in (omega arith, omega arith))
        | inr more ↦ elim more [
          | inl q ↦ (let front = q.front in absurd (omega arith))
          | inr q ↦ (let front = q.front in absurd (omega arith))
        ]
      ] in
      let t = told_at (word_at a) o.2 young in
      let at = t.2.at in
      let words = t.2.words in
      let whole = h.1 in
      let end = o.1 in
      (t.0, t.1, omega arith, omega arith, omega arith)

-- the roots: what the words point into in the nursery, what they point into behind it, and what the globals hold
module _ (s : Contents) (owner : ℕ → Option ℕ) (sound : IsSoundBy s owner) (ambiguous : List ℕ) (told : List Object) (tells : TellsYoung s owner told)
    (pinned mid roots : List ℕ) (reached : AreReached ambiguous told pinned) (behind : AddsThose (ArePointedBehind s owner ambiguous) pinned mid)
    (held : AddsThose (IsGlobal s) mid roots) where
  pinned_root : (a : ℕ) → Contains pinned a → IsRootOf s owner ambiguous a
  pinned_root a i =
      let q = reached.each a i in
      let o = q.0 in
      let at = q.2 in
      let v = q.3.0 in
      let t = told_of s owner sound told tells o q.1 in
      let first = t.3.at in
      inl (v, q.3.1, (byte_of s owner sound told tells o v q.1 q.3.2 q.3.3 ∙ ap (λ z. Some (word_at z)) at, omega arith))

  pub are_roots : AreRoots s owner ambiguous roots
  are_roots = record {
    each = λ a i. elim (held.each a i) [
      | inr q ↦ inr q
      | inl i ↦ elim (behind.each a i) [
        | inr q ↦ inl (q.0, q.1, q.2.1)
        | inl i ↦ pinned_root a i
      ]
    ];
    all = λ a q. elim q [
      | inr g ↦ held.comes a g
      | inl p ↦ elim (cases_lt (word_at p.0) (old_base s.layout)) [
        | inr far ↦ held.stays a (behind.comes a (p.0, p.1, (far, p.2)))
        | inl near ↦
            (let o = byte_told s owner sound told tells p.0 a p.2 near in
            held.stays a (behind.stays a (subst (Contains pinned) o.2 (reached.all o.0 o.1 (p.0, p.1, o.3, o.4)))))
      ]
    ];
  }
