-- One pass over the objects after a round: what stays, what moved, and what stays without being pinned by a word.
use Rattle.std.proofs.Common.{◌≡◌, ℕ, ◌+◌, ◌<◌, ◌≤◌, inl, inr, List, [], ◌∷◌, ◌++◌, length, get_or, take, arith, sym, subst, ap, ◌∙◌, ◌↔◌, map}
use Rattle.std.specs.List.{Contains}
use Rattle.std.specs.List.Sorted.{IsStrictlyIncreasing}
use Rattle.std.proofs.lemmas.Bool.{cases_eq, cases_lt}
use Rattle.std.proofs.lemmas.List.{get_or-map, get_or-take, length-map, take_more, map_push, get_or_append_left, get_or_push, length_push, get_or_default, length-take-le}
use Rattle.std.proofs.lemmas.List.Elements.{Contains-get_or, Contains-append_left, Contains-push, Contains-push_cases}
use Rattle.sg_words.specs.declared.pieces.Move.{Move}
use Rattle.sg_words.specs.declared.layout.Layout.{Layout}
use Rattle.sg_space.specs.declared.objects.Object.{Object}
use Rattle.sg_words.specs.Sections.{old_base}
use Rattle.sg_nursery.specs.Pieces.{AreStanding, first_word, word_behind}
use Rattle.sg_nursery.specs.Parts.{IsStaying, WentTo, AreRounded, AreStaying, AreKept}
use Rattle.sg_words.proofs.Sorted.{sorted_far, increasing_push}

abbrev sources : List Move → List ℕ
sources moves = map (λ (move : Move). move.from) moves

-- after i objects: the pins below the index are below the objects to come, and the others above the objects passed
pub record IsBetween (told : List Object) (pins : List ℕ) (i index : ℕ) : Type 0 where
  pub passed : (k j : ℕ) (d : Object) → k < index → i ≤ j → j < length told → get_or pins k 0 < (get_or told j d).at
  pub ahead : (k j : ℕ) (d : Object) → index ≤ k → k < length pins → j < i → j < length told → (get_or told j d).at < get_or pins k 0

-- what the pass knows at the object with the number i
pub record IsMet (layout : Layout) (w : ℕ → ℕ) (told : List Object) (pins : List ℕ) (i index : ℕ) (o : Object) : Type 0 where
  pub rounded : AreRounded layout w told
  pub pinned : AreStaying w told pins
  pub there : i < length told
  pub is : o ≡ get_or told i o
  pub between : IsBetween told pins i index

-- what comes earlier lies below
pub at_below : (layout : Layout) (w : ℕ → ℕ) (told : List Object) → AreRounded layout w told → (j k : ℕ) (d : Object) → j < k → k < length told → (get_or told j d).at < (get_or told k d).at
at_below layout w told r j k d l m =
    let apart = r.standing.apart j k d l m in
    let first : Contains told (get_or told j d) = Contains-get_or told j d (omega arith) in
    let some = (r.standing.each (get_or told j d) first).0 in
    let whole = (r.each (get_or told j d) first).whole in
    let whole_k = (r.each (get_or told k d) (Contains-get_or told k d m)).whole in
    omega arith

pub between_none : (told : List Object) (pins : List ℕ) → IsBetween told pins 0 0
between_none told pins = record {
  passed = λ k j d l a b. absurd (omega arith);
  ahead = λ k j d l m a b. absurd (omega arith);
}

module _ (layout : Layout) (w : ℕ → ℕ) (told : List Object) (pins : List ℕ) (i index : ℕ) (o : Object) (met : IsMet layout w told pins i index o) where
  here : (d : Object) → get_or told i d ≡ o
  here d = get_or_default told i d o met.there ∙ sym met.is

  at_here : (d : Object) → (get_or told i d).at ≡ o.at
  at_here d = ap (λ (q : Object). q.at) (here d)

  pub in_told : Contains told o
  in_told = (i, met.there, sym met.is)

  -- the next pin is this object
  pub between_hit : index < length pins → get_or pins index 0 ≡ o.at → IsBetween told pins (i + 1) (index + 1)
  between_hit l e = record {
    passed = λ k j d a b m. elim (cases_eq k index) [
      | inl same ↦
          let up = at_below layout w told met.rounded i j d (omega arith) m in
          let at = at_here d in
          let pin = ap (λ z. get_or pins z 0) same in
          omega arith
      | inr other ↦ met.between.passed k j d (omega arith) (omega arith) m
    ];
    ahead = λ k j d a l2 b m.
        let up = sorted_far pins met.pinned.in_order index k (omega arith) l2 in
        elim (cases_eq j i) [
          | inl same ↦ let at = at_here d in let moved = ap (λ z. (get_or told z d).at) same in omega arith
          | inr other ↦ met.between.ahead k j d (omega arith) l2 (omega arith) m
        ];
  }

  -- a pin at or behind the index is this object or lies above it
  pin_at_least : (k : ℕ) → index ≤ k → k < length pins → o.at ≤ get_or pins k 0
  pin_at_least k l m =
      let q = met.pinned.each (get_or pins k 0) (Contains-get_or pins k 0 m) in
      let j = q.1.0 in
      let in_told_j = q.1.1 in
      let at_j : (get_or told j q.0).at ≡ get_or pins k 0 = ap (λ (z : Object). z.at) q.1.2 ∙ q.3 in
      elim (cases_lt j i) [
        | inl before ↦ let up = met.between.ahead k j q.0 l m before in_told_j in absurd (omega arith)
        | inr from ↦ elim (cases_eq j i) [
          | inl same ↦ let moved = ap (λ z. (get_or told z q.0).at) same in let at = at_here q.0 in omega arith
          | inr other ↦ let up = at_below layout w told met.rounded i j q.0 (omega arith) in_told_j in let at = at_here q.0 in omega arith
        ]
      ]

  -- the object is no pin
  pub between_miss : (Contains pins o.at → ⊥) → IsBetween told pins (i + 1) index
  between_miss none = record {
    passed = λ k j d a b m. met.between.passed k j d a (omega arith) m;
    ahead = λ k j d a l b m. elim (cases_eq j i) [
      | inl same ↦
          let least = pin_at_least k a l in
          let at = at_here d in
          let moved = ap (λ z. (get_or told z d).at) same in
          elim (cases_eq (get_or pins k 0) o.at) [
            | inl e ↦ absurd (none (subst (Contains pins) e (Contains-get_or pins k 0 l)))
            | inr n ↦ omega arith
          ]
      | inr other ↦ met.between.ahead k j d a l (omega arith) m
    ];
  }

  -- where the next pin isn't this object, the object is none
  pub no_pin : (index < length pins → get_or pins index 0 ≡ o.at → ⊥) → Contains pins o.at → ⊥
  no_pin miss pin =
      let k = pin.0 in
      let there = pin.1 in
      let is : get_or pins k 0 ≡ o.at = get_or_default pins k 0 o.at there ∙ pin.2 in
      elim (cases_lt k index) [
        | inl below ↦ let up = met.between.passed k i o below (omega arith) met.there in let at = at_here o in omega arith
        | inr from ↦ elim (cases_eq k index) [
          | inl same ↦ miss (omega arith) (sym (ap (λ z. get_or pins z 0) same) ∙ is)
          | inr other ↦
              let least = pin_at_least index (omega arith) (omega arith) in
              let up = sorted_far pins met.pinned.in_order index k (omega arith) there in
              omega arith
        ]
      ]

  -- an object that doesn't stay is no pin
  pub no_pin_here : (IsStaying w o → ⊥) → Contains pins o.at → ⊥
  no_pin_here goes pin =
      let q = met.pinned.each o.at pin in
      let j = q.1.0 in
      let there = q.1.1 in
      let at_j : (get_or told j q.0).at ≡ o.at = ap (λ (z : Object). z.at) q.1.2 ∙ q.3 in
      let at = at_here q.0 in
      elim (cases_lt j i) [
        | inl before ↦ let up = at_below layout w told met.rounded j i q.0 before met.there in absurd (omega arith)
        | inr from ↦ elim (cases_eq j i) [
          | inl same ↦ goes (subst (IsStaying w) (sym q.1.2 ∙ ap (λ z. get_or told z q.0) same ∙ here q.0) q.2)
          | inr other ↦ let up = at_below layout w told met.rounded i j q.0 (omega arith) there in absurd (omega arith)
        ]
      ]

  longer : take (i + 1) told ≡ take i told ++ o ∷ []
  longer = take_more told i o met.there ∙ ap (λ (q : Object). take i told ++ q ∷ []) (sym met.is)

  -- an object passed lies before this one
  pub passed_below : (q : Object) → Contains (take i told) q → word_behind q ≤ first_word o
  passed_below q in_passed =
      let k = in_passed.0 in
      let within = length-take-le i told (let l = met.there in omega arith) in
      let lower = in_passed.1 in
      let earlier : k < i = omega arith in
      let there : get_or told k q ≡ q = sym (get_or-take i told k q earlier) ∙ in_passed.2 in
      let apart = met.rounded.standing.apart k i q earlier met.there in
      let first = ap word_behind there in
      let second = ap first_word (here q) in
      omega arith

  -- what is kept of the objects passed and of this one
  stand_yes : (st : List Object) → IsStaying w o → ((q : Object) → Contains st q ↔ (Contains (take i told) q × IsStaying w q)) →
      (q : Object) → Contains (st ++ o ∷ []) q ↔ (Contains (take i told ++ o ∷ []) q × IsStaying w q)
  stand_yes st stays f q = (
    (λ in_st. elim (Contains-push_cases st o q in_st) [
      | inl old ↦ let h = (f q).0 old in (Contains-append_left (take i told) (o ∷ []) q h.0, h.1)
      | inr new ↦ subst (λ (z : Object). Contains (take i told ++ o ∷ []) z × IsStaying w z) new (Contains-push (take i told) o, stays)
    ]),
    λ h. elim (Contains-push_cases (take i told) o q h.0) [
      | inl old ↦ Contains-append_left st (o ∷ []) q ((f q).1 (old, h.1))
      | inr new ↦ subst (Contains (st ++ o ∷ [])) new (Contains-push st o)
    ],
  )

  stand_no : (st : List Object) → (IsStaying w o → ⊥) → ((q : Object) → Contains st q ↔ (Contains (take i told) q × IsStaying w q)) →
      (q : Object) → Contains st q ↔ (Contains (take i told ++ o ∷ []) q × IsStaying w q)
  stand_no st goes f q = (
    (λ in_st. let h = (f q).0 in_st in (Contains-append_left (take i told) (o ∷ []) q h.0, h.1)),
    λ h. elim (Contains-push_cases (take i told) o q h.0) [
      | inl old ↦ (f q).1 (old, h.1)
      | inr new ↦ absurd (goes (subst (IsStaying w) (sym new) h.1))
    ],
  )

  move_yes : (mv : List Move) (to : ℕ) → WentTo w o to → ((m : Move) → Contains mv m ↔ ((q : Object) × Contains (take i told) q × WentTo w q m.to × (m.from ≡ q.at))) →
      (m : Move) → Contains (mv ++ record { from = o.at; to = to } ∷ []) m ↔ ((q : Object) × Contains (take i told ++ o ∷ []) q × WentTo w q m.to × (m.from ≡ q.at))
  move_yes mv to went f m = (
    (λ in_mv. elim (Contains-push_cases mv (record { from = o.at; to = to }) m in_mv) [
      | inl old ↦ let h = (f m).0 old in (h.0, Contains-append_left (take i told) (o ∷ []) h.0 h.1, h.2, h.3)
      | inr new ↦ (o, Contains-push (take i told) o, subst (λ (z : Move). WentTo w o z.to) new went, sym (ap (λ (z : Move). z.from) new))
    ]),
    λ h. elim (Contains-push_cases (take i told) o h.0 h.1) [
      | inl old ↦ Contains-append_left mv (record { from = o.at; to = to } ∷ []) m ((f m).1 (h.0, old, h.2, h.3))
      | inr new ↦ subst (Contains (mv ++ record { from = o.at; to = to } ∷ [])) (same m (ap (λ (z : Object). z.at) new ∙ sym h.3) (target m (subst (λ (z : Object). WentTo w z m.to) (sym new) h.2))) (Contains-push mv (record { from = o.at; to = to }))
    ],
  )
    where
      same : (m : Move) → o.at ≡ m.from → to ≡ m.to → record { from = o.at; to = to } ≡ m
      same m e f = ap (λ z. record { from = z; to = to }) e ∙ ap (λ z. record { from = m.from; to = z }) f

      target : (m : Move) → WentTo w o m.to → to ≡ m.to
      target m h = let a = went.1 in let b = h.1 in omega arith

  move_no : (mv : List Move) → ((to : ℕ) → WentTo w o to → ⊥) → ((m : Move) → Contains mv m ↔ ((q : Object) × Contains (take i told) q × WentTo w q m.to × (m.from ≡ q.at))) →
      (m : Move) → Contains mv m ↔ ((q : Object) × Contains (take i told ++ o ∷ []) q × WentTo w q m.to × (m.from ≡ q.at))
  move_no mv none f m = (
    (λ in_mv. let h = (f m).0 in_mv in (h.0, Contains-append_left (take i told) (o ∷ []) h.0 h.1, h.2, h.3)),
    λ h. elim (Contains-push_cases (take i told) o h.0 h.1) [
      | inl old ↦ (f m).1 (h.0, old, h.2, h.3)
      | inr new ↦ absurd (none m.to (subst (λ (z : Object). WentTo w z m.to) (sym new) h.2))
    ],
  )

  fail_yes : (fl : List ℕ) → IsStaying w o → (Contains pins o.at → ⊥) → ((a : ℕ) → Contains fl a ↔ ((q : Object) × Contains (take i told) q × IsStaying w q × (q.at ≡ a) × (Contains pins a → ⊥))) →
      (a : ℕ) → Contains (fl ++ o.at ∷ []) a ↔ ((q : Object) × Contains (take i told ++ o ∷ []) q × IsStaying w q × (q.at ≡ a) × (Contains pins a → ⊥))
  fail_yes fl stays none f a = (
    (λ in_fl. elim (Contains-push_cases fl o.at a in_fl) [
      | inl old ↦ let h = (f a).0 old in (h.0, Contains-append_left (take i told) (o ∷ []) h.0 h.1, h.2, h.3, h.4)
      | inr new ↦ (o, Contains-push (take i told) o, stays, new, λ pin. none (subst (Contains pins) (sym new) pin))
    ]),
    λ h. elim (Contains-push_cases (take i told) o h.0 h.1) [
      | inl old ↦ Contains-append_left fl (o.at ∷ []) a ((f a).1 (h.0, old, h.2, h.3, h.4))
      | inr new ↦ subst (Contains (fl ++ o.at ∷ [])) (ap (λ (z : Object). z.at) new ∙ h.3) (Contains-push fl o.at)
    ],
  )

  fail_no : (fl : List ℕ) → (IsStaying w o → (Contains pins o.at → ⊥) → ⊥) → ((a : ℕ) → Contains fl a ↔ ((q : Object) × Contains (take i told) q × IsStaying w q × (q.at ≡ a) × (Contains pins a → ⊥))) →
      (a : ℕ) → Contains fl a ↔ ((q : Object) × Contains (take i told ++ o ∷ []) q × IsStaying w q × (q.at ≡ a) × (Contains pins a → ⊥))
  fail_no fl none f a = (
    (λ in_fl. let h = (f a).0 in_fl in (h.0, Contains-append_left (take i told) (o ∷ []) h.0 h.1, h.2, h.3, h.4)),
    λ h. elim (Contains-push_cases (take i told) o h.0 h.1) [
      | inl old ↦ (f a).1 (h.0, old, h.2, h.3, h.4)
      | inr new ↦ absurd (none (subst (IsStaying w) (sym new) h.2) (λ pin. h.4 (subst (Contains pins) (ap (λ (z : Object). z.at) new ∙ h.3) pin)))
    ],
  )

  some_here : 0 < o.words
  some_here = (met.rounded.standing.each o in_told).0

  -- an object passed has a lower address
  passed_at_below : (q : Object) → Contains (take i told) q → q.at < o.at
  passed_at_below q in_passed =
      let k = in_passed.0 in
      let within = length-take-le i told (let l = met.there in omega arith) in
      let lower = in_passed.1 in
      let earlier : k < i = omega arith in
      let there : get_or told k q ≡ q = sym (get_or-take i told k q earlier) ∙ in_passed.2 in
      let up = at_below layout w told met.rounded k i q earlier met.there in
      let first = ap (λ (z : Object). z.at) there in
      let second = at_here q in
      omega arith

  apart_yes : (st : List Object) → AreStanding layout st → ((q : Object) → Contains st q → Contains (take i told) q) → AreStanding layout (st ++ o ∷ [])
  apart_yes st f from = record {
    each = λ q in_st. elim (Contains-push_cases st o q in_st) [
      | inl old ↦ f.each q old
      | inr new ↦ subst (λ (z : Object). (0 < z.words) × (512 ≤ first_word z) × (word_behind z ≤ old_base layout)) new (met.rounded.standing.each o in_told)
    ];
    apart = λ j k d l m.
        let n = length_push st o in
        let left = get_or_append_left st (o ∷ []) d j (omega arith) in
        let first = ap word_behind left in
        elim (cases_eq k (length st)) [
          | inl e ↦
              let last = ap first_word (get_or_push st o d k (sym e)) in
              let below = passed_below (get_or st j d) (from (get_or st j d) (Contains-get_or st j d (omega arith))) in
              omega arith
          | inr other ↦
              let right = ap first_word (get_or_append_left st (o ∷ []) d k (omega arith)) in
              let apart = f.apart j k d l (omega arith) in
              omega arith
        ];
  }

  moves_order : (mv : List Move) (to : ℕ) → IsStrictlyIncreasing (sources mv) → ((m : Move) → Contains mv m → (q : Object) × Contains (take i told) q × (m.from ≡ q.at)) → IsStrictlyIncreasing (sources (mv ++ record { from = o.at; to = to } ∷ []))
  moves_order mv to up from = rw (map_push (λ (m : Move). m.from) mv (record { from = o.at; to = to })) (increasing_push (sources mv) o.at up (λ a in_sources.
      let lengths = length-map mv (λ (m : Move). m.from) in
      let k = in_sources.0 in
      let within = in_sources.1 in
      let d : Move = record { from = 0; to = 0 } in
      let there : k < length mv = omega arith in
      let is : (get_or mv k d).from ≡ a = sym (get_or-map (λ (m : Move). m.from) mv k d a there) ∙ in_sources.2 in
      let q = from (get_or mv k d) (Contains-get_or mv k d there) in
      let below = passed_at_below q.0 q.1 in
      let at = q.2 in
      omega arith))

  module _ (st : List Object) (mv : List Move) (fl : List ℕ) (f : AreKept layout w (take i told) pins st mv fl) where
    as_longer : (st2 : List Object) (mv2 : List Move) (fl2 : List ℕ) → AreKept layout w (take i told ++ o ∷ []) pins st2 mv2 fl2 → AreKept layout w (take (i + 1) told) pins st2 mv2 fl2
    as_longer st2 mv2 fl2 g = subst (λ (l : List Object). AreKept layout w l pins st2 mv2 fl2) (sym longer) g

    standing_passed : (q : Object) → Contains st q → Contains (take i told) q
    standing_passed q in_st = ((f.stand q).0 in_st).0

    not_went : IsStaying w o → (to : ℕ) → WentTo w o to → ⊥
    not_went stays to went = let a = went.0.2 in let b = went.1 in absurd (omega arith)

    pub kept_pin : IsStaying w o → Contains pins o.at → AreKept layout w (take (i + 1) told) pins (st ++ o ∷ []) mv fl
    kept_pin stays pin = as_longer (st ++ o ∷ []) mv fl (record {
      apart = apart_yes st f.apart standing_passed;
      moves_in_order = f.moves_in_order;
      fails_in_order = f.fails_in_order;
      stand = stand_yes st stays f.stand;
      move = move_no mv (not_went stays) f.move;
      fail = fail_no fl (λ _ none. none pin) f.fail;
    })

    pub kept_fail : IsStaying w o → (Contains pins o.at → ⊥) → AreKept layout w (take (i + 1) told) pins (st ++ o ∷ []) mv (fl ++ o.at ∷ [])
    kept_fail stays none = as_longer (st ++ o ∷ []) mv (fl ++ o.at ∷ []) (record {
      apart = apart_yes st f.apart standing_passed;
      moves_in_order = f.moves_in_order;
      fails_in_order = increasing_push fl o.at f.fails_in_order (λ a in_fl. let h = (f.fail a).0 in_fl in let below = passed_at_below h.0 h.1 in let at = h.3 in omega arith);
      stand = stand_yes st stays f.stand;
      move = move_no mv (not_went stays) f.move;
      fail = fail_yes fl stays none f.fail;
    })

    pub kept_move : (to : ℕ) → WentTo w o to → AreKept layout w (take (i + 1) told) pins st (mv ++ record { from = o.at; to = to } ∷ []) fl
    kept_move to went = as_longer st (mv ++ record { from = o.at; to = to } ∷ []) fl (record {
      apart = f.apart;
      moves_in_order = moves_order mv to f.moves_in_order (λ m in_mv. let h = (f.move m).0 in_mv in (h.0, h.1, h.3));
      fails_in_order = f.fails_in_order;
      stand = stand_no st (λ stays. not_went stays to went) f.stand;
      move = move_yes mv to went f.move;
      fail = fail_no fl (λ stays none. not_went stays to went) f.fail;
    })

    pub kept_dead : (IsStaying w o → ⊥) → ((to : ℕ) → WentTo w o to → ⊥) → AreKept layout w (take (i + 1) told) pins st mv fl
    kept_dead goes none = as_longer st mv fl (record {
      apart = f.apart;
      moves_in_order = f.moves_in_order;
      fails_in_order = f.fails_in_order;
      stand = stand_no st goes f.stand;
      move = move_no mv none f.move;
      fail = fail_no fl (λ stays _. goes stays) f.fail;
    })

pub kept_none : (layout : Layout) (w : ℕ → ℕ) (pins : List ℕ) → AreKept layout w [] pins [] [] []
kept_none layout w pins = record {
  apart = record { each = λ o i. (let l = i.1 in absurd (omega arith)); apart = λ j k d l m. absurd (omega arith) };
  moves_in_order = λ k l. absurd (omega arith);
  fails_in_order = λ k l. absurd (omega arith);
  stand = λ o. ((λ i. (let l = i.1 in absurd (omega arith))), λ h. let l = h.0.1 in absurd (omega arith));
  move = λ m. ((λ i. (let l = i.1 in absurd (omega arith))), λ h. let l = h.1.1 in absurd (omega arith));
  fail = λ a. ((λ i. (let l = i.1 in absurd (omega arith))), λ h. let l = h.1.1 in absurd (omega arith));
}
