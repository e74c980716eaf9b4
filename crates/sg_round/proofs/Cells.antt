-- The rules of the offer cells.
use Rattle.std.proofs.Common.{◌≡◌, ◌≢◌, ℕ, ◌+◌, ◌*◌, ◌≤◌, ◌<◌, List, [], ◌∷◌, ◌++◌, length, sym, refl, ap, ◌∙◌, subst, inl, inr, arith, le_refl}
use Rattle.std.proofs.Common.{mod-eq_of_lt}
use Rattle.std.proofs.lemmas.Bool.{cases_eq}
use Rattle.std.proofs.lemmas.List.{append-nil}
use Rattle.sg_words.specs.Lists.{In}
use Rattle.sg_words.specs.Words.{put, Words}
use Rattle.sg_words.proofs.Puts.{put-at, put-same, put-other}
use Rattle.sg_words.proofs.Members.{in-left, in-right, in-cases}
use Rattle.sg_round.specs.Items.{Item, cell_word, own_cell, looked_cell, slots_in, slots_of}
use Rattle.sg_round.specs.Worker.{Send, Dirty, Mid, Idle, Took, Count, On, Offer, Seek, Grab, Over, Worker}
use Rattle.sg_round.specs.Rules.{Nothing, MayOffer, IsLooking}
use Rattle.sg_round.specs.Round.{Start, Round}
use Rattle.sg_round.proofs.Relation.{IsKnownItem, AreKnown, in_hand, todo_of, InCell, AreEmpty, AtMid, IsFilling, IsSingle, Kept}
use Rattle.sg_round.proofs.Steps.{moved-about}
use Rattle.sg_round.proofs.Lists.{item-distinct, todo-last, length-last}
use Rattle.sg_round.proofs.Single.{single-as, offered-single, grabbed-single}
use Rattle.sg_round.proofs.Moves.{Before, IsAwake, member, claims-as, nothing, goes-on, walks}
use Rattle.sg_round.proofs.Swaps.{same-item, no-item, cell-known}

pub may-awake : (mid : Mid) → MayOffer mid → IsAwake mid
may-awake Idle m = tt
may-awake (Took item) m = tt
may-awake (Count x class) m = tt
may-awake (On s stage) m = tt
may-awake (Offer i next) m = tt
may-awake (Seek i) m = tt
may-awake (Grab i item) m = tt
may-awake Over m = m

-- what holds of a list holds of its last item, and of the others
known-first : (t : Start) (r : Round) (items : List Item) (item : Item) → AreKnown t r (items ++ item ∷ []) → AreKnown t r items × IsKnownItem t r item
known-first t r [] item h = (tt, h.0)
known-first t r (x ∷ items) item h = let m = known-first t r items item h.1 in ((h.0, m.0), m.1)

-- the other cells and the list are nothing to a worker that may offer
offered-mid : (t : Start) (v : Words) (r : Round) (k : ℕ) (spare : ℕ → ℕ) (list list' : List Item) (hand : List ℕ) (mid : Mid) (cell : ℕ → ℕ) → MayOffer mid →
    AtMid t v r k spare list hand mid → AtMid t (record v { cell = cell }) r k spare list' hand mid
offered-mid t v r k spare list list' hand Idle cell m q = tt
offered-mid t v r k spare list list' hand (On s (Send to)) cell m q = q
offered-mid t v r k spare list list' hand (On s Dirty) cell m q = q
offered-mid t v r k spare list list' hand mid cell m q = absurd m

module _ {t : Start} {others : ℕ → Type 0} {k : ℕ} {v : Words} {r : Round} where
  pub cell-kept : (a : Worker) → Before t others k v r a → Kept t others k v r a Nothing v a
  cell-kept a n = goes-on a a n refl n.stands

  pub offer-prepared : (a : Worker) (items : List Item) (item : Item) (i : ℕ) → i < 8 → MayOffer a.mid → a.list ≡ items ++ item ∷ [] →
      v.cell (own_cell k i) ≡ 0 → Before t others k v r a →
      Kept t others k v r a Nothing v (record a { mid = Offer i a.mid })
  offer-prepared a items item i l may e saw n =
      walks a (Offer i a.mid) n (may-awake a.mid may) refl (λ at z h. h) (l, saw, (items, item, e), n.stands.at, may)

  pub offer-lost : (a : Worker) (i : ℕ) (next : Mid) → Before t others k v r (record a { mid = Offer i next }) →
      Kept t others k v r (record a { mid = Offer i next }) Nothing v (record a { mid = next })
  offer-lost a i next n = walks (record a { mid = Offer i next }) next n tt refl (λ at z h. h) n.stands.at.3

  pub offered : (a : Worker) (items : List Item) (item : Item) (i : ℕ) (next : Mid) → v.cell (own_cell k i) ≡ 0 →
      Before t others k v r (record a { list = items ++ item ∷ []; mid = Offer i next }) →
      Kept t others k v r (record a { list = items ++ item ∷ []; mid = Offer i next }) Nothing (record v { cell = put v.cell (own_cell k i) (cell_word item) })
      (record a { list = items; mid = next })
  offered a items item i next saw n =
      let a0 : Worker = record a { list = items ++ item ∷ []; mid = Offer i next } in
      let b : Worker = record a { list = items; mid = next } in
      let st = n.stands in
      let j = own_cell k i in
      let cell' = put v.cell j (cell_word item) in
      let own = slots_in t.area t.words.word r.source item in
      let less = member a0 tt n in
      let within = st.at.0 in
      let known = known-first t r items item st.known in
      let list : todo_of t r.source a0 ≡ todo_of t r.source b ++ own = todo-last t.area t.words.word r.source (in_hand t r.source next) a.hand items item in
      let here : (z : ℕ) → InCell t r.source cell' j z → In z own = λ z c.
      subst (λ (p : Item). In z (slots_in t.area t.words.word r.source p)) (same-item c.0 item (sym c.1 ∙ put-same v.cell j (cell_word item))) c.2 in
      let there : (d z : ℕ) → d ≢ j → InCell t r.source cell' d z →
      InCell t r.source v.cell d z = λ d z h c. (c.0, sym (put-other v.cell j (cell_word item) d h) ∙ c.1, c.2) in
      record {
        round = r;
        later = record {
          blocks = λ b h. refl;
          bits = λ b i e. e;
          moves = λ x h. (h, refl);
          fails = λ x h. h;
          more = le_refl (length r.moves + length r.fails);
          whole = λ x h. h;
          slots = λ s h. h;
          sources = λ s h. refl;
          heads = λ x h. (refl, refl);
          owns = λ d at z y m e. (e, refl);
          claims = λ d at z y m e. e;
          cells = λ d c m l e. put-other v.cell j (cell_word item) (own_cell d c) (λ f. m (let g : d ≡ k = omega arith in g)) ∙ e;
        };
        going = moved-about n.going
            (λ z h. elim h [
              | inl o ↦ inl o
              | inr h ↦ elim h [
                | inl m ↦ inr (inl (subst (λ (l : List ℕ). In z l) (sym list) (in-left z (todo_of t r.source b) own m)))
                | inr c ↦ elim (cases_eq c.0 j) [
                  | inl e ↦ inr (inl (subst (λ (l : List ℕ). In z l) (sym list)
                      (in-right z (todo_of t r.source b) own (here z (subst (λ (d : ℕ). InCell t r.source cell' d z) e c.1)))))
                  | inr d ↦ inr (inr (c.0, there c.0 z d c.1))
                ]
              ]
            ])
            (λ z h. elim h [
              | inl o ↦ inl o
              | inr h ↦ elim h [
                | inl m ↦ elim (in-cases z (todo_of t r.source b) own (subst (λ (l : List ℕ). In z l) list m)) [
                  | inl m ↦ inr (inl m)
                  | inr m ↦ inr (inr (j, (item, put-same v.cell j (cell_word item), m)))
                ]
                | inr c ↦ elim (cases_eq c.0 j) [
                  | inl e ↦ absurd (no-item c.1.0 (sym c.1.1 ∙ ap v.cell e ∙ saw))
                  | inr d ↦ inr (inr (c.0, (c.1.0, put-other v.cell j (cell_word item) c.0 d ∙ c.1.1, c.1.2)))
                ]
              ]
            ]);
        claims = n.claims;
        cards = n.cards;
        cells = record {
          filled = λ d. elim (cases_eq d j) [
            | inl e ↦ inr (item, put-at v.cell j (cell_word item) d e, known.1)
            | inr h ↦ elim (n.cells.filled d) [
              | inl e ↦ inl (put-other v.cell j (cell_word item) d h ∙ e)
              | inr e ↦ inr (e.0, put-other v.cell j (cell_word item) d h ∙ e.1, e.2)
            ]
          ];
          beyond = λ d l. put-other v.cell j (cell_word item) d (λ e. absurd (omega arith)) ∙ n.cells.beyond d l;
        };
        stands = record {
          member = inl less;
          spares = st.spares;
          claims = st.claims;
          classes = st.classes;
          passed = st.passed;
          known = known.0;
          few = (let f = st.few in let l = length-last items item in omega arith);
          at = offered-mid t v r k a.spare (items ++ item ∷ []) items a.hand next cell' st.at.4 st.at.3;
        };
        told = nothing r;
        single = λ q. offered-single (InCell t r.source cell') j (todo_of t r.source b) own r.handled here there
            (subst (λ (l : List ℕ). IsSingle others (InCell t r.source v.cell) l r.handled) list q);
      }

  -- a worker that looks at the i-th cell has nothing to do, and has seen the own cells before it empty
  looking : (a : Worker) (i : ℕ) → IsLooking a i → Before t others k v r a →
      IsAwake a.mid × (in_hand t r.source a.mid ≡ []) × ((at z : ℕ) → IsFilling at z a.mid → ⊥) × (i < 8 * t.team) × AreEmpty v k i
  looking a i is n = elim is.at [
    | inl e ↦ (
      subst IsAwake (sym e.0) tt,
      ap (in_hand t r.source) e.0,
      λ at z h. subst (λ (m : Mid). IsFilling at z m) e.0 h,
      (let some = n.opening.limits.some in let z = e.1 in omega arith),
      λ d l m. absurd (let z = e.1 in omega arith),
    )
    | inr e ↦ (let q = subst (λ (m : Mid). AtMid t v r k a.spare a.list a.hand m) e n.stands.at in (
      subst IsAwake (sym e) tt,
      ap (in_hand t r.source) e,
      λ at z h. subst (λ (m : Mid). IsFilling at z m) e h,
      q.2,
      q.3,
    ))
  ]

  -- the i-th cell is seen empty too
  one-more : (a : Worker) (i : ℕ) → IsLooking a i → v.cell (looked_cell t.team k i) ≡ 0 → Before t others k v r a → AreEmpty v k (i + 1)
  one-more a i is saw n d l m = let f = looking a i is n in elim (cases_eq d i) [
    | inl e ↦ ap v.cell (ap (own_cell k) e ∙ sym (own-looked i (member a f.0 n) (let g = e in omega arith))) ∙ saw
    | inr h ↦ f.4 d (omega arith) m
  ]
    where
      own-looked : (i : ℕ) → k < t.team → i < 8 → looked_cell t.team k i ≡ own_cell k i
      own-looked i l m = mod-eq_of_lt (omega arith)

  pub seeks-on : (a : Worker) (i : ℕ) → IsLooking a i → i + 1 < 8 * t.team → v.cell (looked_cell t.team k i) ≡ 0 → Before t others k v r a →
      Kept t others k v r a Nothing v (record a { mid = Seek (i + 1) })
  seeks-on a i is more saw n = let f = looking a i is n in
      walks a (Seek (i + 1)) n f.0 (sym f.1) (λ at z h. absurd (f.2 at z h)) (is.nothing.0, is.nothing.1, more, one-more a i is saw n)

  pub ended-search : (a : Worker) (i : ℕ) → IsLooking a i → 8 * t.team ≤ i + 1 → v.cell (looked_cell t.team k i) ≡ 0 → Before t others k v r a →
      Kept t others k v r a Nothing v (record a { mid = Over })
  ended-search a i is last saw n = let f = looking a i is n in let some = n.opening.limits.some in
      walks a Over n f.0 (sym f.1) (λ at z h. absurd (f.2 at z h)) (is.nothing.0, is.nothing.1, λ d l m. one-more a i is saw n d (omega arith) m)

  pub item-found : (a : Worker) (i : ℕ) (item : Item) → IsLooking a i → v.cell (looked_cell t.team k i) ≡ cell_word item → Before t others k v r a →
      Kept t others k v r a Nothing v (record a { mid = Grab i item })
  item-found a i item is saw n = let f = looking a i is n in
      walks a (Grab i item) n f.0 (sym f.1) (λ at z h. absurd (f.2 at z h))
      (is.nothing.0, is.nothing.1, f.3, f.4, cell-known t r v.cell (looked_cell t.team k i) item n.cells saw)

  pub take-lost : (a : Worker) (i : ℕ) (item : Item) → Before t others k v r (record a { mid = Grab i item }) →
      Kept t others k v r (record a { mid = Grab i item }) Nothing v (record a { mid = Seek i })
  take-lost a i item n = let q = n.stands.at in walks (record a { mid = Grab i item }) (Seek i) n tt refl (λ at z h. h) (q.0, q.1, q.2, q.3)

  pub item-taken : (a : Worker) (i : ℕ) (item : Item) → v.cell (looked_cell t.team k i) ≡ cell_word item →
      Before t others k v r (record a { mid = Grab i item }) →
      Kept t others k v r (record a { mid = Grab i item }) Nothing (record v { cell = put v.cell (looked_cell t.team k i) 0 }) (record a { mid = Took item })
  item-taken a i item saw n =
      let a0 : Worker = record a { mid = Grab i item } in
      let b : Worker = record a { mid = Took item } in
      let st = n.stands in
      let q = st.at in
      let j = looked_cell t.team k i in
      let cell' = put v.cell j 0 in
      let own = slots_in t.area t.words.word r.source item in
      let none : todo_of t r.source a0 ≡ [] = ap (λ (l : List ℕ). l ++ slots_of t.area t.words.word r.source a.list) q.1
      ∙ ap (slots_of t.area t.words.word r.source) q.0 in
      let list : todo_of t r.source b ≡ own = ap (λ (l : List ℕ). own ++ l) none ∙ append-nil own in
      let full : (z : ℕ) → In z own → InCell t r.source v.cell j z = λ z h. (item, saw, h) in
      let empty : (d : ℕ) → d ≡ j → cell' d ≡ 0 = λ d e. put-at v.cell j 0 d e in
      let there : (d z : ℕ) → InCell t r.source cell' d z → (d ≢ j) × InCell t r.source v.cell d z = λ d z c. elim (cases_eq d j) [
        | inl e ↦ absurd (no-item c.0 (sym c.1 ∙ empty d e))
        | inr h ↦ (h, (c.0, sym (put-other v.cell j 0 d h) ∙ c.1, c.2))
      ] in
      let zero : (d : ℕ) → v.cell d ≡ 0 → cell' d ≡ 0 = λ d e. elim (cases_eq d j) [
        | inl f ↦ empty d f
        | inr h ↦ put-other v.cell j 0 d h ∙ e
      ] in
      record {
        round = r;
        later = record {
          blocks = λ b h. refl;
          bits = λ b i e. e;
          moves = λ x h. (h, refl);
          fails = λ x h. h;
          more = le_refl (length r.moves + length r.fails);
          whole = λ x h. h;
          slots = λ s h. h;
          sources = λ s h. refl;
          heads = λ x h. (refl, refl);
          owns = λ d at z y m e. (e, refl);
          claims = λ d at z y m e. e;
          cells = λ d c m l e. zero (own_cell d c) e;
        };
        going = moved-about n.going
            (λ z h. elim h [
              | inl o ↦ inl o
              | inr h ↦ elim h [
                | inl m ↦ inr (inr (j, full z (subst (λ (l : List ℕ). In z l) list m)))
                | inr c ↦ inr (inr (c.0, (there c.0 z c.1).1))
              ]
            ])
            (λ z h. elim h [
              | inl o ↦ inl o
              | inr h ↦ elim h [
                | inl m ↦ absurd (let g = subst (λ (l : List ℕ). In z l) none m in cc)
                | inr c ↦ elim (cases_eq c.0 j) [
                  | inl e ↦ inr (inl (subst (λ (l : List ℕ). In z l) (sym list)
                      (subst (λ (p : Item). In z (slots_in t.area t.words.word r.source p)) (same-item c.1.0 item (sym c.1.1 ∙ ap v.cell e ∙ saw)) c.1.2)))
                  | inr d ↦ inr (inr (c.0, (c.1.0, put-other v.cell j 0 c.0 d ∙ c.1.1, c.1.2)))
                ]
              ]
            ]);
        claims = n.claims;
        cards = n.cards;
        cells = record {
          filled = λ d. elim (cases_eq d j) [
            | inl e ↦ inl (empty d e)
            | inr h ↦ elim (n.cells.filled d) [
              | inl e ↦ inl (zero d e)
              | inr e ↦ inr (e.0, put-other v.cell j 0 d h ∙ e.1, e.2)
            ]
          ];
          beyond = λ d l. zero d (n.cells.beyond d l);
        };
        stands = record {
          member = inl (member a0 tt n);
          spares = st.spares;
          claims = claims-as a0 (Took item) n (λ at z h. h);
          classes = st.classes;
          passed = st.passed;
          known = st.known;
          few = st.few;
          at = (q.4, q.1);
        };
        told = nothing r;
        single = λ h. single-as own (todo_of t r.source b) r.handled (λ s o. o) (λ d s c. c) (sym list)
            (grabbed-single (InCell t r.source cell') j own r.handled (item-distinct t.area t.words.word r.source item) full there
            (subst (λ (l : List ℕ). IsSingle others (InCell t r.source v.cell) l r.handled) none h));
      }
