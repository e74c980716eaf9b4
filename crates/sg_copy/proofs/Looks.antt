-- A slot's target is looked at, over any port.
use Rattle.std.proofs.Common.{◌≡◌, ◌≢◌, ℕ, ◌+◌, ◌<◌, ◌≤◌, ◌^◌, ◌⊎◌, nat_le, nat_lt, [], ◌∷◌, inl, inr, refl, sym, ◌∙◌, subst, arith}
use Rattle.std.proofs.lemmas.Bool.{cases_eq, cases_lt, cond-true, cond-false, lt-ltb, le-ltb, le-leb, lt-leb}
use Rattle.sg_words.specs.Address.{byte_at, word_at}
use Rattle.sg_words.specs.Tags.{plain_word, forward_word}
use Rattle.sg_words.specs.Words.{put}
use Rattle.sg_words.specs.declared.steps.Place.TheVariants.{Word, Card}
use Rattle.sg_words.specs.declared.steps.Step.TheVariants.{Load, Store}
use Rattle.sg_words.specs.declared.steps.Call.TheVariants.{Loads, Stores}
use Rattle.sg_words.specs.Programs.{SeesNext}
use Rattle.sg_round.specs.Area.{Area, IsYoung, IsFixed, HasCard, card_at}
use Rattle.sg_round.specs.Items.{SlotOf}
use Rattle.sg_round.specs.Worker.{Object, Mid, Idle, On as OnSlot, Look, Size, Body, Send, Dirty, size_for, looking}
use Rattle.sg_round.specs.Rules.{Nothing, Ends, Comes}
use Rattle.sg_round.specs.Rules.Comes.{sees_none, sees, looks_forwarded, looks_fixed, looks_bare, looks_plain, has_spare, has_none, sends, dirties}
use Rattle.sg_copy.specs.Telling.{Seat, Teller, Tells, IsSaneTeller, at}
use Rattle.sg_copy.specs.State.{staying}
use Rattle.sg_copy.specs.Turning.{IsNextOf}
use Rattle.sg_copy.proofs.Ports.{Ports, On, Gone, Started, Did, may_at, did_at, may_now, saw_now, on_now, one_step, started}
use Rattle.sg_copy.proofs.Seen.{IsFirst, saw_at}
use Rattle.sg_copy.proofs.Places.{looking_sane}

-- whether the slot has a card
pub cards : (area : Area) (s : ℕ) → (HasCard area s × (staying area s ≡ OnSlot s Dirty)) ⊎ ((HasCard area s → ⊥) × (staying area s ≡ Idle))
cards area s = elim (cases_lt s area.high) [
  | inl l ↦ inr (λ has. absurd (let h = has.0 in omega arith), cond-false (nat_le area.high s) _ _ (lt-leb area.high s l))
  | inr l ↦ elim (cases_lt s area.rows) [
    | inl m ↦ inl ((l, m), cond-true (nat_le area.high s) _ _ (le-leb area.high s l) ∙ cond-true (nat_lt s area.rows) _ _ (lt-ltb s area.rows m))
    | inr m ↦ inr (
      λ has. absurd (let h = has.1 in omega arith),
      cond-true (nat_le area.high s) _ _ (le-leb area.high s l) ∙ cond-false
          (nat_lt s area.rows) _ _ (le-ltb s area.rows m),
    )
  ]
]

module _ {P : Type 0} (o : Ports P) (seat : Seat) (t : Teller) (s : ℕ) where
  -- the slot has a card, which is marked
  module _ (p : P) (on : On o seat p (at t (OnSlot s Dirty))) where
    dirty_next : Tells seat (at t (OnSlot s Dirty)) (Store (Card (card_at seat.area s)) 1) (at t Idle)
    dirty_next = (Ends s, dirties t.worker s, refl, refl)

    pub card_may : o.may p (Stores (Card (card_at seat.area s)) 1)
    card_may = may_now o seat (at t (OnSlot s Dirty)) (at t Idle) p on (Store (Card (card_at seat.area s)) 1) dirty_next

    pub card_marked : (q : P) → o.sees p (Store (Card (card_at seat.area s)) 1) → o.leads p (Store (Card (card_at seat.area s)) 1 ∷ []) q →
        Gone o seat (at t (OnSlot s Dirty)) p (at t Idle) q
    card_marked q saw led = one_step o seat (at t (OnSlot s Dirty)) (at t Idle) p on (Store (Card (card_at seat.area s)) 1) dirty_next q (saw, led) (λ h. h)

  -- the slot is stored
  module _ (to : ℕ) (p : P) (on : On o seat p (at t (OnSlot s (Send to)))) where
    send_next : Tells seat (at t (OnSlot s (Send to))) (Store (Word s) (byte_at to)) (at t Idle)
    send_next = (Ends s, sends t.worker s to, refl, refl)

    pub send_may : o.may p (Stores (Word (word_at (byte_at s))) (byte_at to))
    send_may = may_at o seat (λ w. Stores (Word w) (byte_at to)) s p
        (may_now o seat (at t (OnSlot s (Send to))) (at t Idle) p on (Store (Word s) (byte_at to)) send_next)

    pub sent_on : (q : P) → o.sees p (Store (Word (word_at (byte_at s))) (byte_at to)) → o.leads p (Store (Word (word_at (byte_at s))) (byte_at to) ∷ []) q →
        Gone o seat (at t (OnSlot s (Send to))) p (at t Idle) q
    sent_on q saw led = one_step o seat (at t (OnSlot s (Send to))) (at t Idle) p on (Store (Word s) (byte_at to)) send_next q
        (did_at o seat (λ w. Store (Word w) (byte_at to)) s p q saw led) (λ h. h)

  -- the target's first word is loaded
  module _ (x : ℕ) (p : P) (on : On o seat p (at t (OnSlot s (Look x)))) where
    abbrev look : Teller
    look = at t (OnSlot s (Look x))

    pub look_may : o.may p (Loads (Word (word_at (byte_at x))))
    look_may = may_at o seat (λ w. Loads (Word w)) x p
        (may_now o seat look (at t (OnSlot s (Size x 0))) p on (Load (Word x) (plain_word 0)) (Nothing, looks_plain t.worker s x 0, refl, refl))

    module _ (v : ℕ) (q : P) (saw : o.sees p (Load (Word (word_at (byte_at x))) v)) (led : o.leads p (Load (Word (word_at (byte_at x))) v ∷ []) q) where
      did : Did o seat p (Load (Word x) v) q
      did = did_at o seat (λ w. Load (Word w) v) x p q saw led

      next : SeesNext (Tells seat) (IsSaneTeller seat) look (Load (Word x) v)
      next = saw_now o seat look (at t (OnSlot s (Size x 0))) p on (Load (Word x) (plain_word 0)) (Nothing, looks_plain t.worker s x 0, refl, refl)
          (Load (Word x) v) refl did.0

      step_to : (b : Teller) → Tells seat look (Load (Word x) v) b → On o seat q b × Gone o seat look p b q
      step_to b n = (on_now o seat look b p on (Load (Word x) v) n q did, one_step o seat look b p on (Load (Word x) v) n q did (λ h. h))

      pub plain_seen : (class : ℕ) → v ≡ plain_word class → On o seat q (at t (OnSlot s (Size x class))) × Gone o seat look p (at t (OnSlot s (Size x class))) q
      plain_seen class e = step_to (at t (OnSlot s (Size x class))) (
        Nothing,
        subst (λ u. Comes seat.area seat.team seat.number look.worker (Load (Word x) u) Nothing (at t (OnSlot s (Size x class))).worker)
            (sym e) (looks_plain t.worker s x class),
        refl,
        refl,
      )

      pub forwarded_seen : (to : ℕ) → v ≡ forward_word (byte_at to) → On o seat q (at t (OnSlot s (Send to))) × Gone o seat look p (at t (OnSlot s (Send to))) q
      forwarded_seen to e = step_to (at t (OnSlot s (Send to))) (
        Nothing,
        subst (λ u. Comes seat.area seat.team seat.number look.worker (Load (Word x) u) Nothing (at t (OnSlot s (Send to))).worker)
            (sym e) (looks_forwarded t.worker s x to),
        refl,
        refl,
      )

      fixed_seen : (class : ℕ) → IsFixed class v → On o seat q (at t (staying seat.area s)) × Gone o seat look p (at t (staying seat.area s)) q
      fixed_seen class is = elim (cards seat.area s) [
        | inl has ↦ subst (λ (mid : Mid). On o seat q (at t mid) × Gone o seat look p (at t mid) q) (sym has.1)
            (step_to (at t (OnSlot s Dirty)) (Nothing, looks_fixed t.worker s x class v is has.0, refl, refl))
        | inr has ↦ subst (λ (mid : Mid). On o seat q (at t mid) × Gone o seat look p (at t mid) q) (sym has.1)
            (step_to (at t Idle) (Ends s, looks_bare t.worker s x class v is has.0, refl, refl))
      ]

      -- a word that is neither a plain one nor a forwarding one is that of an object which stays
      pub staying_seen : ((class : ℕ) → class < 256 → v ≡ plain_word class → ⊥) → ((to : ℕ) → 512 ≤ to → to < 2 ^ 37 → v ≡ forward_word (byte_at to) → ⊥) →
          On o seat q (at t (staying seat.area s)) × Gone o seat look p (at t (staying seat.area s)) q
      staying_seen plain forwarded = elim (first) [
        | inl f ↦ absurd (let sane = (step_to (at t (OnSlot s (Send f.0))) (forward_next f.0 f.1)).0.guided.is_sane.worker in
            let l = sane.at.1 in let lim = sane.limits in forwarded f.0 (let a = lim.above in let b = lim.nursery in omega arith)
            (let b = lim.sections in let c = lim.small in omega arith) f.1)
        | inr g ↦ elim g [
          | inl is ↦ fixed_seen is.0 is.1
          | inr is ↦ absurd (plain is.0 ((plain_seen is.0 is.1).0.guided.is_sane.worker.at.1.2) is.1)
        ]
      ]
        where
          first : IsFirst v
          first = saw_at seat.area seat.team seat.number look.worker (Load (Word x) v) next.0.1.0 next.0.0.worker next.0.1.1

          forward_next : (to : ℕ) → v ≡ forward_word (byte_at to) → Tells seat look (Load (Word x) v) (at t (OnSlot s (Send to)))
          forward_next to e = (
            Nothing,
            subst (λ u. Comes seat.area seat.team seat.number look.worker (Load (Word x) u) Nothing (at t (OnSlot s (Send to))).worker) (sym e)
                (looks_forwarded t.worker s x to),
            refl,
            refl,
          )

  -- its length is loaded
  module _ (x class : ℕ) (p : P) (on : On o seat p (at t (OnSlot s (Size x class)))) where
    abbrev sizing : Teller
    sizing = at t (OnSlot s (Size x class))

    abbrev object : ℕ → Object
    object n = record { x = x; class = class; n = n }

    abbrev pub spared : ℕ → Teller
    spared n = record t {
      worker =
          record (t.worker) { spare = put t.worker.spare (size_for (object n)) 0; mid = OnSlot s (Body (object n) (t.worker.spare (size_for (object n))) 1) };
    }

    abbrev pub searching : ℕ → Teller
    searching n = at t (OnSlot s (looking seat.area (object n) (t.worker.passed (size_for (object n)))))

    spare_next : (n : ℕ) → t.worker.spare (size_for (object n)) ≢ 0 → Tells seat sizing (Load (Word (x + 1)) n) (spared n)
    spare_next n some = (Nothing, has_spare t.worker s (object n) some, refl, refl)

    search_next : (n : ℕ) → t.worker.spare (size_for (object n)) ≡ 0 → Tells seat sizing (Load (Word (x + 1)) n) (searching n)
    search_next n none = (Nothing, has_none t.worker s (object n) none, refl, refl)

    pub size_may : o.may p (Loads (Word (word_at (byte_at (x + 1)))))
    size_may = may_at o seat (λ w. Loads (Word w)) (x + 1) p (elim (cases_eq (t.worker.spare (size_for (object 0))) 0) [
      | inl none ↦ may_now o seat sizing (searching 0) p on (Load (Word (x + 1)) 0) (search_next 0 none)
      | inr some ↦ may_now o seat sizing (spared 0) p on (Load (Word (x + 1)) 0) (spare_next 0 some)
    ])

    module _ (n : ℕ) (q : P) (saw : o.sees p (Load (Word (word_at (byte_at (x + 1)))) n))
        (led : o.leads p (Load (Word (word_at (byte_at (x + 1)))) n ∷ []) q) where
      did_size : Did o seat p (Load (Word (x + 1)) n) q
      did_size = did_at o seat (λ w. Load (Word w) n) (x + 1) p q saw led

      pub spare_used : t.worker.spare (size_for (object n)) ≢ 0 → On o seat q (spared n) × Gone o seat sizing p (spared n) q
      spare_used some = (
        on_now o seat sizing (spared n) p on (Load (Word (x + 1)) n) (spare_next n some) q did_size,
        one_step o seat sizing (spared n) p on (Load (Word (x + 1)) n) (spare_next n some) q did_size (λ h. h),
      )

      pub none_spare : t.worker.spare (size_for (object n)) ≡ 0 → On o seat q (searching n) × Gone o seat sizing p (searching n) q
      none_spare none = (
        on_now o seat sizing (searching n) p on (Load (Word (x + 1)) n) (search_next n none) q did_size,
        one_step o seat sizing (searching n) p on (Load (Word (x + 1)) n) (search_next n none) q did_size (λ h. h),
      )

      pub size_short : n ≤ 62
      size_short = elim (cases_eq (t.worker.spare (size_for (object n))) 0) [
        | inl none ↦ (looking_sane seat.area s (object n) (t.worker.passed (size_for (object n))) (none_spare none).0.guided.is_sane.worker.at.1).short
        | inr some ↦ (spare_used some).0.guided.is_sane.worker.at.1.0.short
      ]

  -- the slot is loaded
  module _ (a : Teller) (isn : IsNextOf a (SlotOf s) (at t Idle)) (p : P) (on : On o seat p a) where
    empty_next : (v : ℕ) → ((x : ℕ) → v ≡ byte_at x → IsYoung seat.area x → ⊥) → Tells seat a (Load (Word s) v) (at t Idle)
    empty_next v none = (Ends s, sees_none a.worker (at t Idle).worker s v isn.next none, isn.moves, isn.fails)

    pub slot_may : o.may p (Loads (Word (word_at (byte_at s))))
    slot_may = may_at o seat (λ w. Loads (Word w)) s p (may_now o seat a (at t Idle) p on (Load (Word s) 1)
        (empty_next 1 (λ x e y. absurd (omega arith))))

    module _ (v : ℕ) (q : P) (saw : o.sees p (Load (Word (word_at (byte_at s))) v)) (led : o.leads p (Load (Word (word_at (byte_at s))) v ∷ []) q) where
      did_slot : Did o seat p (Load (Word s) v) q
      did_slot = did_at o seat (λ w. Load (Word w) v) s p q saw led

      pub slot_empty : ((x : ℕ) → v ≡ byte_at x → IsYoung seat.area x → ⊥) → Started o seat a p (at t Idle) q
      slot_empty none = started o seat a (at t Idle) p on (Load (Word s) v) (empty_next v none) q did_slot

      young_next : (x : ℕ) → v ≡ byte_at x → IsYoung seat.area x → Tells seat a (Load (Word s) v) (at t (OnSlot s (Look x)))
      young_next x e young = (
        Nothing,
        subst (λ u. Comes seat.area seat.team seat.number a.worker (Load (Word s) u) Nothing (at t (OnSlot s (Look x))).worker) (sym e)
            (sees a.worker (at t Idle).worker s x isn.next young),
        isn.moves,
        isn.fails,
      )

      pub slot_full : (x : ℕ) → v ≡ byte_at x → IsYoung seat.area x → On o seat q (at t (OnSlot s (Look x))) × Started o seat a p (at t (OnSlot s (Look x))) q
      slot_full x e young = (
        on_now o seat a (at t (OnSlot s (Look x))) p on (Load (Word s) v) (young_next x e young) q did_slot,
        started o seat a (at t (OnSlot s (Look x))) p on (Load (Word s) v) (young_next x e young) q did_slot,
      )
