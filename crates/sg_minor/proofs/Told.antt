-- What a minor pause keeps, and what its report tells.
use Rattle.std.proofs.Common.{◌≡◌, ◌≢◌, ℕ, ◌+◌, ◌-◌, ◌*◌, ◌≤◌, ◌<◌, ◌⊎◌, min, le_refl, [], ◌∷◌, eqb, cond, Bool, true, false, List, ◌++◌, Contains, sym, refl, ap, ◌∙◌, subst, inl, inr, arith}
use Rattle.std.proofs.lemmas.Bool.{cond-true, cond-false, cases_eq, eq-eqb, ne_eqb}
use Rattle.sg_words.specs.Address.{byte_at}
use Rattle.sg_words.specs.declared.pieces.Move.{Move}
use Rattle.sg_graph.specs.declared.reports.MinorReport.{MinorReport}
use Rattle.sg_graph.specs.Book.{Young, Old, nursery_end, slot_at, slot_words, IsWordOf, IsApart, IsInBlock, IsInSlot, IsEmptySlot, IsShut}
use Rattle.sg_words.specs.Sections.{nursery_base}
use Rattle.sg_graph.specs.Pause.{IsPinned, StandsYoung}
use Rattle.sg_graph.specs.Tiling.{IsCovered, IsTiled, IsGap as IsGapOf}
use Rattle.sg_graph.specs.Minor.{IsLoose, HasMoved, HasFailed, IsOpen, IsLeftOver, AtMost, FewerThan, copiers, IsStill, Keeping, Staying, Telling, Tidying, IsMinorPause, move_of}
use Rattle.sg_graph.specs.Heap.{layout_of}
use Rattle.sg_round.specs.Area.{IsYoung}
use Rattle.sg_words.specs.Lists.{In, has}
use Rattle.sg_words.specs.Objects.{size_of}
use Rattle.sg_words.proofs.Members.{in-left, in-right, in-cases, not-in}
use Rattle.sg_words.specs.Blocks.{slot_size, slots}
use Rattle.sg_words.specs.declared.steps.BlockWord.{BlockWord}
use Rattle.sg_words.specs.declared.steps.BlockWord.TheVariants.{Swept}
use Rattle.sg_round.specs.Round.{IsPassed}
use Rattle.sg_minor.proofs.Mirrors.{AreBlocksBy, same-size, slot-some, in_block, passed_shut}
use Rattle.sg_nursery.specs.Pieces.{IsTaken, IsGap}
use Rattle.sg_minor.specs.Joined.{ArePins, IsKept}
use Rattle.sg_minor.specs.Law.{IsReportOf}
use Rattle.sg_minor.proofs.Names.{of-same, some-name, name-some, exactly}
use Rattle.sg_minor.proofs.Tiles.{next-beyond, limit-beyond}
use Rattle.sg_minor.proofs.After.{Ended, lies, sizes, one-name, names, kept-young, section-young, stands_on, stood, is-kept, stands-nothing, stands-kept, address_of, section_of, booked, at-sent, moved-section, gone-still, stays-still, old-still, Place, Stayed, Moved, Older, place, nil-still, tile-of, taken, owns}

module _ (c : Ended) where
  young-not-old : (n : ℕ) → section_of c n ≡ Old → section_of c n ≡ Young → ⊥
  young-not-old n o y = let e : Young ≡ Old = sym y ∙ o in cc

  old-not-young : (n : ℕ) → 1 ≤ n → c.b.stands n ≡ true → c.b.section n ≡ Old → IsYoung c.area (c.b.address n) → ⊥
  old-not-young n l s o y = let e : Young ≡ Old = sym (section-young c n s y) ∙ o in cc

  -- no word is of two objects
  apart : IsApart c.p c.g (booked c)
  apart = record {
    apart = λ k n x a e. of-same k n (sym (owns c k x a.stands a.above a.below) ∙ owns c n x e.stands e.above e.below);
    inside = λ n x a y. young-inside n x a y (place c n (name-some n a.some) a.stands);
  }
    where
      young-inside : (n x : ℕ) → IsWordOf c.g (booked c) n x → section_of c n ≡ Young → Place c n → (nursery_base ≤ x) × (x < nursery_end c.p)
      young-inside n x a y (Stayed i h q e) = let l = a.above in let u = a.below in let low = i.above in let high = i.below in (omega arith, omega arith)
      young-inside n x a y (Moved i h q l u) = absurd (young-not-old n q y)
      young-inside n x a y (Older o q e) = absurd (young-not-old n q y)

  -- a word is a standing young object's where an object that stayed has it
  covered-taken : (x : ℕ) → IsCovered c.g (booked c) x → IsTaken c.standing x
  covered-taken x h = go (place c h.0 (name-some h.0 h.2.some) h.2.stands)
    where
      go : Place c h.0 → IsTaken c.standing x
      go (Stayed i s q e) =
          let l = h.2.above in
          let u = h.2.below in
          let size = sizes c h.0 (name-some h.0 h.2.some) (stood c h.0 h.2.stands) in
          taken c (c.b.address h.0) x s (omega arith) (omega arith)
      go (Moved i s q l u) = absurd (young-not-old h.0 q h.1)
      go (Older o q e) = absurd (young-not-old h.0 q h.1)

  taken-covered : (x : ℕ) → IsTaken c.standing x → IsCovered c.g (booked c) x
  taken-covered x h =
      let q = (c.words x).0 h in
      let a = q.0 in
      let k = names c a (inl q.1) in
      let at = k.at in
      let here : In (c.b.address k.name) c.stays = subst (λ z. In z c.stays) (sym at) q.1 in
      let still = stays-still c k.name here in
      let e = still.address in
      let size = sizes c k.name k.some k.stands in
      let size-at : size_of c.w (c.b.address k.name) ≡ size_of c.w a = ap (λ (z : ℕ). size_of c.w z) at in
      let l = q.2 in
      let u = q.3 in (
        k.name,
        still.section ∙ section-young c k.name k.stands (kept-young c (c.b.address k.name) (inl here)),
        record { some = some-name k.name k.some; stands = stands-kept c k.name k.stands (λ _. inl here); above = omega arith; below = omega arith },
      )

  -- the gaps between what stayed are those between the standing young objects
  gap-of : (x n : ℕ) → IsGap (layout_of c.p) c.standing x n → IsGapOf c.p c.g (booked c) x n
  gap-of x n gap = record {
    some = gap.some;
    from = gap.from;
    within = gap.within;
    free = λ y l u h. gap.free y l u (covered-taken y h);
    before = elim gap.before [
      | inl e ↦ inl e
      | inr h ↦ inr (h.0, h.1, taken-covered h.0 h.2)
    ];
    behind = elim gap.behind [
      | inl e ↦ inl e
      | inr h ↦ inr (taken-covered (x + n) h)
    ];
  }

  of-gap : (x n : ℕ) → IsGapOf c.p c.g (booked c) x n → IsGap (layout_of c.p) c.standing x n
  of-gap x n gap = record {
    some = gap.some;
    from = gap.from;
    within = gap.within;
    free = λ y l u h. gap.free y l u (taken-covered y h);
    before = elim gap.before [
      | inl e ↦ inl e
      | inr h ↦ inr (h.0, h.1, covered-taken h.0 h.2)
    ];
    behind = elim gap.behind [
      | inl e ↦ inl e
      | inr h ↦ inr (covered-taken (x + n) h)
    ];
  }

  tiled : IsTiled c.p c.g (booked c) c.pieces
  tiled = record {
    in_order = c.tiles.in_order;
    each = λ piece h. (let q = c.tiles.each piece h in (q.0, q.1, q.2, gap-of q.0 q.1 q.3));
    all = λ x n gap. c.tiles.all x n (of-gap x n gap);
    fragments = refl;
    next = λ f l. sym (tile-of c f l).front_at;
    limit = λ f l. sym (tile-of c f l).end_at;
    beyond = λ f l. (next-beyond c.pieces f l, limit-beyond c.pieces f l);
  }

  module _ (block : ℕ → BlockWord) (used : ℕ → ℕ) (by : AreBlocksBy c.p c.g (booked c) block used) where
    slot-taken : (j z i n : ℕ) → IsInSlot c.p c.g (booked c) n j z i → IsEmptySlot c.p c.g (booked c) j z i → ⊥
    slot-taken j z i n h empty =
        let some = slot-some (c.g.size n) in
        let size = h.sized in
        let at = h.at in
        empty n (address_of c n) (record { some = h.some; stands = h.stands; above = le_refl _; below = omega arith }) (omega arith) (omega arith)

    -- a block that is shut for an object isn't open for it
    shut-open : (z j : ℕ) → IsShut c.p c.g (booked c) j z → IsOpen c.p c.g (booked c) z j → ⊥
    shut-open z j (inl n) o = n.2 (o.size n.0 n.1)
    shut-open z j (inr all) o = let n = all o.slot o.fits in slot-taken j z o.slot n.0 n.1 o.empty

    -- and has no slot left of the blocks that had the object's size
    shut-left : (z x : ℕ) → ((j : ℕ) → j < c.p.config.blocks → IsShut c.p c.g (booked c) j z) → IsLeftOver c.p c.g c.b (booked c) z x → ⊥
    shut-left z x shut l = elim (shut l.block l.there) [
      | inr all ↦ let n = all l.slot l.fits in slot-taken l.block z l.slot n.0 n.1 l.empty
      | inl n ↦
          let m = l.before.0 in
          let h = l.before.1 in
          let still = old-still c m (old-not-young m h.some h.stands h.old) in
          let at = still.address in
          let low = h.above in
          let high = h.below in
          let kept = stands-kept c m h.stands (λ y. absurd (old-not-young m h.some h.stands h.old y)) in
          let here : IsInBlock c.p (booked c) m l.block = record {
            some = h.some;
            stands = kept;
            old = still.section ∙ h.old;
            above = omega arith;
            below = omega
                arith;
          } in
          n.2 (same-size (slot_words (c.g.size n.0)) z (sym (in_block c.p c.g (booked c) block used by n.0 l.block n.1)
          ∙ in_block c.p c.g (booked c) block used by m l.block here ∙ ap Swept l.before.2))
    ]

    none-open : (z : ℕ) → ((j : ℕ) → j < c.p.config.blocks → IsShut c.p c.g (booked c) j z) → (most : ℕ) → AtMost most (IsOpen c.p c.g (booked c) z)
    none-open z shut most [] once each = omega arith
    none-open z shut most (x ∷ xs) once each = absurd (shut-open z x (shut x each.0.there) each.0)

    none-left : (z : ℕ) → ((j : ℕ) → j < c.p.config.blocks → IsShut c.p c.g (booked c) j z) → FewerThan (copiers c.p) (IsLeftOver c.p c.g c.b (booked c) z)
    none-left z shut [] once each = omega arith
    none-left z shut (x ∷ xs) once each = absurd (shut-left z x shut each.0)

    has-moved : (n : ℕ) → n ≢ 0 → c.b.stands n ≡ true → In (c.b.address n) c.moves → HasMoved c.p c.g c.b (booked c) n
    has-moved n d s h =
        let q = c.picture.homes (c.b.address n) h in
        let size : slot_size (size_of c.w (c.b.address n)) ≡ slot_words (c.g.size n) = ap slot_size (sizes c n d s) in
        record {
          block = q.block;
          slot = q.slot;
          goes = record {
            some = some-name n d;
            stands = stands-kept c n s (λ _. inr h);
            old = moved-section c n s h;
            sized = refl;
            there = q.there;
            fits = subst (λ (z : ℕ). q.slot < slots z) size q.fits;
            at = at-sent c n s ∙ q.at ∙ ap (λ (z : ℕ). slot_at c.p q.block z q.slot) size;
          };
          empty = subst (λ (z : ℕ). IsEmptySlot c.p c.g c.b q.block z q.slot) size q.empty;
        }

  module _ (pins fails : List ℕ) (split : c.stays ≡ pins ++ fails) (pinned : ArePins c.g c.b c.ambiguous pins)
      (failed : (a : ℕ) → In a fails → has a pins ≡ false)
      (block : ℕ → BlockWord) (used : ℕ → ℕ) (by : AreBlocksBy c.p c.g (booked c) block used)
      (full : (a j : ℕ) → In a fails → j < c.p.config.blocks → IsPassed block used (slot_size (size_of c.w a)) j) (report : MinorReport)
      (told : IsReportOf report pins c.moves fails c.m) where
    pin-stays : (a : ℕ) → In a pins → In a c.stays
    pin-stays a h = subst (λ (l : List ℕ). In a l) (sym split) (in-left a pins fails h)

    fail-stays : (a : ℕ) → In a fails → In a c.stays
    fail-stays a h = subst (λ (l : List ℕ). In a l) (sym split) (in-right a pins fails h)

    -- what stays is pinned or has failed
    stays-cases : (a : ℕ) → In a c.stays → In a pins ⊎ In a fails
    stays-cases a h = in-cases a pins fails (subst (λ (l : List ℕ). In a l) split h)

    pin-stands : (n : ℕ) → IsPinned c.g c.b c.ambiguous n → stands_on c n ≡ true
    pin-stands n h = stands-kept c n h.0.1 (λ _. inl (pin-stays (c.b.address n) (pinned.all n h)))

    -- the name of what is kept
    stands-young : (a : ℕ) (h : IsKept c.stays c.moves a) → StandsYoung c.b (names c a h).name
    stands-young a h = let k = names c a h in (k.some, k.stands, section-young c k.name k.stands (subst (IsYoung c.area) (sym k.at) (kept-young c a h)))

    named-stands : (a : ℕ) (h : IsKept c.stays c.moves a) → stands_on c (names c a h).name ≡ true
    named-stands a h = let k = names c a h in stands-kept c k.name k.stands (λ _. subst (IsKept c.stays c.moves) (sym k.at) h)

    moved-loose : (n : ℕ) → In (c.b.address n) c.moves → IsPinned c.g c.b c.ambiguous n → ⊥
    moved-loose n h q = not-in (c.b.address n) c.moves (c.traced.apart (c.b.address n) (pin-stays (c.b.address n) (pinned.all n q))) h

    failed-loose : (n : ℕ) → In (c.b.address n) fails → IsPinned c.g c.b c.ambiguous n → ⊥
    failed-loose n h q = not-in (c.b.address n) pins (failed (c.b.address n) h) (pinned.all n q)

    abbrev moved-from : (ℕ → ℕ) → ℕ → Move
    moved-from m z = record { from = byte_at z; to = byte_at (m z) }

    -- what is told of an object that moved is where the book has it
    told-to : (n : ℕ) → c.b.stands n ≡ true → moved-from c.m (c.b.address n) ≡ move_of c.b (booked c) n
    told-to n s = ap (λ (z : ℕ). record { from = byte_at (c.b.address n); to = byte_at z }) (sym (at-sent c n s))

    told-move : (move : Move) → Contains report.moves move → (n : ℕ) × IsLoose c.g c.b c.ambiguous (booked c) n × HasMoved c.p c.g c.b (booked c) n ×
        (move ≡ move_of c.b (booked c) n)
    told-move move h =
        let e = (told.moves.exact move).0 h in
        let x = e.0 in
        let k = names c x (inr e.1) in
        let here : In (c.b.address k.name) c.moves = subst (λ z. In z c.moves) (sym k.at) e.1 in (
          k.name,
          record { young = stands-young x (inr e.1); kept = named-stands x (inr e.1); loose = moved-loose k.name here },
          has-moved block used by k.name k.some k.stands here,
          e.2 ∙ ap (moved-from c.m) (sym k.at) ∙ told-to k.name k.stands,
        )

    told-fail : (a : ℕ) → Contains report.fails a → (n : ℕ) × IsLoose c.g c.b c.ambiguous (booked c) n × HasFailed c.p c.g c.b (booked c) report.spares n ×
        (a ≡ byte_at (c.b.address n))
    told-fail a h =
        let e = (told.fails.exact a).0 h in
        let x = e.0 in
        let s = fail-stays x e.1 in
        let k = names c x (inl s) in
        let here : In (c.b.address k.name) fails = subst (λ z. In z fails) (sym k.at) e.1 in
        let size : slot_size (size_of c.w (c.b.address k.name)) ≡ slot_words (c.g.size k.name) = ap slot_size (sizes c k.name k.some k.stands) in
        let shut : (j : ℕ) → j < c.p.config.blocks → IsShut c.p c.g (booked c) j (slot_words (c.g.size k.name)) =
        λ j there. passed_shut c.p c.g (booked c) block used by (slot_words (c.g.size k.name)) j there
        (subst (λ (z : ℕ). IsPassed block used z j) size (full (c.b.address k.name) j here there)) in (
          k.name,
          record { young = stands-young x (inl s); kept = named-stands x (inl s); loose = failed-loose k.name here },
          record {
            still = stays-still c k.name (fail-stays (c.b.address k.name) here);
            few_blocks = none-open block used by (slot_words (c.g.size k.name)) shut (min report.spares (9 * copiers c.p - 1));
            few_slots = none-left block used by (slot_words (c.g.size k.name)) shut;
          },
          e.2 ∙ ap byte_at (sym k.at),
        )

    loose-told : (n : ℕ) → IsLoose c.g c.b c.ambiguous (booked c) n → Contains report.moves (move_of c.b (booked c) n) ⊎ Contains report.fails
        (byte_at (c.b.address n))
    loose-told n h = elim (lies c n h.young.1 h.young.0) [
      | inr o ↦ absurd (let e : Young ≡ Old = sym h.young.2 ∙ o.section in cc)
      | inl i ↦ elim (is-kept c n h.kept i.young) [
        | inr moved ↦ inl ((told.moves.exact (move_of c.b (booked c) n)).1 (c.b.address n, moved, sym (told-to n h.young.1)))
        | inl stays ↦ elim (stays-cases (c.b.address n) stays) [
          | inr fell ↦ inr ((told.fails.exact (byte_at (c.b.address n))).1 (c.b.address n, fell, refl))
          | inl pin ↦ absurd (let q = pinned.each (c.b.address n) pin in h.loose
              (subst (IsPinned c.g c.b c.ambiguous) (one-name c q.0 n q.1.0.1 h.young.1 q.2) q.1))
        ]
      ]
    ]

    tells : Telling c.p c.g c.b c.ambiguous report (booked c)
    tells = record {
      pins_in_order = told.pins.in_order;
      pins = λ a. (
        λ h. (let e = (told.pins.exact a).0 h in let q = pinned.each e.0 e.1 in (q.0, q.1, e.2 ∙ ap byte_at (sym q.2))),
        λ h. (told.pins.exact a).1 (c.b.address h.0, pinned.all h.0 h.1, h.2),
      );
      moves_in_order = told.moves.in_order;
      moves = told-move;
      fails_in_order = told.fails.in_order;
      fails = told-fail;
      loose = loose-told;
      spares = let none = told.spares in omega arith;
    }

    still-or-told : (n : ℕ) → c.b.stands n ≡ true → Place c n → IsStill c.b (booked c) n ⊎ Contains report.moves (move_of c.b (booked c) n)
    still-or-told n s (Stayed i h q e) = inl (stays-still c n h)
    still-or-told n s (Moved i h q l u) = inr ((told.moves.exact (move_of c.b (booked c) n)).1 (c.b.address n, h, sym (told-to n s)))
    still-or-told n s (Older o q e) = inl (record { address = e; section = q ∙ sym o.section })

    -- what stands after the pause, but for nothing
    stays_on : ℕ → Bool
    stays_on n = cond (eqb n 0) false (stands_on c n)

    stays_as : (n : ℕ) → n ≢ 0 → stays_on n ≡ stands_on c n
    unfolding stays_on
    stays_as n d = cond-false _ _ _ (ne_eqb n 0 d)

    among : (n : ℕ) → stays_on n ≡ true → (1 ≤ n) × (n ≤ c.g.count)
    unfolding stays_on
    among n k = elim (cases_eq n 0) [
      | inl e ↦ absurd (let z : false ≡ true = sym (cond-true _ _ _ (eq-eqb n 0 e)) ∙ k in cc)
      | inr d ↦ (some-name n d, c.heap.laid.objects.given n (stood c n (sym (stays_as n d) ∙ k)))
    ]

    keeps : Keeping c.p c.g c.b c.ambiguous c.g (booked c)
    keeps = record {
      kept = stays_on;
      pause = c.law.pause c.p c.g c.b c.ambiguous c.plain stays_on among
          (λ n d. (let e = exactly c.p c.area c.tie c.w c.g c.b c.ambiguous c.owner c.heap c.stays c.moves c.traced c.law c.plain n d in
          ((λ k. e.0 (sym (stays_as n d) ∙ k)), (λ r. stays_as n d ∙ e.1 r))));
      nothing = (stands-nothing c, (nil-still c).address, (nil-still c).section);
      stands = λ n d. sym (stays_as n d);
      stood = stood c;
    }

    stays : Staying c.g c.b c.ambiguous report.moves (booked c)
    stays = record {
      pinned = λ n h. (pin-stands n h, stays-still c n (pin-stays (c.b.address n) (pinned.all n h)));
      still = λ n d k. still-or-told n (stood c n k) (place c n d k);
      gone = gone-still c;
    }

    tidies : c.pieces ≡ report.pieces → Tidying c.p c.b report.pieces c.g (booked c)
    tidies same = record {
      owed = refl;
      tiled = subst (IsTiled c.p c.g (booked c)) same tiled;
      emptied = λ k. (refl, refl);
      sound = record {
        apart = apart;
        slotted = λ n l s o. (let q = by.seated n l s o in (q.block, q.slot, q.seat));
        one_size = λ m n j h k. same-size (slot_words (c.g.size m)) (slot_words (c.g.size n))
            (sym (in_block c.p c.g (booked c) block used by m j h) ∙ in_block c.p c.g (booked c) block used by n j k);
      };
    }

    pub minor : c.pieces ≡ report.pieces → IsMinorPause c.p c.g c.b c.ambiguous report c.g (booked c)
    minor same = record { keeps = keeps; stays = stays; tells = tells; tidies = tidies same }
