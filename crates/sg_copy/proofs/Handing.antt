-- How a worker goes from item to item, over any port.
use Rattle.std.proofs.Common.{◌≡◌, ℕ, ◌+◌, ◌-◌, ◌<◌, ◌≤◌, Bool, List, [], ◌∷◌, map, refl, sym, ap, ◌∙◌, subst, arith}
use Rattle.std.proofs.Math.Path.{fun_ext}
use Rattle.sg_words.specs.Address.{byte_at, word_at}
use Rattle.sg_words.specs.Objects.{strong_slots}
use Rattle.sg_words.proofs.Members.{in-here}
use Rattle.sg_words.specs.declared.steps.Place.TheVariants.{Word}
use Rattle.sg_words.specs.declared.steps.Step.TheVariants.{Load}
use Rattle.sg_words.specs.declared.steps.Call.TheVariants.{Loads}
use Rattle.sg_round.specs.Area.{Area, class_of}
use Rattle.sg_round.specs.Items.{Item, SlotOf, WholeOf, slots_by}
use Rattle.sg_round.specs.Worker.{Worker, Idle, Count}
use Rattle.sg_round.specs.Rules.{Nothing, IsNext, Of_hand, Of_list, Of_cell}
use Rattle.sg_round.specs.Rules.Comes.{opens, counts}
use Rattle.sg_round.specs.Sane.{IsSane, IsSaneItem}
use Rattle.sg_copy.specs.declared.copier.Hand.{Hand}
use Rattle.sg_copy.specs.declared.gray.Gray.{Gray}
use Rattle.sg_copy.specs.Grays.{item_of}
use Rattle.sg_copy.specs.Copying.{area_by}
use Rattle.sg_copy.specs.Telling.{Seat, Teller, Tells, at}
use Rattle.sg_copy.specs.State.{Copying, slots_in_hand, teller_of, worker_of, seat_of, TakesInHand, IsSameCopier}
use Rattle.sg_copy.specs.Turning.{IsNextOf, HasBegun}
use Rattle.sg_copy.specs.declared.copier.Stage.TheVariants.{Between}
use Rattle.sg_copy.proofs.Handled.{seat_same, same_then, idle_is, on_as}
use Rattle.sg_copy.proofs.Ports.{Ports, On, Gone, Started, Did, may_at, did_at, may_now, saw_now, on_now, on_then, one_step, started, started_then}
use Rattle.sg_copy.proofs.Ports.{gone_then, gone_started}
use Rattle.sg_copy.proofs.Seen.{saw_at}

-- the next item of a sane worker is sane
pub next_sane : (area : Area) (team most k : ℕ) (a b : Worker) (item : Item) → IsNext a item b → IsSane area team most k a → IsSaneItem area item
next_sane area team most k _ _ _ (Of_hand a s rest) sane = sane.hand s (in-here s s rest refl)
next_sane area team most k _ _ _ (Of_list a item rest) sane = sane.list.0
next_sane area team most k _ _ _ (Of_cell a item) sane = sane.at.0

-- the slots of the object that was taken in hand
pub hand_taken : (c d : Copying) (whole first n : ℕ) → TakesInHand c whole first n d →
    slots_in_hand d.hand ≡ slots_by (area_by c.layout c.shapes) (class_of first) whole n
hand_taken c d whole first n h =
    let strong = (area_by c.layout c.shapes).strong (class_of first) in
    ap (λ (f : ℕ → Bool). strong_slots f d.hand.at d.hand.from (d.hand.fields - d.hand.from)) (fun_ext (λ i. h.kind i d.hand.fields))
    ∙ ap (λ x. strong_slots strong x d.hand.from (d.hand.fields - d.hand.from)) h.is_at
    ∙ ap (λ i. strong_slots strong whole i (d.hand.fields - i)) h.from
    ∙ ap (λ k. strong_slots strong whole 0 k) (let e : d.hand.fields - 0 ≡ d.hand.fields = omega arith in e ∙ h.fields_are)

pub taken_same : (c d : Copying) (whole first n : ℕ) → TakesInHand c whole first n d → IsSameCopier c d
taken_same c d whole first n h = subst (IsSameCopier c) (sym h.same) (record { layout = refl; shapes = refl; number = refl; team = refl; most = refl })

pub taken_is : (c d : Copying) (whole first n : ℕ) → TakesInHand c whole first n d → at (teller_of c) Idle ≡ teller_of c →
    teller_of d ≡ record (teller_of c) { worker = record (worker_of c) { hand = slots_by (area_by c.layout c.shapes) (class_of first) whole n; mid = Idle } }
taken_is c d whole first n h idle =
    ap teller_of h.same
    ∙ ap (λ (xs : List ℕ). record (teller_of c) { worker = record (worker_of c) { hand = xs } }) (hand_taken c d whole first n h)
    ∙ ap (λ (t : Teller). record t { worker = record (t.worker) { hand = slots_by (area_by c.layout c.shapes) (class_of first) whole n } }) (sym idle)

pub same_queue : (c d : Copying) (queue : List Gray) → d ≡ record c { queue = queue } → IsSameCopier c d
same_queue c d queue e = subst (IsSameCopier c) (sym e) (record { layout = refl; shapes = refl; number = refl; team = refl; most = refl })

listed : (w : Worker) (item : Item) (rest : List Item) → w.list ≡ item ∷ rest → w.hand ≡ [] →
    IsNext (record w { mid = Idle }) item (record w { list = rest; mid = Idle })
listed w item rest e f =
    subst (λ (hand : List ℕ). IsNext (record w { hand = hand; mid = Idle }) item (record w { list = rest; hand = hand; mid = Idle })) (sym f)
    (subst (λ (list : List Item). IsNext (record w { list = list; hand = []; mid = Idle }) item (record w { list = rest; hand = []; mid = Idle }))
    (sym e) (Of_list w item rest))

-- the oldest item of the list is the next one
pub next_listed : (c d : Copying) (item : Gray) → c.queue ≡ item ∷ d.queue → d ≡ record c { queue = d.queue } → slots_in_hand c.hand ≡ [] →
    IsNextOf (at (teller_of c) Idle) (item_of item) (at (teller_of d) Idle)
next_listed c d item e f empty = subst (λ (k : Copying). IsNextOf (at (teller_of c) Idle) (item_of item) (at (teller_of k) Idle)) (sym f)
    (record { next = listed (worker_of c) (item_of item) (map item_of d.queue) (ap (map item_of) e) empty; moves = refl; fails = refl })

-- the next slot of the object in hand is the next item
pub next_handed : (c d : Copying) (slot : ℕ) → slots_in_hand c.hand ≡ slot ∷ slots_in_hand d.hand → d ≡ record c { hand = d.hand } →
    IsNextOf (at (teller_of c) Idle) (SlotOf slot) (at (teller_of d) Idle)
next_handed c d slot e f = subst (λ (k : Copying). IsNextOf (at (teller_of c) Idle) (SlotOf slot) (at (teller_of k) Idle)) (sym f)
    (record {
      next = subst (λ (hand : List ℕ). IsNext (record (worker_of c) { hand = hand; mid = Idle }) (SlotOf slot)
          (record (worker_of c) { hand = slots_in_hand d.hand; mid = Idle })) (sym e)
          (Of_hand (worker_of c) slot (slots_in_hand d.hand));
      moves = refl;
      fails = refl;
    })

pub same_hand : (c d : Copying) (hand : Hand) → d ≡ record c { hand = hand } → IsSameCopier c d
same_hand c d hand e = subst (IsSameCopier c) (sym e) (record { layout = refl; shapes = refl; number = refl; team = refl; most = refl })

module _ {P : Type 0} (o : Ports P) (seat : Seat) (t : Teller) (whole : ℕ) (a : Teller) (isn : IsNextOf a (WholeOf whole) (at t Idle)) (p : P)
    (on : On o seat p a) where
  abbrev counting : ℕ → Teller
  counting v = at t (Count whole (class_of v))

  open_next : (v : ℕ) → Tells seat a (Load (Word whole) v) (counting v)
  open_next v = (Nothing, opens a.worker (at t Idle).worker whole v isn.next, isn.moves, isn.fails)

  pub open_may : o.may p (Loads (Word (word_at (byte_at whole))))
  open_may = may_at o seat (λ w. Loads (Word w)) whole p (may_now o seat a (counting 0) p on (Load (Word whole) 0) (open_next 0))

  pub whole_in : (512 ≤ whole) × (whole + 1 < 4294967296)
  whole_in =
      let sane = next_sane seat.area seat.team seat.most seat.number a.worker (at t Idle).worker (WholeOf whole) isn.next on.guided.is_sane.worker in
      let lim = on.guided.is_sane.worker.limits in
      (let x = lim.above in let y = sane.0 in omega arith, let x = lim.sections in let z = lim.small in let y = sane.1 in omega arith)

  module _ (v : ℕ) (q : P) (saw : o.sees p (Load (Word (word_at (byte_at whole))) v)) (led : o.leads p (Load (Word (word_at (byte_at whole))) v ∷ []) q) where
    did_open : Did o seat p (Load (Word whole) v) q
    did_open = did_at o seat (λ w. Load (Word w) v) whole p q saw led

    on_count : On o seat q (counting v)
    on_count = on_now o seat a (counting v) p on (Load (Word whole) v) (open_next v) q did_open

    abbrev pub handed : ℕ → Teller
    handed n = record t { worker = record (t.worker) { hand = slots_by seat.area (class_of v) whole n; mid = Idle } }

    count_next : (n : ℕ) → n ≤ 62 → Tells seat (counting v) (Load (Word (whole + 1)) n) (handed n)
    count_next n l = (Nothing, counts t.worker whole (class_of v) n l, refl, refl)

    pub count_may : o.may q (Loads (Word (word_at (byte_at (whole + 1)))))
    count_may = may_at o seat (λ w. Loads (Word w)) (whole + 1) q
        (may_now o seat (counting v) (handed 0) q on_count (Load (Word (whole + 1)) 0) (count_next 0 (omega arith)))

    module _ (n : ℕ) (r : P) (saw' : o.sees q (Load (Word (word_at (byte_at (whole + 1)))) n))
        (led' : o.leads q (Load (Word (word_at (byte_at (whole + 1)))) n ∷ []) r) where
      did_count : Did o seat q (Load (Word (whole + 1)) n) r
      did_count = did_at o seat (λ w. Load (Word w) n) (whole + 1) q r saw' led'

      pub count_short : n ≤ 62
      count_short =
          let next = saw_now o seat (counting v) (handed 0) q on_count (Load (Word (whole + 1)) 0) (count_next 0 (omega arith))
          (Load (Word (whole + 1)) n) refl did_count.0 in
          saw_at seat.area seat.team seat.number (counting v).worker (Load (Word (whole + 1)) n) next.0.1.0 next.0.0.worker next.0.1.1

      pub opened : Started o seat a p (handed n) r
      opened = started_then o seat a (counting v) (handed n) p q r
          (started o seat a (counting v) p on (Load (Word whole) v) (open_next v) q did_open)
          (one_step o seat (counting v) (handed n) q on_count (Load (Word (whole + 1)) n) (count_next n count_short) r did_count (λ h. h))

-- the slots of the object in hand are handled one after another
module _ {P : Type 0} (o : Ports P) (m s k : Copying) (slot : ℕ) (x y : P) (on : On o (seat_of m) x (teller_of m))
    (gone : Gone o (seat_of m) (teller_of m) x (teller_of s) y)
    (same : IsSameCopier m s) (between : s.stage ≡ Between) (put : k ≡ record s { hand = k.hand }) where
  same_put : IsSameCopier m k
  same_put = same_then m s k same (same_hand s k k.hand put)

  pub scan_on : On o (seat_of k) y (at (teller_of s) Idle)
  scan_on = on_as o (seat_of m) (seat_of k) (teller_of s) (at (teller_of s) Idle) y (seat_same m k same_put) (idle_is s between)
      (on_then o (seat_of m) (teller_of m) (teller_of s) x y on gone)

  module _ (next : slots_in_hand s.hand ≡ slot ∷ slots_in_hand k.hand) where
    pub scan_next : IsNextOf (at (teller_of s) Idle) (SlotOf slot) (at (teller_of k) Idle)
    scan_next = next_handed s k slot next put

    not_over : slots_in_hand s.hand ≡ [] → ⊥
    not_over e = let f : slot ∷ slots_in_hand k.hand ≡ [] = sym next ∙ e in cc

    pub scanned : (d : Copying) (z : P) → HasBegun k o.leads (at (teller_of s) Idle) y d z →
        Gone o (seat_of m) (teller_of m) x (teller_of d) z × IsSameCopier m d
    scanned d z h = (
      gone_then o (seat_of m) (teller_of m) (teller_of s) (teller_of d) x y z gone
          (subst (λ (a : Teller). Gone o (seat_of m) a y (teller_of d) z) (idle_is s between)
          (gone_started o (seat_of m) (at (teller_of s) Idle) (teller_of d) y z not_over
          (subst (λ (h : Seat). Started o h (at (teller_of s) Idle) y (teller_of d) z) (seat_same m k same_put) h.started))),
      same_then m k d same_put h.same.copier,
    )

  pub scan_ends : slots_in_hand s.hand ≡ [] → slots_in_hand k.hand ≡ [] → Gone o (seat_of m) (teller_of m) x (teller_of k) y
  scan_ends before after = subst (λ (a : Teller). Gone o (seat_of m) (teller_of m) x a y)
      (ap (λ (hand : List ℕ). record (teller_of s) { worker = record (worker_of s) { hand = hand } }) (before ∙ sym after) ∙ sym (ap teller_of put)) gone
