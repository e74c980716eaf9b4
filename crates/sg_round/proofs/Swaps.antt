-- The rules of the exchange of an object's first word: it moves, or it fails, or the exchange is lost.
use Rattle.std.proofs.Common.{◌≡◌, ℕ, ◌+◌, ◌-◌, ◌≤◌, ◌<◌, ◌⊎◌, List, [], ◌∷◌, ◌++◌, sym, refl, ap, ◌∙◌, subst, inl, inr, arith}
use Rattle.std.proofs.lemmas.Bool.{cases_eq}
use Rattle.sg_words.specs.Address.{byte_at}
use Rattle.sg_words.specs.Tags.{plain_word, pinned_word, forward_word}
use Rattle.sg_words.specs.Lists.{In}
use Rattle.sg_words.specs.Objects.{size_of}
use Rattle.sg_words.specs.Words.{put, Words}
use Rattle.sg_words.specs.Blocks.{IsSizeClass, slot_size}
use Rattle.std.proofs.lemmas.List.{append-nil}
use Rattle.sg_words.proofs.Puts.{put-at, put-same, put-other}
use Rattle.sg_words.proofs.Members.{in-left, in-right, in-cases, in-last, in-before, last-cases, out, not-in}
use Rattle.sg_words.proofs.Objects.{slots-are}
use Rattle.sg_words.proofs.Blocks.{slot_size-class, class_bounds, slot_once, block_once}
use Rattle.sg_round.specs.Area.{HasCard, class_of, place}
use Rattle.sg_round.specs.Items.{Item, SlotOf, WholeOf, cell_word, slots_by, slots_in, slots_of}
use Rattle.sg_round.specs.Worker.{Object, Stage, Look, Swap, Pin, Send, Dirty, Idle, On, Worker, size_for, idle, on}
use Rattle.sg_round.specs.Rules.{Nothing, Ends, Moves, Fails, FailsEnding}
use Rattle.sg_round.specs.Round.{Start, Claimed, Round, Owns, IsPassed, IsTaken}
use Rattle.sg_round.proofs.Relation.{InRound, Reads, IsKnownItem, AreKnown, todo_of, InCell, AreCells}
use Rattle.sg_round.proofs.Relation.{AtStage, Later, todo_with, Kept}
use Rattle.sg_round.proofs.Going.{nobody-not-target, nobody-not-claimed, target-not-claimed, clear-not-claimed, below-free, free-source, slot-unclaimed}
use Rattle.sg_round.proofs.Going.{no-slot, staying, tag-plain}
use Rattle.sg_round.proofs.Copies.{known-free}
use Rattle.sg_round.proofs.Steps.{class-is, by_part, filled, filled-copy, filled-tail, filled-out, from-in, grown, failing, slot-grown, slot-failing}
use Rattle.sg_round.proofs.Steps.{source-kept, grow, fail}
use Rattle.sg_round.proofs.Lists.{slots-distinct, todo-last, length-last}
use Rattle.sg_round.proofs.Single.{single-as, pushes-single}
use Rattle.sg_round.proofs.Frame.{object-fits, list-later, slots_in-later, slots_of-later, reads-later, item-later}
use Rattle.sg_round.proofs.Moves.{Before, member, resting, other-claim, size-claim, nothing, goes-on, walks, cards-ended, handles}
use Rattle.sg_round.proofs.Rooms.{swept-same}
use Rattle.sg_round.proofs.Looks.{target-of, settled-as, idle-stands}

-- an item has one word in a cell
pub same-item : (p q : Item) → cell_word p ≡ cell_word q → p ≡ q
same-item (SlotOf s) (SlotOf u) e = ap SlotOf (let g : s ≡ u = omega arith in g)
same-item (SlotOf s) (WholeOf u) e = absurd (omega arith)
same-item (WholeOf s) (SlotOf u) e = absurd (omega arith)
same-item (WholeOf s) (WholeOf u) e = ap WholeOf (let g : s ≡ u = omega arith in g)

pub no-item : (p : Item) → cell_word p ≡ 0 → ⊥
no-item (SlotOf s) e = omega arith
no-item (WholeOf s) e = omega arith

-- what is in a cell is an item of the round
pub cell-known : (t : Start) (r : Round) (cell : ℕ → ℕ) (j : ℕ) (item : Item) → AreCells t r cell → cell j ≡ cell_word item → IsKnownItem t r item
cell-known t r cell j item c e = elim (c.filled j) [
  | inl z ↦ absurd (no-item item (sym e ∙ z))
  | inr h ↦ subst (IsKnownItem t r) (same-item h.0 item (sym h.1 ∙ e)) h.2
]

pub known-last : (t : Start) (r : Round) (items : List Item) (item : Item) → AreKnown t r items → IsKnownItem t r item → AreKnown t r (items ++ item ∷ [])
known-last t r [] item h k = (k, tt)
known-last t r (x ∷ items) item h k = (h.0, known-last t r items item h.1 k)

-- a slot's own place is in it
pub own-place : (t : Start) (d z j : ℕ) → IsSizeClass z → place t.area d z j < place t.area d z j + z
own-place t d z j h = let b = class_bounds z h in omega arith

-- the slots of an item that has come
module _ (others : ℕ → Type 0) (inside inside' : ℕ → ℕ → Type 0) (xs new xs' : List ℕ) (e : xs' ≡ xs ++ new) (into : (j s : ℕ) → inside j s → inside' j s)
    (back : (j s : ℕ) → inside' j s → inside j s) where
  todo-back : (z : ℕ) → todo_with others inside' xs' z → todo_with others inside xs z ⊎ In z new
  todo-back z h = elim h [
    | inl o ↦ inl (inl o)
    | inr h ↦ elim h [
      | inr c ↦ inl (inr (inr (c.0, back c.0 z c.1)))
      | inl i ↦ elim (in-cases z xs new (subst (λ (l : List ℕ). In z l) e i)) [ inl i ↦ inl (inr (inl i)) | inr i ↦ inr i ]
    ]
  ]

  todo-on : (z : ℕ) → todo_with others inside xs z → todo_with others inside' xs' z
  todo-on z h = elim h [
    | inl o ↦ inl o
    | inr h ↦ elim h [
      | inr c ↦ inr (inr (c.0, into c.0 z c.1))
      | inl i ↦ inr (inl (subst (λ (l : List ℕ). In z l) (sym e) (in-left z xs new i)))
    ]
  ]

  todo-new : (z : ℕ) → In z new → todo_with others inside' xs' z
  todo-new z h = inr (inl (subst (λ (l : List ℕ). In z l) (sym e) (in-right z xs new h)))

-- one step and then another one of the same worker
pub later-then : {t : Start} {k : ℕ} {v v' v'' : Words} {r r' r'' : Round} → Later t k v r v' r' → Later t k v' r' v'' r'' → Later t k v r v'' r''
later-then {t} {k} {v} {v'} {v''} {r} {r'} {r''} a b = record {
  blocks = λ d h. (let e = a.blocks d h in b.blocks d (λ f. h (sym e ∙ f)) ∙ e);
  bits = λ d i e. b.bits d i (a.bits d i e);
  moves = λ x h. (let m = a.moves x h in let n = b.moves x m.0 in (n.0, n.1 ∙ m.1));
  fails = λ x h. b.fails x (a.fails x h);
  more = (let p = a.more in let q = b.more in omega arith);
  whole = λ x h. a.whole x (b.whole x h);
  slots = λ s h. b.slots s (a.slots s h);
  sources = λ s h. b.sources s (a.slots s h) ∙ a.sources s h;
  heads = λ x h. (let e = a.heads x h in let f = b.heads x (item-later a (WholeOf x) h) in (f.0 ∙ e.0, f.1 ∙ e.1));
  owns = λ j at z y n e. (let o = a.owns j at z y n e in let p = b.owns j at z y n o.0 in (p.0, p.1 ∙ o.1));
  claims = λ j at z y n e. a.claims j at z y n (b.claims j at z y n e);
  cells = λ j i n l e. b.cells j i n l (a.cells j i n l e);
}

-- what was read stays so as an object fails
read-failing : (t : Start) (r : Round) (s x y : ℕ) → Reads t r s y → Reads t (failing r x) s y
read-failing t r s x y h = record { slot = slot-failing r x s h.slot; held = h.held; young = h.young }

module _ {t : Start} {others : ℕ → Type 0} {k : ℕ} {v : Words} {r : Round} where
  pub swap-lost : (a : Worker) (s : ℕ) (o : Object) (at : ℕ) → Before t others k v r (on a s (Swap o at)) →
      Kept t others k v r (on a s (Swap o at)) Nothing v (record a { spare = put a.spare (size_for o) at; mid = On s (Look o.x) })
  swap-lost a s o at n =
      let a0 = on a s (Swap o at) in
      let z0 = size_for o in
      let st = n.stands in
      goes-on a0 (record a { spare = put a.spare z0 at; mid = On s (Look o.x) }) n refl (record {
        member = inl (member a0 tt n);
        spares = λ z h. elim (cases_eq z z0) [
          | inl e ↦ subst (λ (u : ℕ). Owns r.owner k u z) (sym (put-at a.spare z0 at z e)) (subst (λ (u : ℕ). Owns r.owner k at u) (sym e) st.at.1)
          | inr d ↦ (let e = put-other a.spare z0 at z d in subst (λ (u : ℕ). Owns r.owner k u z) (sym e) (st.spares z (λ q. h (e ∙ q))))
        ];
        claims = λ at' z y e. (let c = st.claims at' z y e in (
          elim c.0 [
            | inr f ↦ inl (put-at a.spare z0 at z f.1 ∙ sym f.0)
            | inl f ↦ elim (cases_eq z z0) [
              | inl g ↦ absurd (c.3 (sym f ∙ ap a.spare g ∙ st.at.0.none))
              | inr d ↦ inl (put-other a.spare z0 at z d ∙ f)
            ]
          ],
          c.1,
          c.2,
          c.3,
        ));
        classes = λ z h. elim (cases_eq z z0) [
          | inl e ↦ subst IsSizeClass (sym e) (slot_size-class (o.n + 2))
          | inr d ↦ st.classes z (λ q. h (put-other a.spare z0 at z d ∙ q))
        ];
        passed = st.passed;
        known = st.known;
        few = st.few;
        at = st.at.0.seen;
      })

  pub fail-lost : (a : Worker) (s : ℕ) (o : Object) → Before t others k v r (on a s (Pin o)) →
      Kept t others k v r (on a s (Pin o)) Nothing v (on a s (Look o.x))
  fail-lost a s o n = walks (on a s (Pin o)) (On s (Look o.x)) n tt refl (λ at z h. h) n.stands.at.0.seen

  pub swap-won : (a : Worker) (s : ℕ) (o : Object) (at : ℕ) → v.word o.x ≡ plain_word o.class → Before t others k v r (on a s (Swap o at)) →
      Kept t others k v r (on a s (Swap o at)) (Moves o.x) (record v { word = put v.word o.x (forward_word (byte_at at)) })
      (record a { list = a.list ++ WholeOf at ∷ []; mid = On s (Send at) })
  swap-won a s o at saw n =
      let a0 = on a s (Swap o at) in
      let b : Worker = record a { list = a.list ++ WholeOf at ∷ []; mid = On s (Send at) } in
      let op = n.opening.opening in
      let go = n.going in
      let cl = n.claims in
      let st = n.stands in
      let w = t.words.word in
      let x = o.x in
      let size = size_for o in
      let q = st.at in
      let len = q.0.length in
      let tr = target-of a0 s x n q.0.seen in
      let p = q.0.plain in
      let whole = (tag-plain op go x o.class tr saw).0 in
      let room : size_of w x ≤ size = let f = object-fits o q.0.short in omega arith in
      let x-free = below-free op go x (op.inside x (inl tr)).0.1 in
      let r' = grown w r x at size in
      let word' = put v.word x (forward_word (byte_at at)) in
      let v' : Words = record v { word = word' } in
      let new = slots_by t.area o.class at o.n in
      let old : (y : ℕ) → (r.owner y ≡ Claimed k at size → ⊥) → filled r.owner at (size_of w x) size x y ≡ r.owner y =
      λ y h. filled-out r.owner at (size_of w x) size x y room (λ lo hi. h (q.1 y lo hi)) in
      let back : (j at' z y : ℕ) → filled r.owner at (size_of w x) size x y ≡ Claimed j at' z → (r.owner y ≡ Claimed j at' z) × (at ≤ y → y < at + size → ⊥) =
      λ j at' z y e. by_part ((r.owner y ≡ Claimed j at' z) × (at ≤ y → y < at + size → ⊥)) at (size_of w x) size y
      (λ lo hi. absurd (target-not-claimed (filled r.owner at (size_of w x) size x y) x j at' z (filled-copy r.owner at (size_of w x) size x y lo hi) e))
      (λ lo hi. absurd (nobody-not-claimed (filled r.owner at (size_of w x) size x y) j at' z (filled-tail r.owner at (size_of w x) size x y lo hi) e))
      (λ h. (sym (filled-out r.owner at (size_of w x) size x y room h) ∙ e, h)) in
      let later : Later t k v r v' r' = record {
        blocks = λ b h. refl;
        bits = λ b i e. e;
        moves = λ z h. (in-before z x r.moves h, put-other r.m x at z (λ e. not-in x r.moves whole.0 (subst (λ (z : ℕ). In z r.moves) e h)));
        fails = λ z h. h;
        more = (let l = length-last r.moves x in omega arith);
        whole = λ z h. (out z r.moves (λ i. not-in z (r.moves ++ x ∷ []) h.0 (in-before z x r.moves i)), h.1);
        slots = λ s h. slot-grown r x at whole s h;
        sources = λ s h. source-kept w r x k at size q.1 room s (slot-unclaimed op go s h);
        heads = λ y h. (let f = known-free op go y h in (source-kept w r x k at size q.1 room y f.0, source-kept w r x k at size q.1 room (y + 1) f.1));
        owns = λ j at' z y d e. (
          old y (λ f. other-claim (r.owner y) j k at' at z size d e f) ∙ e,
          put-other v.word x (forward_word (byte_at at)) y (λ f. nobody-not-claimed (r.owner x) j at' z x-free (ap r.owner (sym f) ∙ e)),
        );
        claims = λ j at' z y d e. (back j at' z y e).0;
        cells = λ j i d l e. e;
      } in
      let item : slots_in t.area w r'.source (WholeOf at) ≡ new =
      ap (λ (y : ℕ). slots_by t.area (class_of (w y)) at (w (r'.source (at + 1))))
      (from-in r.source at (size_of w x) x at (omega arith) (omega arith) ∙ (let g : x + (at - at) ≡ x = omega arith in g))
      ∙ ap (λ (y : ℕ). slots_by t.area (class_of (w x)) at (w y)) (from-in r.source at (size_of w x) x (at + 1) (omega arith) (omega arith)
      ∙ (let g : x + (at + 1 - at) ≡ x + 1 = omega arith in g))
      ∙ ap (λ (c : ℕ). slots_by t.area c at (w (x + 1))) (class-is w x o.class p) ∙ ap (slots_by t.area o.class at) len in
      let todo : todo_of t r'.source b ≡ todo_of t r.source a0 ++ new =
      todo-last t.area w r'.source (s ∷ []) a.hand a.list (WholeOf at)
      ∙ ap (λ (l : List ℕ). (s ∷ (a.hand ++ slots_of t.area w r'.source a.list)) ++ l) item
      ∙ ap (λ (l : List ℕ). (s ∷ (a.hand ++ l)) ++ new) (slots_of-later later a.list st.known) in
      let cells-on : (j z : ℕ) → InCell t r.source v.cell j z → InCell t r'.source v.cell j z =
      λ j z c. (c.0, c.1, subst (λ (l : List ℕ). In z l) (sym (slots_in-later later c.0 (cell-known t r v.cell j c.0 n.cells c.1))) c.2) in
      let cells-back : (j z : ℕ) → InCell t r'.source v.cell j z → InCell t r.source v.cell j z =
      λ j z c. (c.0, c.1, subst (λ (l : List ℕ). In z l) (slots_in-later later c.0 (cell-known t r v.cell j c.0 n.cells c.1)) c.2) in
      record {
        round = r';
        later = later;
        going = grow op go x o.class tr p whole k at size word' q.1 room
            (λ j l. q.2.0 whole j (omega arith) (omega arith) (omega arith)) (λ j l h. q.2.1 j (omega arith) h)
            (put-same v.word x (forward_word (byte_at at))) (λ y d. put-other v.word x (forward_word (byte_at at)) y d)
            (λ z h. elim (todo-back others (InCell t r.source v.cell) (InCell t r'.source v.cell) (todo_of t r.source a0) new
            (todo_of t r'.source b) todo cells-on cells-back z h) [
              | inl i ↦ inl i
              | inr i ↦ inr (subst (λ (m : ℕ). In z (slots_by t.area o.class at m)) (sym len) i)
            ])
            (todo-on others (InCell t r.source v.cell) (InCell t r'.source v.cell) (todo_of t r.source a0) new (todo_of t r'.source b) todo cells-on cells-back)
            (λ z h. todo-new others (InCell t r.source v.cell) (InCell t r'.source v.cell) (todo_of t r.source a0) new
            (todo_of t r'.source b) todo cells-on cells-back z (subst (λ (m : ℕ). In z (slots_by t.area o.class at m)) len h));
        claims = record {
          opened = cl.opened;
          risen = cl.risen;
          clear = λ d z j y h f. (let e = cl.clear d z j y h f in old y (λ g. nobody-not-claimed (r.owner y) k at size e g) ∙ e);
          held = λ j at' z y e. cl.held j at' z y (back j at' z y e).0;
          homed = λ z h. elim (last-cases z x r.moves h) [
            | inr i ↦ subst (λ (u : ℕ). IsTaken t.area v.block t.words.used v.used u (slot_size (size_of w z)))
                (sym (put-other r.m x at z (λ e. not-in x r.moves whole.0 (subst (λ (z : ℕ). In z r.moves) e i)))) (cl.homed z i)
            | inl e ↦ subst (λ (u : ℕ). IsTaken t.area v.block t.words.used v.used u (slot_size (size_of w z))) (sym (put-at r.m x at z e))
                (subst (λ (u : ℕ). IsTaken t.area v.block t.words.used v.used at (slot_size (size_of w u))) (sym e)
                (subst (λ (u : ℕ). IsTaken t.area v.block t.words.used v.used at (slot_size (u + 2))) (sym len)
                (cl.held k at size at (q.1 at (omega arith) (omega arith)))))
          ];
          taken = λ d j f c. (let g = cl.taken d j f c in let y = place t.area d g.0 j in (
            g.0,
            g.1,
            g.2,
            g.3,
            g.4,
            λ h. by_part ⊥ at (size_of w x) size y
                (λ lo hi. nobody-not-target (filled r.owner at (size_of w x) size x y) x h (filled-copy r.owner at (size_of w x) size x y lo hi))
                (λ lo hi. (let u = cl.held k at size at (q.1 at (omega arith) (omega arith)) in let e = u.is in
                let same : d ≡ u.b = block_once t.area.high d u.b g.0 size j u.i y g.3 u.fits (omega arith) (own-place t d g.0 j g.1) (omega arith)
                (omega arith) in
                let sized : g.0 ≡ size = swept-same g.0 size (v.block d) g.4 (ap v.block same ∙ u.state) in
                let e1 : y ≡ place t.area u.b size j = ap (λ (c : ℕ). place t.area c g.0 j) same ∙ ap (λ (z : ℕ). place t.area u.b z j) sized in
                let slot : j ≡ u.i = slot_once t.area.high u.b size j u.i y (omega arith) (omega arith) (omega arith) (omega arith) in
                let e2 : place t.area u.b size j ≡ at = ap (λ (c : ℕ). place t.area u.b size c) slot ∙ sym u.is in
                absurd (omega arith)))
                (λ out-of. g.5 (sym (filled-out r.owner at (size_of w x) size x y room out-of) ∙ h)),
          ));
          full = cl.full;
          short = λ z h. (let c = cl.short z h in (c.0, c.1, λ at' y e. c.2 at' y (back c.0 at' (slot_size (size_of w z)) y e).0));
        };
        cards = record {
          marked = λ z y h card e yo nm. n.cards.marked z y h card (ap w (sym (later.sources z (go.slots z (inr h)))) ∙ e) yo
              (out y r.moves (λ i. not-in y (r.moves ++ x ∷ []) nm (in-before y x r.moves i)));
          kept = n.cards.kept;
          changed = λ c. elim (n.cards.changed c) [
            | inl e ↦ inl e
            | inr m ↦ (let g = m.1 in inr (
              m.0,
              record {
                s = g.s;
                x = g.x;
                done = g.done;
                has = g.has;
                is = g.is;
                held = ap w (later.sources g.s (go.slots g.s (inr g.done))) ∙ g.held;
                young = g.young;
                stays = g.stays;
              },
            ))
          ];
        };
        cells = record {
          filled = λ j. elim (n.cells.filled j) [ inl e ↦ inl e | inr e ↦ inr (e.0, e.1, item-later later e.0 e.2) ];
          beyond = n.cells.beyond;
        };
        stands = record {
          member = inl (member a0 tt n);
          spares = λ z some y lo hi. (let e = st.spares z some y lo hi in
              old y (λ f. some (ap a.spare (size-claim (r.owner y) k (a.spare z) at z size e f) ∙ q.0.none)) ∙ e);
          claims = λ at' z y e. (let h = back k at' z y e in let c = st.claims at' z y h.0 in (
            elim c.0 [
              | inl f ↦ inl f
              | inr f ↦ absurd (let f0 = f.0 in let f1 = f.1 in let lo = c.1 in let hi = c.2 in h.1 (omega arith) (omega arith))
            ],
            c.1,
            c.2,
            c.3,
          ));
          classes = st.classes;
          passed = st.passed;
          known = known-last t r' a.list (WholeOf at) (list-later later a.list st.known) (inr (inr (x, in-last x x r.moves refl, sym (put-same r.m x at))));
          few = (let f = st.few in let l = length-last a.list (WholeOf at) in let m = length-last r.moves x in omega arith);
          at = (x, reads-later later s x q.0.seen, in-last x x r.moves refl, put-same r.m x at);
        };
        told = (refl, refl, (nothing r).2);
        single = λ h. single-as (todo_of t r.source a0 ++ new) (todo_of t r'.source b) r.handled (λ s o. o) cells-back (sym todo)
            (pushes-single (todo_of t r.source a0) new r.handled h (slots-distinct t.area o.class at o.n) (λ z i u. (
            let g = slots-are (t.area.strong o.class) at 0 o.n z i in
            let e = g.3 in let l = g.1 in let f = object-fits o q.0.short in
            clear-not-claimed (r.owner z) k at size (slot-unclaimed op go z (go.slots z u)) (q.1 z (omega arith) (omega arith)))));
      }

  -- an object fails, and its slots come: the worker goes on with the slot in hand
  failed-at : (a : Worker) (s : ℕ) (o : Object) (stage : Stage) → v.word o.x ≡ plain_word o.class → (n : Before t others k v r (on a s (Pin o))) →
      AtStage t (record v { word = put v.word o.x (pinned_word o.class) }) (failing r o.x) k a.spare s stage →
      Kept t others k v r (on a s (Pin o)) (Fails o.x) (record v { word = put v.word o.x (pinned_word o.class) })
      (record a { list = a.list ++ WholeOf o.x ∷ []; passed = put a.passed (size_for o) t.area.blocks; mid = On s stage })
  failed-at a s o stage saw n stage-at =
      let a0 = on a s (Pin o) in
      let b : Worker = record a { list = a.list ++ WholeOf o.x ∷ []; passed = put a.passed (size_for o) t.area.blocks; mid = On s stage } in
      let op = n.opening.opening in
      let go = n.going in
      let cl = n.claims in
      let st = n.stands in
      let w = t.words.word in
      let x = o.x in
      let z0 = size_for o in
      let q = st.at in
      let len = q.0.length in
      let tr = target-of a0 s x n q.0.seen in
      let p = q.0.plain in
      let whole = (tag-plain op go x o.class tr saw).0 in
      let inside = op.inside x (inl tr) in
      let x-free = below-free op go x inside.0.1 in
      let r' = failing r x in
      let word' = put v.word x (pinned_word o.class) in
      let new = slots_by t.area o.class x o.n in
      let later : Later t k v r (record v { word = word' }) r' = record {
        blocks = λ b h. refl;
        bits = λ b i e. e;
        moves = λ z h. (h, refl);
        fails = λ z h. in-before z x r.fails h;
        more = (let l = length-last r.fails x in omega arith);
        whole = λ z h. (h.0, out z r.fails (λ i. not-in z (r.fails ++ x ∷ []) h.1 (in-before z x r.fails i)));
        slots = λ s h. slot-failing r x s h;
        sources = λ s h. refl;
        heads = λ y h. (refl, refl);
        owns = λ j at' z y d e. (e, put-other v.word x (pinned_word o.class) y (λ f. nobody-not-claimed (r.owner x) j at' z x-free (ap r.owner (sym f) ∙ e)));
        claims = λ j at' z y d e. e;
        cells = λ j i d l e. e;
      } in
      let item : slots_in t.area w r.source (WholeOf x) ≡ new =
      ap (λ (y : ℕ). slots_by t.area (class_of (w y)) x (w (r.source (x + 1)))) (free-source op go x x-free)
      ∙ ap (λ (y : ℕ). slots_by t.area (class_of (w x)) x (w y)) (free-source op go (x + 1) (below-free op go (x + 1) (let i = inside.1 in omega arith)))
      ∙ ap (λ (c : ℕ). slots_by t.area c x (w (x + 1))) (class-is w x o.class p) ∙ ap (slots_by t.area o.class x) len in
      let todo : todo_of t r.source b ≡ todo_of t r.source a0 ++ new =
      todo-last t.area w r.source (s ∷ []) a.hand a.list (WholeOf x) ∙ ap (λ (l : List ℕ). todo_of t r.source a0 ++ l) item in
      record {
        round = r';
        later = later;
        going = fail op go x o.class tr p whole word' (put-same v.word x (pinned_word o.class) ∙ ap (λ (z : ℕ). z + 2) (sym p))
            (λ y d. put-other v.word x (pinned_word o.class) y d)
            (λ z h. elim (todo-back others (InCell t r.source v.cell) (InCell t r.source v.cell) (todo_of t r.source a0) new (todo_of t r.source b) todo
            (λ j z c. c) (λ j z c. c) z h) [
              | inl i ↦ inl i
              | inr i ↦ inr (subst (λ (m : ℕ). In z (slots_by t.area o.class x m)) (sym len) i)
            ])
            (todo-on others (InCell t r.source v.cell) (InCell t r.source v.cell) (todo_of t r.source a0) new (todo_of t r.source b) todo (λ j z c. c)
            (λ j z c. c))
            (λ z h. todo-new others (InCell t r.source v.cell) (InCell t r.source v.cell) (todo_of t r.source a0) new (todo_of t r.source b) todo
            (λ j z c. c) (λ j z c. c) z (subst (λ (m : ℕ). In z (slots_by t.area o.class x m)) len h));
        claims = record {
          opened = cl.opened;
          risen = cl.risen;
          clear = cl.clear;
          held = cl.held;
          homed = cl.homed;
          taken = cl.taken;
          full = λ z d h l. elim (last-cases z x r.fails h) [
            | inl e ↦ subst (λ (u : ℕ). IsPassed v.block v.used (slot_size (size_of w u)) d) (sym e)
                (subst (λ (m : ℕ). IsPassed v.block v.used (slot_size (m + 2)) d) (sym len) (q.1 d l l))
            | inr i ↦ cl.full z d i l
          ];
          short = λ z h. elim (last-cases z x r.fails h) [
            | inr i ↦ cl.short z i
            | inl e ↦ (
              k,
              member a0 tt n,
              λ at y f. (let f' = subst (λ (u : ℕ). r.owner y ≡ Claimed k at (slot_size u)) (ap (size_of w) e ∙ ap (λ (u : ℕ). u + 2) len) f in
                  let c = resting a0 n (λ at z h. h) at z0 y f' in c.3 (sym c.0 ∙ q.0.none)),
            )
          ];
        };
        cards = record {
          marked = n.cards.marked;
          kept = n.cards.kept;
          changed = λ c. elim (n.cards.changed c) [
            | inl e ↦ inl e
            | inr m ↦ (let g = m.1 in inr (
              m.0,
              record {
                s = g.s;
                x = g.x;
                done = g.done;
                has = g.has;
                is = g.is;
                held = g.held;
                young = g.young;
                stays = elim g.stays [ inl h ↦ inl (in-before g.x x r.fails h) | inr h ↦ inr h ];
              },
            ))
          ];
        };
        cells = record {
          filled = λ j. elim (n.cells.filled j) [ inl e ↦ inl e | inr e ↦ inr (e.0, e.1, item-later later e.0 e.2) ];
          beyond = n.cells.beyond;
        };
        stands = record {
          member = inl (member a0 tt n);
          spares = st.spares;
          claims = λ at z y e. (let c = resting a0 n (λ at z h. h) at z y e in (inl c.0, c.1, c.2, c.3));
          classes = st.classes;
          passed = λ z. elim (cases_eq z z0) [
            | inl e ↦ (
              (let p = put-at a.passed z0 t.area.blocks z e in omega arith),
              λ d m h. subst (λ (z : ℕ). IsPassed v.block v.used z d) (sym e) (q.1 d h h),
            )
            | inr h ↦ (
              (let p = put-other a.passed z0 t.area.blocks z h in let m = (st.passed z).0 in omega arith),
              λ d m g. (st.passed z).1 d (let p = put-other a.passed z0 t.area.blocks z h in omega arith) g,
            )
          ];
          known = known-last t r' a.list (WholeOf x) (list-later later a.list st.known) (inr (inl (in-last x x r.fails refl)));
          few = (let f = st.few in let l = length-last a.list (WholeOf x) in let m = length-last r.fails x in omega arith);
          at = stage-at;
        };
        told = (refl, (nothing r).1, refl);
        single = λ h. single-as (todo_of t r.source a0 ++ new) (todo_of t r.source b) r.handled (λ s o. o) (λ j s c. c) (sym todo)
            (pushes-single (todo_of t r.source a0) new r.handled h (slots-distinct t.area o.class x o.n) (λ z i u. (
            let g = slots-are (t.area.strong o.class) x 0 o.n z i in let l = g.1 in
            no-slot op go x (2 + g.0) o.class tr p whole.1 (omega arith)
            (subst (λ (y : ℕ). InRound t r y) (let e = g.3 in let f : z ≡ x + (2 + g.0) = omega arith in f) (go.slots z u)))));
      }

  pub fail-won : (a : Worker) (s : ℕ) (o : Object) → HasCard t.area s → v.word o.x ≡ plain_word o.class → Before t others k v r (on a s (Pin o)) →
      Kept t others k v r (on a s (Pin o)) (Fails o.x) (record v { word = put v.word o.x (pinned_word o.class) })
      (record a { list = a.list ++ WholeOf o.x ∷ []; passed = put a.passed (size_for o) t.area.blocks; mid = On s Dirty })
  fail-won a s o card saw n = failed-at a s o Dirty saw n (o.x, read-failing t r s o.x o.x n.stands.at.0.seen, card, inl (in-last o.x o.x r.fails refl))

  pub fail-won-bare : (a : Worker) (s : ℕ) (o : Object) → (HasCard t.area s → ⊥) → v.word o.x ≡ plain_word o.class → Before t others k v r (on a s (Pin o)) →
      Kept t others k v r (on a s (Pin o)) (FailsEnding o.x s) (record v { word = put v.word o.x (pinned_word o.class) })
      (record a { list = a.list ++ WholeOf o.x ∷ []; passed = put a.passed (size_for o) t.area.blocks; mid = Idle })
  fail-won-bare a s o bare saw n =
      let b : Worker = record a { list = a.list ++ WholeOf o.x ∷ []; passed = put a.passed (size_for o) t.area.blocks; mid = On s (Look o.x) } in
      let v' : Words = record v { word = put v.word o.x (pinned_word o.class) } in
      let one = failed-at a s o (Look o.x) saw n (read-failing t r s o.x o.x n.stands.at.0.seen) in
      let n' : Before t others k v' one.round b =
      record { opening = n.opening; going = one.going; claims = one.claims; cards = one.cards; cells = one.cells; stands = one.stands } in
      let h = one.stands.at in
      let in-fails : In o.x one.round.fails = subst (λ (l : List ℕ). In o.x l) (sym one.told.2) (in-last o.x o.x r.fails refl) in
      let unmoved = (one.going.failed o.x in-fails).2 in
      let two : Kept t others k v' one.round b (Ends s) v' (idle b) =
      handles b b s v'.word v'.card n' tt h.slot refl (staying n'.opening.opening n'.going s o.x h unmoved) (λ y d. refl)
      (settled-as t one.round s o.x h (inr (inl in-fails))) (cards-ended b s n' (λ z card held young nm. bare card)) (idle-stands b n' tt (λ at z h. h)) in
      record {
        round = two.round;
        later = later-then one.later two.later;
        going = two.going;
        claims = two.claims;
        cards = two.cards;
        cells = two.cells;
        stands = two.stands;
        told = (
          two.told.0 ∙ ap (λ (l : List ℕ). s ∷ l) one.told.0,
          two.told.1 ∙ append-nil one.round.moves ∙ one.told.1,
          two.told.2 ∙ append-nil one.round.fails ∙ one.told.2,
        );
        single = λ h. two.single (one.single h);
      }
