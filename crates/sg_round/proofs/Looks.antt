-- The rules by which a worker takes its next slot, and looks at the slot's target.
use Rattle.std.proofs.Common.{◌≡◌, ◌≢◌, ℕ, ◌+◌, ◌≤◌, false, List, [], ◌∷◌, ◌++◌, sym, refl, ap, ◌∙◌, subst, inl, inr, arith}
use Rattle.std.proofs.Common.{le_refl}
use Rattle.std.proofs.lemmas.Bool.{cases_eq}
use Rattle.sg_words.specs.Address.{byte_at}
use Rattle.sg_words.specs.Tags.{plain_word, forward_word}
use Rattle.sg_words.specs.Lists.{has}
use Rattle.sg_words.specs.Objects.{sent}
use Rattle.sg_words.proofs.Objects.{sent-at}
use Rattle.sg_words.specs.Words.{put, Words}
use Rattle.sg_words.proofs.Puts.{put-at, put-same, put-other}
use Rattle.sg_words.proofs.Members.{in-here}
use Rattle.sg_round.specs.Area.{IsYoung, IsFixed, HasCard, class_of, Traces}
use Rattle.sg_round.specs.Items.{Item, SlotOf, WholeOf, slots_by, slots_in, slots_of}
use Rattle.sg_round.specs.Worker.{Object, Look, Size, Body, Send, Dirty, Idle, Took, Count, On}
use Rattle.sg_round.specs.Worker.{Worker, size_for, idle, on}
use Rattle.sg_round.specs.Rules.{Nothing, Ends, IsNext}
use Rattle.sg_round.specs.Rules.IsNext.{Of_hand, Of_list, Of_cell}
use Rattle.sg_round.specs.Round.{Start, Round, IsSettled, Owns}
use Rattle.sg_round.proofs.Relation.{Reads, IsKnownItem, todo_of, IsFilling, Sized, Stands, Kept}
use Rattle.sg_round.proofs.Going.{read-traced, found, quiet, quiet-settled, staying, tag-plain, tag-moves, tag-fixed, length-stays}
use Rattle.sg_round.proofs.Copies.{head-class, head-length}
use Rattle.sg_round.proofs.Frame.{object-fits}
use Rattle.sg_round.proofs.Moves.{Before, IsAwake, member, resting, claims-as, goes-on, walks, cards-ended, handles}

pub next-awake : (a : Worker) (item : Item) (b : Worker) → IsNext a item b → IsAwake a.mid
next-awake _ _ _ (Of_hand a s rest) = tt
next-awake _ _ _ (Of_list a item rest) = tt
next-awake _ _ _ (Of_cell a item) = tt

-- a slot has one target, and what it refers to has settled where it stays
pub same-target : (t : Start) (r : Round) (s x z : ℕ) → Reads t r s x → t.words.word (r.source s) ≡ byte_at z → x ≡ z
same-target t r s x z h e = let f = h.held in omega arith

pub settled-as : (t : Start) (r : Round) (s x : ℕ) → Reads t r s x → IsSettled t.words.word r.moves r.fails x →
    (z : ℕ) → t.words.word (r.source s) ≡ byte_at z → IsYoung t.area z → IsSettled t.words.word r.moves r.fails z
settled-as t r s x h q z e y = subst (IsSettled t.words.word r.moves r.fails) (same-target t r s x z h e) q

module _ {t : Start} {others : ℕ → Type 0} {k : ℕ} {v : Words} {r : Round} where
  -- the slots of the next item are the first of those that a worker has to do
  pub next-todo : (a : Worker) (item : Item) (b : Worker) → IsNext a item b → Before t others k v r a →
      todo_of t r.source a ≡ slots_in t.area t.words.word r.source item ++ todo_of t r.source (idle b)
  next-todo _ _ _ (Of_hand a s rest) n = refl
  next-todo _ _ _ (Of_list a item rest) n = refl
  next-todo _ _ _ (Of_cell a item) n = refl

  pub next-known : (a : Worker) (item : Item) (b : Worker) → IsNext a item b → Before t others k v r a → IsKnownItem t r item
  next-known _ _ _ (Of_hand a s rest) n = n.going.slots s (inl (inr (inl (in-here s s (rest ++ slots_of t.area t.words.word r.source a.list) refl))))
  next-known _ _ _ (Of_list a item rest) n = n.stands.known.0
  next-known _ _ _ (Of_cell a item) n = n.stands.at.0

  -- what stands of a worker that is without its next item
  pub next-stands : (a : Worker) (item : Item) (b : Worker) → IsNext a item b → Before t others k v r a → Stands t v r k (idle b)
  next-stands _ _ _ (Of_hand a s rest) n = let st = n.stands in let a0 : Worker = record a { hand = s ∷ rest; mid = Idle } in
      record {
        member = inl (member a0 tt n);
        spares = st.spares;
        claims = claims-as a0 Idle n (λ at z h. h);
        classes = st.classes;
        passed =
            st.passed;
        known = st.known;
        few = st.few;
        at = tt;
      }
  next-stands _ _ _ (Of_list a item rest) n = let st = n.stands in let a0 : Worker = record a { list = item ∷ rest; hand = []; mid = Idle } in
      record {
        member = inl (member a0 tt n);
        spares = st.spares;
        claims = claims-as a0 Idle n (λ at z h. h);
        classes = st.classes;
        passed =
            st.passed;
        known = st.known.1;
        few = (let f = st.few in omega arith);
        at = tt;
      }
  next-stands _ _ _ (Of_cell a item) n = let st = n.stands in let a0 : Worker = record a { mid = Took item } in
      record {
        member = inl (member a0 tt n);
        spares = st.spares;
        claims = claims-as a0 Idle n (λ at z h. h);
        classes = st.classes;
        passed =
            st.passed;
        known = st.known;
        few = st.few;
        at = tt;
      }

  next-hand : (a : Worker) (x : ℕ) (b : Worker) → IsNext a (WholeOf x) b → Before t others k v r a → b.hand ≡ []
  next-hand _ x _ (Of_list a _ rest) n = refl
  next-hand _ x _ (Of_cell a _) n = n.stands.at.1

  -- an object whose slots are to come is opened, and its length is loaded
  pub opened : (a b : Worker) (x u : ℕ) → IsNext a (WholeOf x) b → v.word x ≡ u → Before t others k v r a →
      Kept t others k v r a Nothing v (record b { mid = Count x (class_of u) })
  opened a b x u nx saw n =
      let st = next-stands a (WholeOf x) b nx n in
      let known = next-known a (WholeOf x) b nx n in
      goes-on a (record b { mid = Count x (class_of u) }) n (sym (next-todo a (WholeOf x) b nx n)) (record {
        member = inl (member a (next-awake a (WholeOf x) b nx) n);
        spares = st.spares;
        claims = λ at z y e. (let c = st.claims at z y e in (elim c.0 [ inl q ↦ inl q | inr h ↦ absurd h ], c.1, c.2, c.3));
        classes = st.classes;
        passed = st.passed;
        known = st.known;
        few = st.few;
        at = (known, ap class_of (sym saw) ∙ head-class n.opening.opening n.going x known, next-hand a x b nx n);
      })

  pub counted-todo : (a : Worker) (x class u : ℕ) → v.word (x + 1) ≡ u → Before t others k v r (record a { mid = Count x class }) →
      todo_of t r.source (record a { hand = slots_by t.area class x u; mid = Idle }) ≡ todo_of t r.source (record a { mid = Count x class })
  counted-todo a x class u saw n =
      let st = n.stands in
      let rest = slots_of t.area t.words.word r.source a.list in
      let e : slots_by t.area class x u ≡ slots_in t.area t.words.word r.source (WholeOf x) =
      ap (λ (c : ℕ). slots_by t.area c x u) st.at.1 ∙ ap (λ (m : ℕ). slots_by t.area (class_of (t.words.word (r.source x))) x m)
      (sym saw ∙ head-length n.opening.opening n.going x st.at.0) in
      ap (λ (l : List ℕ). l ++ rest) e ∙ ap (λ (l : List ℕ). slots_in t.area t.words.word r.source (WholeOf x) ++ (l ++ rest)) (sym st.at.2)

  pub counted : (a : Worker) (x class u : ℕ) → v.word (x + 1) ≡ u → Before t others k v r (record a { mid = Count x class }) →
      Kept t others k v r (record a { mid = Count x class }) Nothing v (record a { hand = slots_by t.area class x u; mid = Idle })
  counted a x class u saw n =
      let a0 : Worker = record a { mid = Count x class } in
      let st = n.stands in
      goes-on a0 (record a { hand = slots_by t.area class x u; mid = Idle }) n (counted-todo a x class u saw n)
      (record {
        member = inl (member a0 tt n);
        spares = st.spares;
        claims = claims-as a0 Idle n (λ at z h. h);
        classes = st.classes;
        passed =
            st.passed;
        known = st.known;
        few = st.few;
        at = tt;
      })

  -- a slot with no young reference, and one with
  pub none-seen : (a b : Worker) (s u : ℕ) → IsNext a (SlotOf s) b → ((x : ℕ) → u ≡ byte_at x → IsYoung t.area x → ⊥) → v.word s ≡ u → Before t others k v r a →
      Kept t others k v r a (Ends s) v (idle b)
  none-seen a b s u nx none saw n =
      let mine = next-known a (SlotOf s) b nx n in
      let no : (x : ℕ) → v.word s ≡ byte_at x → IsYoung t.area x → ⊥ = λ x e. none x (sym saw ∙ e) in
      handles a b s v.word v.card n (next-awake a (SlotOf s) b nx) mine (next-todo a (SlotOf s) b nx n)
      (quiet n.opening.opening n.going s mine no) (λ y d. refl) (quiet-settled n.opening.opening n.going s mine no)
      (cards-ended a s n (λ x card held young nm. no x (staying n.opening.opening n.going s x (record { slot = mine; held = held; young = young }) nm
      ∙ sent-stays x held nm n) young))
      (next-stands a (SlotOf s) b nx n)
    where
      sent-stays : (x : ℕ) → t.words.word (r.source s) ≡ byte_at x → has x r.moves ≡ false → Before t others k v r a →
          sent r.m (t.words.word (r.source s)) ≡ byte_at x
      sent-stays x held nm n = sent-at r.m (t.words.word (r.source s)) x held ∙ ap byte_at (n.going.others x nm)

  pub seen : (a b : Worker) (s x : ℕ) → IsNext a (SlotOf s) b → IsYoung t.area x → v.word s ≡ byte_at x → Before t others k v r a →
      Kept t others k v r a Nothing v (on b s (Look x))
  seen a b s x nx young saw n =
      let mine = next-known a (SlotOf s) b nx n in
      let st = next-stands a (SlotOf s) b nx n in
      goes-on a (on b s (Look x)) n (sym (next-todo a (SlotOf s) b nx n)) (record {
        member = inl (member a (next-awake a (SlotOf s) b nx) n);
        spares = st.spares;
        claims = λ at z y e. (let c = st.claims at z y e in (elim c.0 [ inl q ↦ inl q | inr h ↦ absurd h ], c.1, c.2, c.3));
        classes = st.classes;
        passed = st.passed;
        known = st.known;
        few = st.few;
        at = record { slot = mine; held = sym (found n.opening.opening n.going s x mine saw young) ∙ saw; young = young };
      })

  -- what is in hand is traced
  pub target-of : (a : Worker) (s x : ℕ) → Before t others k v r a → Reads t r s x → Traces t.area t.words.word t.items x
  target-of a s x n h = read-traced n.opening.opening n.going s x h

  pub forwarded-seen : (a : Worker) (s x to : ℕ) → v.word x ≡ forward_word (byte_at to) → Before t others k v r (on a s (Look x)) →
      Kept t others k v r (on a s (Look x)) Nothing v (on a s (Send to))
  forwarded-seen a s x to saw n =
      let q = tag-moves n.opening.opening n.going x to (target-of (on a s (Look x)) s x n n.stands.at) saw in
      walks (on a s (Look x)) (On s (Send to)) n tt refl (λ at z h. h) (x, n.stands.at, q.0, q.1)

  pub fixed-seen : (a : Worker) (s x class u : ℕ) → IsFixed class u → HasCard t.area s → v.word x ≡ u → Before t others k v r (on a s (Look x)) →
      Kept t others k v r (on a s (Look x)) Nothing v (on a s Dirty)
  fixed-seen a s x class u fixed card saw n =
      let q = tag-fixed n.opening.opening n.going x class u (target-of (on a s (Look x)) s x n n.stands.at) fixed saw in
      walks (on a s (Look x)) (On s Dirty) n tt refl (λ at z h. h) (x, n.stands.at, card, q.0)

  -- what stands where a slot ends
  pub idle-stands : (a : Worker) → Before t others k v r a → IsAwake a.mid → ((at z : ℕ) → IsFilling at z a.mid → ⊥) → Stands t v r k (idle a)
  idle-stands a n w none = let st = n.stands in
      record {
        member = inl (member a w n);
        spares = st.spares;
        claims = claims-as a Idle n none;
        classes = st.classes;
        passed = st.passed;
        known =
            st.known;
        few = st.few;
        at = tt;
      }

  pub bare-seen : (a : Worker) (s x class u : ℕ) → IsFixed class u → (HasCard t.area s → ⊥) → v.word x ≡ u → Before t others k v r (on a s (Look x)) →
      Kept t others k v r (on a s (Look x)) (Ends s) v (idle a)
  bare-seen a s x class u fixed bare saw n =
      let a0 = on a s (Look x) in
      let h = n.stands.at in
      let q = tag-fixed n.opening.opening n.going x class u (target-of a0 s x n h) fixed saw in
      handles a0 a s v.word v.card n tt h.slot refl (staying n.opening.opening n.going s x h q.1) (λ y d. refl) (settled-as t r s x h (inr q.0))
      (cards-ended a0 s n (λ z card held young nm. bare card)) (idle-stands a0 n tt (λ at z h. h))

  pub plain-seen : (a : Worker) (s x class : ℕ) → v.word x ≡ plain_word class → Before t others k v r (on a s (Look x)) →
      Kept t others k v r (on a s (Look x)) Nothing v (on a s (Size x class))
  plain-seen a s x class saw n =
      let q = tag-plain n.opening.opening n.going x class (target-of (on a s (Look x)) s x n n.stands.at) saw in
      walks (on a s (Look x)) (On s (Size x class)) n tt refl (λ at z h. h) (n.stands.at, q.1)

  -- the length of the target
  sized : (a : Worker) (s : ℕ) (o : Object) → v.word (o.x + 1) ≡ o.n → Before t others k v r (on a s (Size o.x o.class)) →
      (t.words.word (o.x + 1) ≡ o.n) × (o.n ≤ 62)
  sized a s o saw n =
      let at = n.stands.at in
      let tr = target-of (on a s (Size o.x o.class)) s o.x n at.0 in
      let e = sym (length-stays n.opening.opening n.going o.x o.class tr at.1) ∙ saw in
      (e, (let i = (n.opening.opening.inside o.x (inl tr)).2 in omega arith))

  pub spare-taken : (a : Worker) (s : ℕ) (o : Object) → a.spare (size_for o) ≢ 0 → v.word (o.x + 1) ≡ o.n → Before t others k v r (on a s (Size o.x o.class)) →
      Kept t others k v r (on a s (Size o.x o.class)) Nothing v (record a { spare = put a.spare (size_for o) 0; mid = On s (Body o (a.spare (size_for o)) 1) })
  spare-taken a s o some saw n =
      let a0 = on a s (Size o.x o.class) in
      let z0 = size_for o in
      let st = n.stands in
      let len = sized a s o saw n in
      goes-on a0 (record a { spare = put a.spare z0 0; mid = On s (Body o (a.spare z0) 1) }) n refl (record {
        member = inl (member a0 tt n);
        spares = λ z h. elim (cases_eq z z0) [
          | inl e ↦ absurd (h (put-at a.spare z0 0 z e))
          | inr d ↦ (let e = put-other a.spare z0 0 z d in subst (λ (u : ℕ). Owns r.owner k u z) (sym e) (st.spares z (λ q. h (e ∙ q))))
        ];
        claims = λ at z y e. (let c = resting a0 n (λ at z h. h) at z y e in (
          elim (cases_eq z z0) [
            | inl q ↦ inr (sym c.0 ∙ ap a.spare q, q)
            | inr d ↦ inl (put-other a.spare z0 0 z d ∙ c.0)
          ],
          c.1,
          c.2,
          c.3,
        ));
        classes = λ z h. elim (cases_eq z z0) [
          | inl e ↦ absurd (h (put-at a.spare z0 0 z e))
          | inr d ↦ st.classes z (λ q. h (put-other a.spare z0 0 z d ∙ q))
        ];
        passed = st.passed;
        known = st.known;
        few = st.few;
        at = (
          record { seen = st.at.0; plain = st.at.1; length = len.0; short = len.1; none = put-same a.spare z0 0 },
          st.spares z0 some,
          le_refl 1,
          (let f = object-fits o len.1 in omega arith),
          (λ whole i lo hi top. absurd (omega arith), λ i lo hi. absurd (omega arith)),
        );
      })

  pub object-read : (a : Worker) (s : ℕ) (o : Object) → a.spare (size_for o) ≡ 0 → v.word (o.x + 1) ≡ o.n → Before t others k v r (on a s (Size o.x o.class)) →
      Sized t r a.spare s o
  object-read a s o none saw n = let len = sized a s o saw n in
      record { seen = n.stands.at.0; plain = n.stands.at.1; length = len.0; short = len.1; none = none }
