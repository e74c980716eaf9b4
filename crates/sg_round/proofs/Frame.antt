-- A step of worker k leaves what is true of the others.
use Rattle.std.proofs.Common.{◌≡◌, ◌≢◌, ℕ, ◌+◌, ◌≤◌, List, [], ◌∷◌, ◌++◌, sym, ap, ◌∙◌, inl, inr, arith}
use Rattle.sg_words.specs.Words.{Words}
use Rattle.sg_words.specs.declared.steps.BlockWord.{BlockWord}
use Rattle.sg_words.specs.declared.steps.BlockWord.TheVariants.{Free, Swept}
use Rattle.sg_words.proofs.Blocks.{slot_size-holds}
use Rattle.std.specs.Int.{bit_at}
use Rattle.sg_round.specs.Area.{class_of}
use Rattle.sg_round.specs.Items.{Item, SlotOf, WholeOf, slots_by, slots_in, slots_of}
use Rattle.sg_round.specs.Worker.{Object, Stage, Look, Size, Room, Take, Slots, Mark, Body, Puts, Swap, Pin, Send, Dirty, Mid, Idle, Took, Count, On, Offer}
use Rattle.sg_round.specs.Worker.{Seek, Grab, Over, Worker, size_for}
use Rattle.sg_round.specs.Round.{Start, Round, Owns, IsPassed}
use Rattle.sg_round.proofs.Relation.{Reads, IsKnown, IsKnownItem, AreKnown, in_hand, todo_of, ArePassed, Sized, IsWritten, AreEmpty, AtStage, AtMid, Stands}
use Rattle.sg_round.proofs.Relation.{Later}

-- a block that was passed can't take an object later either, and a slot that is claimed stays so
pub passed-later : (block block' : ℕ → BlockWord) (used used' : ℕ → ℕ) → ((b : ℕ) → block b ≢ Free → block' b ≡ block b) →
    ((b i : ℕ) → bit_at (used b) i ≡ 1 → bit_at (used' b) i ≡ 1) → (z b : ℕ) → IsPassed block used z b → IsPassed block' used' z b
passed-later block block' used used' blocks bits z b p = record {
  taken = λ e. p.taken (sym (blocks b p.taken) ∙ e);
  full = λ e i l. bits b i (p.full (sym (blocks b p.taken) ∙ e) i l);
}

-- a copy has room in its place
pub object-fits : (o : Object) → o.n ≤ 62 → o.n + 2 ≤ size_for o
object-fits o l = slot_size-holds (o.n + 2) (omega arith)

module _ {t : Start} {k : ℕ} {v : Words} {r : Round} {v' : Words} {r' : Round} (la : Later t k v r v' r') where
  -- whose slots are to come stay known, and have the same slots
  pub known-later : (x : ℕ) → IsKnown t.wholes r x → IsKnown t.wholes r' x
  known-later x (inl h) = inl h
  known-later x (inr (inl h)) = inr (inl (la.fails x h))
  known-later x (inr (inr h)) = let m = la.moves h.0 h.1 in inr (inr (h.0, m.0, h.2 ∙ sym m.1))

  pub item-later : (item : Item) → IsKnownItem t r item → IsKnownItem t r' item
  item-later (SlotOf s) h = la.slots s h
  item-later (WholeOf x) h = known-later x h

  pub list-later : (items : List Item) → AreKnown t r items → AreKnown t r' items
  list-later [] h = tt
  list-later (item ∷ items) h = (item-later item h.0, list-later items h.1)

  pub slots_in-later : (item : Item) → IsKnownItem t r item → slots_in t.area t.words.word r'.source item ≡ slots_in t.area t.words.word r.source item
  slots_in-later (SlotOf s) h = cc
  slots_in-later (WholeOf x) h =
      let e = la.heads x h in
      ap (λ (y : ℕ). slots_by t.area (class_of (t.words.word y)) x (t.words.word (r'.source (x + 1)))) e.0
      ∙ ap (λ (y : ℕ). slots_by t.area (class_of (t.words.word (r.source x))) x (t.words.word y)) e.1

  pub slots_of-later : (items : List Item) → AreKnown t r items → slots_of t.area t.words.word r'.source items ≡ slots_of t.area t.words.word r.source items
  slots_of-later [] h = cc
  slots_of-later (item ∷ items) h =
      ap (λ (l : List ℕ). l ++ slots_of t.area t.words.word r'.source items) (slots_in-later item h.0)
      ∙ ap (λ (l : List ℕ). slots_in t.area t.words.word r.source item ++ l) (slots_of-later items h.1)

  pub hand-later : (j : ℕ) (spare : ℕ → ℕ) (list : List Item) (hand : List ℕ) (mid : Mid) → AtMid t v r j spare list hand mid →
      in_hand t r'.source mid ≡ in_hand t r.source mid
  hand-later j spare list hand Idle q = cc
  hand-later j spare list hand (Took item) q = slots_in-later item q.0
  hand-later j spare list hand (Count x class) q = slots_in-later (WholeOf x) q.0
  hand-later j spare list hand (On s stage) q = cc
  hand-later j spare list hand (Offer i next) q = hand-later j spare list hand next q.3
  hand-later j spare list hand (Seek i) q = cc
  hand-later j spare list hand (Grab i item) q = cc
  hand-later j spare list hand Over q = cc

  -- what a worker has to do stays the same
  pub todo-later : (j : ℕ) (a : Worker) → Stands t v r j a → todo_of t r'.source a ≡ todo_of t r.source a
  todo-later j a st =
      ap (λ (l : List ℕ). l ++ (a.hand ++ slots_of t.area t.words.word r'.source a.list)) (hand-later j a.spare a.list a.hand a.mid st.at)
      ∙ ap (λ (l : List ℕ). in_hand t r.source a.mid ++ (a.hand ++ l)) (slots_of-later a.list st.known)

  pub reads-later : (s x : ℕ) → Reads t r s x → Reads t r' s x
  reads-later s x h = record { slot = la.slots s h.slot; held = ap t.words.word (la.sources s h.slot) ∙ h.held; young = h.young }

  pub sized-later : (spare : ℕ → ℕ) (s : ℕ) (o : Object) → Sized t r spare s o → Sized t r' spare s o
  sized-later spare s o q = record { seen = reads-later s o.x q.seen; plain = q.plain; length = q.length; short = q.short; none = q.none }

  pub blocks-later : (z b : ℕ) → ArePassed t v z b → ArePassed t v' z b
  blocks-later z b q d l h = passed-later v.block v'.block v.used v'.used la.blocks la.bits z d (q d l h)

  swept : (b z : ℕ) → v.block b ≡ Swept z → v'.block b ≡ Swept z
  swept b z e = la.blocks b (λ q. (let f : Swept z ≡ Free = sym e ∙ q in cc)) ∙ e

  module _ (j : ℕ) (n : j ≢ k) where
    owns-later : (at z : ℕ) → Owns r.owner j at z → Owns r'.owner j at z
    owns-later at z o y l h = (la.owns j at z y n (o y l h)).0

    written-later : (o : Object) (at from to z : ℕ) → to ≤ z → Owns r.owner j at z → IsWritten t v r o at from to → IsWritten t v' r' o at from to
    written-later o at from to z l own h = (
      λ whole i lo hi top. (la.owns j at z (at + i) n (own (at + i) (omega arith) (omega arith))).1 ∙ h.0 (la.whole o.x whole) i lo hi top,
      λ i lo hi. (la.owns j at z (at + i) n (own (at + i) (omega arith) (omega arith))).1 ∙ h.1 i lo hi,
    )

    stage-later : (spare : ℕ → ℕ) (s : ℕ) (stage : Stage) → AtStage t v r j spare s stage → AtStage t v' r' j spare s stage
    stage-later spare s (Look x) q = reads-later s x q
    stage-later spare s (Size x c) q = (reads-later s x q.0, q.1)
    stage-later spare s (Room o b) q = (sized-later spare s o q.0, blocks-later (size_for o) b q.1, q.2)
    stage-later spare s (Take o b) q = (sized-later spare s o q.0, blocks-later (size_for o) b q.1, q.2)
    stage-later spare s (Slots o b) q = (sized-later spare s o q.0, blocks-later (size_for o) b q.1, q.2, swept b (size_for o) q.3)
    stage-later spare s (Mark o b i) q = (sized-later spare s o q.0, blocks-later (size_for o) b q.1, q.2, swept b (size_for o) q.3, q.4)
    stage-later spare s (Body o at i) q = (sized-later spare s o q.0, owns-later at (size_for o) q.1, q.2, q.3, written-later o at 1 i (size_for o) q.3 q.1 q.4)
    stage-later spare s (Puts o at i u) q = (
      sized-later spare s o q.0,
      owns-later at (size_for o) q.1,
      q.2,
      q.3,
      written-later o at 1 i (size_for o) (let l = q.3 in let f = object-fits o q.0.short in omega arith) q.1 q.4,
      λ whole. q.5 (la.whole o.x whole),
    )
    stage-later spare s (Swap o at) q = (
      sized-later spare s o q.0,
      owns-later at (size_for o) q.1,
      written-later o at 0 (size_for o) (size_for o) (omega arith) q.1 q.2,
    )
    stage-later spare s (Pin o) q = (sized-later spare s o q.0, blocks-later (size_for o) t.area.blocks q.1)
    stage-later spare s (Send to) q = (q.0, reads-later s q.0 q.1, (la.moves q.0 q.2).0, (la.moves q.0 q.2).1 ∙ q.3)
    stage-later spare s Dirty q = (q.0, reads-later s q.0 q.1, q.2, elim q.3 [ inl h ↦ inl (la.fails q.0 h) | inr h ↦ inr h ])

    empty-later : (i : ℕ) → AreEmpty v j i → AreEmpty v' j i
    empty-later i q d l m = la.cells j d n m (q d l m)

    mid-later : (spare : ℕ → ℕ) (list : List Item) (hand : List ℕ) (mid : Mid) → AtMid t v r j spare list hand mid → AtMid t v' r' j spare list hand mid
    mid-later spare list hand Idle q = tt
    mid-later spare list hand (Took item) q = (item-later item q.0, q.1)
    mid-later spare list hand (Count x class) q = (known-later x q.0, q.1 ∙ ap (λ (y : ℕ). class_of (t.words.word y)) (sym (la.heads x q.0).0), q.2)
    mid-later spare list hand (On s stage) q = stage-later spare s stage q
    mid-later spare list hand (Offer i next) q = (q.0, la.cells j i n q.0 q.1, q.2, mid-later spare list hand next q.3, q.4)
    mid-later spare list hand (Seek i) q = (q.0, q.1, q.2, empty-later i q.3)
    mid-later spare list hand (Grab i item) q = (q.0, q.1, q.2, empty-later i q.3, item-later item q.4)
    mid-later spare list hand Over q = (q.0, q.1, empty-later 8 q.2)

    pub stands-later : (a : Worker) → Stands t v r j a → Stands t v' r' j a
    stands-later a st = record {
      member = st.member;
      spares = λ z some. owns-later (a.spare z) z (st.spares z some);
      claims = λ at z y e. st.claims at z y (la.claims j at z y n e);
      classes = st.classes;
      passed = λ z. ((st.passed z).0, blocks-later z (a.passed z) (st.passed z).1);
      known = list-later a.list st.known;
      few = (let f = st.few in let m = la.more in omega arith);
      at = mid-later a.spare a.list a.hand a.mid st.at;
    }
