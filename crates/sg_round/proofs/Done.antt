-- Where all workers have ended the round is done.
use Rattle.std.proofs.Common.{◌⊎◌, ◌≡◌, ◌≢◌, ℕ, ◌+◌, ◌*◌, ◌/◌, ◌%◌, ◌≤◌, ◌<◌, true, false, List, [], ◌++◌, sym, refl, ap, ◌∙◌, subst, inl, inr}
use Rattle.std.proofs.Common.{arith}
use Rattle.std.proofs.lemmas.Bool.{cases_eq, cases_lt, cond-true}
use Rattle.sg_words.specs.Address.{byte_at}
use Rattle.sg_words.specs.Lists.{In, has}
use Rattle.sg_words.specs.Objects.{size_of}
use Rattle.sg_words.specs.Reach.{AreDistinct}
use Rattle.sg_words.specs.Words.{Words}
use Rattle.sg_words.specs.Blocks.{IsSizeClass, slot_size, slots}
use Rattle.sg_words.specs.declared.steps.BlockWord.TheVariants.{Swept}
use Rattle.sg_words.proofs.Members.{out}
use Rattle.sg_words.proofs.Objects.{sent-at}
use Rattle.sg_words.proofs.Blocks.{class_bounds, slot_once, block_once, slot_size-holds}
use Rattle.sg_round.specs.Area.{IsYoung, place}
use Rattle.sg_round.specs.Items.{own_cell, slots_of}
use Rattle.sg_round.specs.Worker.{Mid, Over, Worker}
use Rattle.sg_round.specs.Rules.{WorkEvent, ended_by, moved_by, failed_by}
use Rattle.sg_round.specs.Image.{IsImage}
use Rattle.sg_round.specs.Laws.{AreMarked, AreFilled, AreSpares, IsDone, RacingLaw}
use Rattle.sg_round.specs.Round.{Start, IsRoundOpening, Owner, Nobody, Claimed, Target, is_claimed, Round, Slot, IsTaken}
use Rattle.sg_round.proofs.Relation.{InRound, IsStaying, in_hand, Pending, AtMid, IsFilling, AreEmpty, World}
use Rattle.sg_round.proofs.Going.{target-old, slot-word, found, staying}
use Rattle.sg_round.proofs.Steps.{plain-not-fixed}
use Rattle.sg_round.proofs.Ends.{at_end}
use Rattle.sg_round.proofs.Swaps.{no-item, own-place}
use Rattle.sg_round.proofs.Rooms.{swept-same}
use Rattle.sg_round.proofs.Law.{so-far}

one-claim : (j k at at' y z : ℕ) → Claimed j at y ≡ Claimed k at' z → (j ≡ k) × (y ≡ z)
one-claim j k at at' y z e = (cc, cc)

module _ {t : Start} {v : Words} {workers : ℕ → Worker} (o : IsRoundOpening t) (wo : World t v workers) where
  -- what a slot holds where it is handled, and its object stays
  staying-word : (s x : ℕ) → InRound t wo.round s → t.words.word (wo.round.source s) ≡ byte_at x → IsYoung t.area x → has x wo.round.moves ≡ false →
      v.word s ≡ byte_at x
  staying-word s x slot held young nm =
      staying o.opening wo.going s x (record { slot = slot; held = held; young = young }) nm ∙ sent-at wo.round.m (t.words.word (wo.round.source s)) x held
      ∙ ap byte_at (wo.going.others x nm)

  unmoved : (x : ℕ) → IsStaying t.words.word wo.round.fails x → has x wo.round.moves ≡ false
  unmoved x (inl h) = (wo.going.failed x h).2
  unmoved x (inr h) = out x wo.round.moves (λ i. (let m = wo.going.moved x i in plain-not-fixed (t.words.word x) m.1.0 h.0 m.1.1 h.1))

  -- two claimed places with a common word are one
  one-slot : (b z i at u : ℕ) → b < t.area.blocks → IsSizeClass z → i < slots z → v.block b ≡ Swept z → IsTaken t.area v.block t.words.used v.used at u →
      at ≤ place t.area b z i → place t.area b z i < at + u → (at ≡ place t.area b z i) × (u ≡ z)
  one-slot b z i at u l class h f q lo hi =
      let y = place t.area b z i in
      let e = q.is in
      let same : b ≡ q.b = block_once t.area.high b q.b z u i q.i y h q.fits (omega arith) (own-place t b z i class) (omega arith) (omega arith) in
      let size : z ≡ u = swept-same z u (v.block b) f (ap v.block same ∙ q.state) in
      let e1 : y ≡ place t.area q.b u i = ap (λ (c : ℕ). place t.area c z i) same ∙ ap (λ (z : ℕ). place t.area q.b z i) size in
      let slot : i ≡ q.i = slot_once t.area.high q.b u i q.i y (omega arith) (omega arith) (omega arith) (omega arith) in
      let e2 : place t.area q.b u i ≡ at = ap (λ (c : ℕ). place t.area q.b u c) slot ∙ sym q.is in
      (sym (e1 ∙ e2), sym size)

  module _ (over : (k : ℕ) → (workers k).mid ≡ Over) where
    at-over : (k : ℕ) → ((workers k).list ≡ []) × ((workers k).hand ≡ []) × AreEmpty v k 8
    at-over k = subst (λ (m : Mid). AtMid t v wo.round k (workers k).spare (workers k).list (workers k).hand m) (over k) (wo.stands k).at

    empty-cells : (i : ℕ) → v.cell i ≡ 0
    empty-cells i = elim (cases_lt i (8 * t.team)) [
      | inr l ↦ wo.cells.beyond i l
      | inl l ↦ ap v.cell (let g : i ≡ own_cell (i / 8) (i % 8) = omega arith in g) ∙ (at-over (i / 8)).2 (i % 8) (omega arith) (omega arith)
    ]

    none-left : (s : ℕ) → Pending t wo.round.source v.cell workers s → ⊥
    none-left s (inr c) = no-item c.1.0 (sym c.1.1 ∙ empty-cells c.0)
    none-left s (inl p) =
        let k = p.0 in
        let h = at-over k in
        let e = ap (λ (m : Mid). in_hand t wo.round.source m ++ ((workers k).hand ++ slots_of t.area t.words.word wo.round.source (workers k).list)) (over k)
        ∙ ap (λ (l : List ℕ). l ++ slots_of t.area t.words.word wo.round.source (workers k).list) h.1
        ∙ ap (slots_of t.area t.words.word wo.round.source) h.0 in
        let z = subst (λ (l : List ℕ). In s l) e p.1 in cc

    -- what is claimed is spare
    claimed-spare : (k at z y : ℕ) → wo.round.owner y ≡ Claimed k at z → ((workers k).spare z ≡ at) × (at ≤ y) × (y < at + z) × (at ≢ 0)
    claimed-spare k at z y e = let c = (wo.stands k).claims at z y e in elim c.0 [
      | inl f ↦ (f, c.1, c.2, c.3)
      | inr h ↦ absurd (subst (λ (m : Mid). IsFilling at z m) (over k) h)
    ]

    owned : (k z : ℕ) → (workers k).spare z ≢ 0 → wo.round.owner ((workers k).spare z) ≡ Claimed k ((workers k).spare z) z
    owned k z some = let b = class_bounds z ((wo.stands k).classes z some) in (wo.stands k).spares z some ((workers k).spare z) (omega arith) (omega arith)

    -- a worker of the team has it
    spare-member : (k z : ℕ) → (workers k).spare z ≢ 0 → k < t.team
    spare-member k z some = elim (wo.stands k).member [ inl l ↦ l | inr e ↦ absurd (some (e.1 z)) ]

    marked : AreMarked t wo.round.m wo.round.moves wo.round.fails v
    marked = record {
      held = λ s x slot card e young. (
          let done : In s wo.round.handled = elim (wo.going.all s slot) [ inl p ↦ absurd (none-left s p) | inr h ↦ h ] in
          let held = sym (found o.opening wo.going s x slot e young) ∙ e in
          wo.cards.marked s x done card held young (out x wo.round.moves (λ h. (
          let f = slot-word o.opening wo.going s slot ∙ cond-true _ _ _ done ∙ sent-at wo.round.m (t.words.word (wo.round.source s)) x held in
          let z = target-old o.opening wo.going x h in
          let y = young.1 in absurd (omega arith)))));
      kept = wo.cards.kept;
      others = λ c. elim (wo.cards.changed c) [
        | inl e ↦ inl e
        | inr m ↦ (let g = m.1 in let slot = wo.going.slots g.s (inr g.done) in
            inr (m.0, (g.s, g.x, slot, g.has, g.is, staying-word g.s g.x slot g.held g.young (unmoved g.x g.stays), g.young)))
      ];
    }

    filled : AreFilled t wo.round.m wo.round.moves v workers
    filled = record {
      opened = wo.claims.opened;
      risen = wo.claims.risen;
      homes = wo.claims.homed;
      bits = λ b i set clear. (let g = wo.claims.taken b i set clear in
          (g.0, g.1, g.2, g.3, g.4, by_owner b i g.0 g.2 g.1 g.3 g.4 (wo.round.owner (place t.area b g.0 i)) refl g.5));
    }
      where
        by_owner : (b i z : ℕ) → b < t.area.blocks → IsSizeClass z → i < slots z → v.block b ≡ Swept z → (w : Owner) →
            wo.round.owner (place t.area b z i) ≡ w → wo.round.owner (place t.area b z i) ≢ Nobody →
            ((a : ℕ) × In a wo.round.moves × (wo.round.m a ≡ place t.area b z i)) ⊎ ((k : ℕ) × ((workers k).spare z ≡ place t.area b z i))
        by_owner b i z l class h f Nobody e n = absurd (n e)
        by_owner b i z l class h f (Target a) e n =
            let q = wo.going.target_is a (place t.area b z i) e in
            let j = q.1.2 in
            let less = q.1.1 in
            let short = (o.opening.inside a (inl (wo.going.moved a q.0).0)).2 in
            let room = slot_size-holds (size_of t.words.word a) (omega arith) in
            inl (a, q.0, (one-slot b z i (wo.round.m a) (slot_size (size_of t.words.word a)) l class h f (wo.claims.homed a q.0) (omega arith) (omega arith)).0)
        by_owner b i z l class h f (Claimed k at u) e n =
            let s = claimed-spare k at u (place t.area b z i) e in
            let one = one-slot b z i at u l class h f (wo.claims.held k at u (place t.area b z i) e) s.1 s.2 in
            inr (k, ap (workers k).spare (sym one.1) ∙ s.0 ∙ one.0)

    spares : AreSpares t v workers (λ y. is_claimed (wo.round.owner y))
    spares = record {
      spares = λ y e. by_owner y (wo.round.owner y) refl e;
      spared = λ k z y some lo hi. ap is_claimed ((wo.stands k).spares z some y lo hi);
      placed = λ k z some. (spare-member k z some, wo.claims.held k ((workers k).spare z) z ((workers k).spare z) (owned k z some));
      apart = λ j k y z some e. one-claim j k ((workers j).spare y) ((workers k).spare z) y z
          (sym (owned j y some) ∙ ap wo.round.owner e ∙ owned k z (λ f. some (e ∙ f)));
    }
      where
        by_owner : (y : ℕ) (w : Owner) → wo.round.owner y ≡ w → is_claimed w ≡ true →
            (k : ℕ) × (z : ℕ) × ((workers k).spare z ≢ 0) × ((workers k).spare z ≤ y) × (y < (workers k).spare z + z)
        by_owner y Nobody q e = absurd (let z : false ≡ true = e in cc)
        by_owner y (Target a) q e = absurd (let z : false ≡ true = e in cc)
        by_owner y (Claimed k at z) q e = let c = claimed-spare k at z y q in let f = c.0 in
            (k, z, (λ g. c.3 (sym f ∙ g)), (let lo = c.1 in omega arith), (let hi = c.2 in omega arith))

    pub done : (es : List WorkEvent) → wo.round.handled ≡ ended_by [] es → wo.round.moves ≡ moved_by [] es → wo.round.fails ≡ failed_by [] es →
        IsDone t es v workers
    done es handled moves fails = record {
      m = r.m;
      is_spare = λ y. is_claimed (r.owner y);
      image = subst (λ (fails : List ℕ). IsImage t.area w t.items t.zone (moved_by [] es) fails r.m v.word (λ y. is_claimed (r.owner y))) fails
          (subst (λ (moves : List ℕ). IsImage t.area w t.items t.zone moves r.fails r.m v.word (λ y. is_claimed (r.owner y))) moves
          (at_end o.opening wo.going none-left));
      once = subst AreDistinct handled wo.single.once;
      slots = λ s h. slot-on s (wo.going.slots s (inr (subst (λ (l : List ℕ). In s l) (sym handled) h)));
      every = λ s h. elim (wo.going.all s (slot-back s h)) [
        | inl p ↦ absurd (none-left s p)
        | inr h ↦ subst (λ (l : List ℕ). In s l) handled h
      ];
      cards = subst (λ (fails : List ℕ). AreMarked t r.m (moved_by [] es) fails v) fails
          (subst (λ (moves : List ℕ). AreMarked t r.m moves r.fails v) moves marked);
      blocks = subst (λ (moves : List ℕ). AreFilled t r.m moves v workers) moves filled;
      spares = spares;
      full = λ a b h l. wo.claims.full a b (subst (λ (l : List ℕ). In a l) (sym fails) h) l;
      short = λ a h. (let c = wo.claims.short a (subst (λ (l : List ℕ). In a l) (sym fails) h) in (c.0, c.1, no-spare c.0 (slot_size (size_of w a)) c.2));
      cells = empty-cells;
      still = wo.still;
    }
      where
        r : Round
        r = wo.round

        w : ℕ → ℕ
        w = t.words.word

        slot-on : (s : ℕ) → InRound t r s → Slot t.area w t.items r.m (moved_by [] es) (failed_by [] es) s
        slot-on s h = subst (λ (fails : List ℕ). Slot t.area w t.items r.m (moved_by [] es) fails s) fails
            (subst (λ (moves : List ℕ). Slot t.area w t.items r.m moves r.fails s) moves h)

        slot-back : (s : ℕ) → Slot t.area w t.items r.m (moved_by [] es) (failed_by [] es) s → InRound t r s
        slot-back s h = subst (λ (moves : List ℕ). Slot t.area w t.items r.m moves r.fails s) (sym moves)
            (subst (λ (fails : List ℕ). Slot t.area w t.items r.m (moved_by [] es) fails s) (sym fails) h)

        no-spare : (k z : ℕ) → ((at y : ℕ) → r.owner y ≡ Claimed k at z → ⊥) → (workers k).spare z ≡ 0
        no-spare k z none = elim (cases_eq ((workers k).spare z) 0) [
          | inl e ↦ e
          | inr some ↦ absurd (none ((workers k).spare z) ((workers k).spare z) (owned k z some))
        ]

-- its map is the round's
pub done-map : {t : Start} {v : Words} {workers : ℕ → Worker} (o : IsRoundOpening t) (wo : World t v workers) (over : (k : ℕ) → (workers k).mid ≡ Over)
    (es : List WorkEvent)
    (handled : wo.round.handled ≡ ended_by [] es) (moves : wo.round.moves ≡ moved_by [] es) (fails : wo.round.fails ≡ failed_by [] es) →
    (done o wo over es handled moves fails).m ≡ wo.round.m
unfolding done
done-map {t} {v} {workers} o wo over es handled moves fails = refl

pub racing_law : RacingLaw
racing_law t v workers so over = let x = so-far t v workers so in done so.opening x.world over so.events x.handled x.moves x.fails
