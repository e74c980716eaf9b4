-- The induction over the list of events: the world of a round in its midst.
use Rattle.std.proofs.Common.{◌≡◌, ◌≢◌, ℕ, eqb, List, [], ◌∷◌, ◌++◌, sym, refl, ap, ◌∙◌, subst, inl, inr}
use Rattle.std.proofs.Common.{arith}
use Rattle.std.proofs.lemmas.Bool.{cases_eq, eq-eqb, ne_eqb, cond-true, cond-false}
use Rattle.std.proofs.Math.Path.{fun_ext}
use Rattle.sg_words.specs.Lists.{In}
use Rattle.sg_words.specs.Reach.{AreDistinct}
use Rattle.sg_words.specs.Words.{put, Words, Saw, after_step, replayed, IsLegal}
use Rattle.sg_words.specs.declared.steps.Step.{Step}
use Rattle.sg_words.proofs.Puts.{put-at, put-same, put-other, put-all}
use Rattle.sg_words.proofs.Members.{in-here, in-left, in-right}
use Rattle.sg_round.specs.Items.{Item, SlotOf, WholeOf, HasWhole, slots_in, slots_of}
use Rattle.sg_round.specs.Worker.{Mid, Worker}
use Rattle.sg_round.specs.Rules.{Effect, Comes, WorkEvent, steps, part, Follows, ended, moved, failed, ended_by, moved_by, failed_by}
use Rattle.sg_round.specs.Laws.{IsSoFar}
use Rattle.sg_round.specs.Round.{Start, IsRoundOpening, Nobody, Claimed, Target, Round, Slot, Given, Copied, Failed}
use Rattle.sg_round.proofs.Relation.{AreKnown, in_hand, todo_of, InCell, Pending, AtMid, Stands, AreSingle, World, todo_with}
use Rattle.sg_round.proofs.Relation.{IsSingle, Kept}
use Rattle.sg_round.proofs.Steps.{moved-about}
use Rattle.sg_round.proofs.Frame.{todo-later, stands-later}
use Rattle.sg_round.proofs.Moves.{Before}
use Rattle.sg_round.proofs.Swaps.{no-item}
use Rattle.sg_round.proofs.Kept.{kept, still}

pub part-same : (e : WorkEvent) (es : List WorkEvent) → part e.by (e ∷ es) ≡ e.deed ∷ part e.by es
part-same e es = cond-true (eqb e.by e.by) _ _ (eq-eqb e.by e.by refl)

pub part-other : (j : ℕ) (e : WorkEvent) (es : List WorkEvent) → j ≢ e.by → part j (e ∷ es) ≡ part j es
part-other j e es n = cond-false (eqb j e.by) _ _ (ne_eqb j e.by n)

-- the slots of the workers but k
abbrev pub others_of : Start → (ℕ → ℕ) → (ℕ → Worker) → ℕ → ℕ → Type 0
others_of t source workers k s = (j : ℕ) × (j ≢ k) × In s (todo_of t source (workers j))

module _ (t : Start) (source cell : ℕ → ℕ) (workers : ℕ → Worker) (k : ℕ) where
  pub split : (s : ℕ) → Pending t source cell workers s → todo_with (others_of t source workers k) (InCell t source cell) (todo_of t source (workers k)) s
  split s (inr c) = inr (inr c)
  split s (inl p) = elim (cases_eq p.0 k) [
    | inl e ↦ inr (inl (subst (λ (j : ℕ). In s (todo_of t source (workers j))) e p.1))
    | inr d ↦ inl (p.0, d, p.1)
  ]

  pub join : (s : ℕ) → todo_with (others_of t source workers k) (InCell t source cell) (todo_of t source (workers k)) s → Pending t source cell workers s
  join s h = elim h [
    | inl o ↦ inl (o.0, o.2)
    | inr h ↦ elim h [ inl i ↦ inl (k, i) | inr c ↦ inr c ]
  ]

  -- the slots of worker k are single among all
  single-split : (handled : List ℕ) → AreSingle t source cell workers handled →
      IsSingle (others_of t source workers k) (InCell t source cell) (todo_of t source (workers k)) handled
  single-split handled q = record {
    mine = q.lists k;
    theirs = λ s h o. o.1 (q.apart o.0 k s o.2 h);
    celled = λ j s c h. elim h [ inl i ↦ q.celled j k s c i | inr o ↦ q.celled j o.0 s c o.2 ];
    cells = q.cells;
    done = λ s h u. q.done s h (join s u);
    once = q.once;
  }

-- after a step of worker k, which is a then, and where what the others have to do stays the same
module _ (t : Start) (source source' cell' : ℕ → ℕ) (workers : ℕ → Worker) (k : ℕ) (a : Worker)
    (same : (j : ℕ) → todo_of t source' (workers j) ≡ todo_of t source (workers j)) where
  mine : (j s : ℕ) → j ≡ k → In s (todo_of t source' (put workers k a j)) → In s (todo_of t source' a)
  mine j s e h = subst (λ (b : Worker). In s (todo_of t source' b)) (put-at workers k a j e) h

  theirs : (j s : ℕ) → j ≢ k → In s (todo_of t source' (put workers k a j)) → In s (todo_of t source (workers j))
  theirs j s d h = subst (λ (l : List ℕ). In s l) (same j) (subst (λ (b : Worker). In s (todo_of t source' b)) (put-other workers k a j d) h)

  split-put : (s : ℕ) → Pending t source' cell' (put workers k a) s → todo_with (others_of t source workers k) (InCell t source' cell') (todo_of t source' a) s
  split-put s (inr c) = inr (inr c)
  split-put s (inl p) = elim (cases_eq p.0 k) [
    | inl e ↦ inr (inl (mine p.0 s e p.1))
    | inr d ↦ inl (p.0, d, theirs p.0 s d p.1)
  ]

  join-put : (s : ℕ) → todo_with (others_of t source workers k) (InCell t source' cell') (todo_of t source' a) s → Pending t source' cell' (put workers k a) s
  join-put s h = elim h [
    | inl o ↦ inl (
      o.0,
      subst (λ (b : Worker). In s (todo_of t source' b)) (sym (put-other workers k a o.0 o.1))
          (subst (λ (l : List ℕ). In s l) (sym (same o.0)) o.2),
    )
    | inr h ↦ elim h [ inl i ↦ inl (k, subst (λ (b : Worker). In s (todo_of t source' b)) (sym (put-same workers k a)) i) | inr c ↦ inr c ]
  ]

  single-put : (cell : ℕ → ℕ) (handled handled' : List ℕ) → AreSingle t source cell workers handled →
      IsSingle (others_of t source workers k) (InCell t source' cell') (todo_of t source' a) handled' → AreSingle t source' cell' (put workers k a) handled'
  single-put cell handled handled' old q = record {
    lists = put-all (λ j b. AreDistinct (todo_of t source' b)) workers k a q.mine (λ j n. subst AreDistinct (sym (same j)) (old.lists j));
    apart = λ i j s h g. elim (cases_eq i k) [
      | inl e ↦ elim (cases_eq j k) [
        | inl f ↦ e ∙ sym f
        | inr d ↦ absurd (q.theirs s (mine i s e h) (j, d, theirs j s d g))
      ]
      | inr c ↦ elim (cases_eq j k) [
        | inl f ↦ absurd (q.theirs s (mine j s f g) (i, c, theirs i s c h))
        | inr d ↦ old.apart i j s (theirs i s c h) (theirs j s d g)
      ]
    ];
    celled = λ i j s c h. elim (cases_eq j k) [
      | inl f ↦ q.celled i s c (inl (mine j s f h))
      | inr d ↦ q.celled i s c (inr (j, d, theirs j s d h))
    ];
    cells = q.cells;
    done = λ s h p. q.done s h (split-put s p);
    once = q.once;
  }

module _ (t : Start) (v : Words) (workers : ℕ → Worker) (k : ℕ) (wo : World t v workers) where
  abbrev pub Others : ℕ → Type 0
  Others = others_of t wo.round.source workers k

  -- what is true before a step of worker k
  pub before-step : IsRoundOpening t → Before t Others k v wo.round (workers k)
  before-step o = record {
    opening = o;
    going = moved-about wo.going (join t wo.round.source v.cell workers k) (split t wo.round.source v.cell workers k);
    claims = wo.claims;
    cards = wo.cards;
    cells = wo.cells;
    stands = wo.stands k;
  }

  -- and what is true after it
  pub world-after : (e : Step) (effect : Effect) (a : Worker) → Comes t.area t.team k (workers k) e effect a →
      (s : Kept t Others k v wo.round (workers k) effect (after_step v e) a) → (x : World t (after_step v e) (put workers k a)) × (x.round ≡ s.round)
  world-after e effect a comes s =
      let r = wo.round in
      let v' = after_step v e in
      let same : (j : ℕ) → todo_of t s.round.source (workers j) ≡ todo_of t r.source (workers j) = λ j. todo-later s.later j (workers j) (wo.stands j) in (
        record {
          round = s.round;
          going = moved-about s.going (split-put t r.source s.round.source v'.cell workers k a same)
              (join-put t r.source s.round.source v'.cell workers k a same);
          claims = s.claims;
          cards = s.cards;
          cells = s.cells;
          stands = put-all (λ j b. Stands t v' s.round j b) workers k a s.stands (λ j d. stands-later s.later j d (workers j) (wo.stands j));
          single = single-put t r.source s.round.source v'.cell workers k a same v.cell r.handled s.round.handled wo.single
              (s.single (single-split t r.source v.cell workers k r.handled wo.single));
          still = still t.area t.team k t.words v (workers k) e effect a comes wo.still;
        },
        refl,
      )

-- what a step leads to, and what it says of the slots handled and of the objects that moved and failed
pub record Stepped (t : Start) (v : Words) (workers : ℕ → Worker) (r : Round) (effect : Effect) : Type 0 where
  pub world : World t v workers
  pub handled : world.round.handled ≡ ended effect ++ r.handled
  pub moves : world.round.moves ≡ r.moves ++ moved effect
  pub fails : world.round.fails ≡ r.fails ++ failed effect

-- one step of any worker
pub one-step : (t : Start) (v : Words) (workers : ℕ → Worker) (k : ℕ) (e : Step) (effect : Effect) (a : Worker) → IsRoundOpening t →
    (wo : World t v workers) → Saw v e →
    Comes t.area t.team k (workers k) e effect a → Stepped t (after_step v e) (put workers k a) wo.round effect
one-step t v workers k e effect a o wo saw comes =
    let s = kept (workers k) e effect a comes saw (before-step t v workers k wo o) in
    let x = world-after t v workers k wo e effect a comes s in
    record {
      world = x.0;
      handled = ap (λ (r : Round). r.handled) x.1 ∙ s.told.0;
      moves = ap (λ (r : Round). r.moves) x.1 ∙ s.told.1;
      fails = ap (λ (r : Round). r.fails) x.1 ∙ s.told.2;
    }

-- what a list of events leads to
pub record Walked (t : Start) (v : Words) (workers : ℕ → Worker) (r : Round) (es : List WorkEvent) : Type 0 where
  pub world : World t v workers
  pub handled : world.round.handled ≡ ended_by r.handled es
  pub moves : world.round.moves ≡ moved_by r.moves es
  pub fails : world.round.fails ≡ failed_by r.fails es

pub one-by-one : (t : Start) (es : List WorkEvent) (v : Words) (workers last : ℕ → Worker) → IsRoundOpening t → (wo : World t v workers) →
    IsLegal v (steps es) →
    ((k : ℕ) → Follows t.area t.team k (workers k) (part k es) (last k)) → Walked t (replayed v (steps es)) last wo.round es
one-by-one t [] v workers last o wo legal follows =
    subst (λ (ws : ℕ → Worker). Walked t v ws wo.round []) (sym (fun_ext follows)) (record { world = wo; handled = refl; moves = refl; fails = refl })
one-by-one t (e ∷ es) v workers last o wo legal follows =
    let k = e.by in
    let mine = subst (λ q. Follows t.area t.team k (workers k) q (last k)) (part-same e es) (follows k) in
    let step = one-step t v workers k e.deed.step e.deed.effect mine.0 o wo legal.0 mine.1 in
    let rest = one-by-one t es (after_step v e.deed.step) (put workers k mine.0) last o step.world legal.1
    (put-all (λ j a. Follows t.area t.team j a (part j es) (last j)) workers k mine.0 mine.2
    (λ j n. subst (λ q. Follows t.area t.team j (workers j) q (last j)) (part-other j e es n) (follows j))) in
    record {
      world = rest.world;
      handled = rest.handled ∙ ap (λ (l : List ℕ). ended_by l es) step.handled;
      moves = rest.moves ∙ ap (λ (l : List ℕ). moved_by l es) step.moves;
      fails = rest.fails ∙ ap (λ (l : List ℕ). failed_by l es) step.fails;
    }

-- the round that has just begun
abbrev pub fresh : Round
fresh = record { m = λ a. a; source = λ x. x; owner = λ _. Nobody; handled = []; moves = []; fails = [] }

-- the items of a worker are known
known-dealt : (t : Start) (items : List Item) → ((x : ℕ) → HasWhole x items → In x t.wholes) →
    ((s : ℕ) → In s (slots_of t.area t.words.word (λ x. x) items) → In s t.items) →
    AreKnown t fresh items
known-dealt t [] wholes slots = tt
known-dealt t (SlotOf s ∷ items) wholes slots = (
  Given (slots s (in-left s (s ∷ []) (slots_of t.area t.words.word (λ x. x) items) (in-here s s [] refl))),
  known-dealt t items wholes (λ z h. slots z (in-right z (s ∷ []) (slots_of t.area t.words.word (λ x. x) items) h)),
)
known-dealt t (WholeOf x ∷ items) wholes slots = (
  inl (wholes x (inl refl)),
  known-dealt t items (λ y h. wholes y (inr h)) (λ z h.
      slots z (in-right z (slots_in t.area t.words.word (λ x. x) (WholeOf x)) (slots_of t.area t.words.word (λ x. x) items) h)),
)

module _ (t : Start) (o : IsRoundOpening t) where
  hand-none : (k : ℕ) → in_hand t (λ x. x) (t.workers k).mid ≡ []
  hand-none k = elim (o.dealt.mids k) [
    | inl e ↦ ap (in_hand t (λ x. x)) e.1
    | inr e ↦ ap (in_hand t (λ x. x)) e.0
  ]

  pub todo-dealt : (k : ℕ) → todo_of t (λ x. x) (t.workers k) ≡ slots_of t.area t.words.word (λ x. x) (t.workers k).list
  todo-dealt k =
      let rest = slots_of t.area t.words.word (λ x. x) (t.workers k).list in
      ap (λ (l : List ℕ). l ++ ((t.workers k).hand ++ rest)) (hand-none k) ∙ ap (λ (l : List ℕ). l ++ rest) (o.dealt.hands k)

  listed : (k s : ℕ) → In s (todo_of t (λ x. x) (t.workers k)) → In s (slots_of t.area t.words.word (λ x. x) (t.workers k).list)
  listed k s h = subst (λ (l : List ℕ). In s l) (todo-dealt k) h

  no-cell : (j s : ℕ) → InCell t (λ x. x) t.words.cell j s → ⊥
  no-cell j s c = no-item c.0 (sym c.1 ∙ o.dealt.cells j)

  only : (s : ℕ) → Slot t.area t.words.word t.items (λ a. a) [] [] s → Pending t (λ x. x) t.words.cell t.workers s
  only s (Given h) = let g = o.dealt.given s h in inl (g.0, subst (λ (l : List ℕ). In s l) (sym (todo-dealt g.0)) g.1)
  only s (Copied a i h l e q) = absurd (let z = h in cc)
  only s (Failed a i h l e q) = absurd (let z = h in cc)

  pub at-opening : World t t.words t.workers
  at-opening = record {
    round = fresh;
    going = record {
      once = (tt, tt);
      others = λ a h. refl;
      rest = λ y n. refl;
      target = λ a j h l. absurd (let z = h in cc);
      target_is = λ a y e. absurd (let z : Nobody ≡ Target a = e in cc);
      source_out = λ y n. refl;
      source_in = λ a j h l. absurd (let z = h in cc);
      words = λ y hm hf nc. refl;
      forwarded = λ a h. absurd (let z = h in cc);
      pinned = λ a h. absurd (let z = h in cc);
      moved = λ a h. absurd (let z = h in cc);
      failed = λ a h. absurd (let z = h in cc);
      settled = λ s x h e y. absurd (let z = h in cc);
      slots = λ s h. elim h [
        | inl p ↦ Given (elim p [ inl i ↦ o.dealt.only i.0 s (listed i.0 s i.1) | inr c ↦ absurd (no-cell c.0 s c.1) ])
        | inr h ↦ absurd (let z = h in cc)
      ];
      all = λ s k. inl (only s k);
    };
    claims = record {
      opened = λ b. inl refl;
      risen = λ b i e. e;
      clear = λ b z i y h f. refl;
      held = λ k at z y e. absurd (let q : Nobody ≡ Claimed k at z = e in cc);
      homed = λ a h. absurd (let z = h in cc);
      taken = λ b i e c. absurd (omega arith);
      full = λ a b h l. absurd (let z = h in cc);
      short = λ a h. absurd (let z = h in cc);
    };
    cards = record {
      marked = λ s x h card e y nm. absurd (let z = h in cc);
      kept = λ c n. n;
      changed = λ c. inl refl;
    };
    cells = record { filled = λ j. inl (o.dealt.cells j); beyond = λ j l. o.dealt.cells j };
    stands = λ k. record {
      member = elim (o.dealt.mids k) [ inl e ↦ inl e.0 | inr e ↦ inr (e.0, o.dealt.spares k) ];
      spares = λ z some. absurd (some (o.dealt.spares k z));
      classes = λ z some. absurd (some (o.dealt.spares k z));
      claims = λ at z y e. absurd (let q : Nobody ≡ Claimed k at z = e in cc);
      passed = λ z. ((let p = o.dealt.passed k z in omega arith), λ d l h. absurd (let p = o.dealt.passed k z in omega arith));
      known = known-dealt t (t.workers k).list (o.dealt.wholes k) (o.dealt.only k);
      few = (let f = o.dealt.few k in omega arith);
      at = elim (o.dealt.mids k) [
        | inl e ↦ subst (λ (m : Mid). AtMid t t.words fresh k (t.workers k).spare (t.workers k).list (t.workers k).hand m) (sym e.1) tt
        | inr e ↦ subst (λ (m : Mid). AtMid t t.words fresh k (t.workers k).spare (t.workers k).list (t.workers k).hand m) (sym e.0)
            (e.1, o.dealt.hands k, λ d l h. o.dealt.cells _)
      ];
    };
    single = record {
      lists = λ k. subst AreDistinct (sym (todo-dealt k)) (o.dealt.once k);
      apart = λ j k s h g. o.dealt.apart j k s (listed j s h) (listed k s g);
      celled = λ i k s c h. no-cell i s c;
      cells = λ i j s c d. absurd (no-cell i s c);
      done = λ s h p. (let z = h in cc);
      once = tt;
    };
    still = (refl, refl, refl, refl);
  }

pub opening-round : (t : Start) (o : IsRoundOpening t) → (at-opening t o).round ≡ fresh
unfolding at-opening
opening-round t o = refl

-- where a round in its midst stands
pub so-far : (t : Start) (v : Words) (workers : ℕ → Worker) (so : IsSoFar t v workers) → Walked t v workers fresh so.events
unfolding at-opening
so-far t v workers so =
    subst (λ (v : Words). Walked t v workers fresh so.events) so.is
    (one-by-one t so.events t.words t.workers workers so.opening (at-opening t so.opening) so.legal so.follows)
