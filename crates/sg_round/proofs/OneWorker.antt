-- The law of one worker alone.
use Rattle.std.proofs.Common.{◌≡◌, ℕ, List, [], ◌∷◌, ◌++◌, map, sym, refl, ap, ◌∙◌, subst, inl, inr, arith}
use Rattle.std.proofs.lemmas.List.{append-nil}
use Rattle.std.proofs.Math.Path.{fun_ext}
use Rattle.sg_words.specs.Lists.{In}
use Rattle.sg_words.specs.Words.{put, Words, Saw, after_step, replayed, IsLegal}
use Rattle.sg_words.specs.Found.IsFoundBy.{Begins}
use Rattle.sg_words.specs.declared.steps.Step.{Step}
use Rattle.sg_words.specs.declared.steps.BlockWord.{BlockWord}
use Rattle.sg_words.proofs.Puts.{put-same, put-all}
use Rattle.sg_round.specs.Area.{Area}
use Rattle.sg_round.specs.Items.{slots_of}
use Rattle.sg_round.specs.Worker.{Mid, Idle, Over, Worker}
use Rattle.sg_round.specs.Rules.{Effect, IsLooking, Comes, WorkEvent, steps, part, Follows, ended, moved, failed, ended_by, moved_by}
use Rattle.sg_round.specs.Rules.{failed_by}
use Rattle.sg_round.specs.Rules.Comes.{opens, counts, sees_none, sees, looks_forwarded, looks_fixed, looks_bare, looks_plain, has_spare, has_none, finds_free}
use Rattle.sg_round.specs.Rules.Comes.{finds_swept, finds_other, takes, takes_not}
use Rattle.sg_round.specs.Rules.Comes.{finds_clear, finds_full, marks, marks_not, reads, writes, clears, heads, forwards, loses, fails, fails_bare, fails_not}
use Rattle.sg_round.specs.Rules.Comes.{sends, dirties}
use Rattle.sg_round.specs.Rules.Comes.{keeps, prepares, offers, offers_not, seeks, ends, finds, grabs, grabs_not}
use Rattle.sg_round.specs.Order.{targets, strong_of, Fits, IsInOrder}
use Rattle.sg_round.specs.Laws.{OneWorkerLaw}
use Rattle.sg_round.specs.Round.{Start, IsRoundOpening, Round}
use Rattle.sg_round.proofs.Relation.{in_hand, todo_of, AtMid, Stands, World}
use Rattle.sg_round.proofs.Moves.{IsAwake}
use Rattle.sg_round.proofs.Looks.{next-awake}
use Rattle.sg_round.proofs.Cells.{may-awake}
use Rattle.sg_round.proofs.Kept.{kept}
use Rattle.sg_round.proofs.Queue.{firsts, in-firsts, map-self}
use Rattle.sg_round.proofs.Alone.{seen, IsAlone, IsWholeAt, AtFit, IsQueued}
use Rattle.sg_round.proofs.Finds.{queue-on}
use Rattle.sg_round.proofs.Law.{part-same, part-other, Others, before-step, world-after, fresh, at-opening, opening-round, todo-dealt}
use Rattle.sg_round.proofs.Done.{done, done-map}

-- who makes a step hasn't ended
looking-awake : (a : Worker) (i : ℕ) → IsLooking a i → IsAwake a.mid
looking-awake a i is = elim is.at [ inl e ↦ subst IsAwake (sym e.0) tt | inr e ↦ subst IsAwake (sym e) tt ]

comes-awake : (area : Area) (team k : ℕ) (a : Worker) (e : Step) (effect : Effect) (b : Worker) → Comes area team k a e effect b → IsAwake a.mid
comes-awake area team k _ _ _ _ (opens a b x u nx) = next-awake a _ b nx
comes-awake area team k _ _ _ _ (counts a x class u l) = tt
comes-awake area team k _ _ _ _ (sees_none a b s u nx none) = next-awake a _ b nx
comes-awake area team k _ _ _ _ (sees a b s x nx young) = next-awake a _ b nx
comes-awake area team k _ _ _ _ (looks_forwarded a s x to) = tt
comes-awake area team k _ _ _ _ (looks_fixed a s x class u fixed card) = tt
comes-awake area team k _ _ _ _ (looks_bare a s x class u fixed bare) = tt
comes-awake area team k _ _ _ _ (looks_plain a s x class) = tt
comes-awake area team k _ _ _ _ (has_spare a s o some) = tt
comes-awake area team k _ _ _ _ (has_none a s o none) = tt
comes-awake area team k _ _ _ _ (finds_free a s o b) = tt
comes-awake area team k _ _ _ _ (finds_swept a s o b) = tt
comes-awake area team k _ _ _ _ (finds_other a s o b state some other) = tt
comes-awake area team k _ _ _ _ (takes a s o b) = tt
comes-awake area team k _ _ _ _ (takes_not a s o b found) = tt
comes-awake area team k _ _ _ _ (finds_clear a s o b i u l clear set) = tt
comes-awake area team k _ _ _ _ (finds_full a s o b u set) = tt
comes-awake area team k _ _ _ _ (marks a s o b i u clear) = tt
comes-awake area team k _ _ _ _ (marks_not a s o b i u set) = tt
comes-awake area team k _ _ _ _ (reads a s o at j u less) = tt
comes-awake area team k _ _ _ _ (writes a s o at j u) = tt
comes-awake area team k _ _ _ _ (clears a s o at j past less) = tt
comes-awake area team k _ _ _ _ (heads a s o at j past) = tt
comes-awake area team k _ _ _ _ (forwards a s o at) = tt
comes-awake area team k _ _ _ _ (loses a s o at found) = tt
comes-awake area team k _ _ _ _ (fails a s o card) = tt
comes-awake area team k _ _ _ _ (fails_bare a s o bare) = tt
comes-awake area team k _ _ _ _ (fails_not a s o found) = tt
comes-awake area team k _ _ _ _ (sends a s to) = tt
comes-awake area team k _ _ _ _ (dirties a s) = tt
comes-awake area team k _ _ _ _ (keeps a list item i u several l may e some) = may-awake a.mid may
comes-awake area team k _ _ _ _ (prepares a list item i several l may e) = may-awake a.mid may
comes-awake area team k _ _ _ _ (offers a list item i next) = tt
comes-awake area team k _ _ _ _ (offers_not a list item i next found) = tt
comes-awake area team k _ _ _ _ (seeks a i is more) = looking-awake a i is
comes-awake area team k _ _ _ _ (ends a i is last) = looking-awake a i is
comes-awake area team k _ _ _ _ (finds a i item is) = looking-awake a i is
comes-awake area team k _ _ _ _ (grabs a i item) = tt
comes-awake area team k _ _ _ _ (grabs_not a i item found) = tt

-- what a list of events leads to, with the queue of worker 0
record QueueWalked (t : Start) (items : List ℕ) (v : Words) (workers : ℕ → Worker) (r : Round) (es : List WorkEvent) : Type 0 where
  pub world : World t v workers
  pub queue : IsQueued t items v world.round (workers 0)
  pub handled : world.round.handled ≡ ended_by r.handled es
  pub moves : world.round.moves ≡ moved_by r.moves es
  pub fails : world.round.fails ≡ failed_by r.fails es

module _ (t : Start) (o : IsRoundOpening t) (one : t.team ≡ 1) (items : List ℕ) where
  -- only worker 0 makes a step
  by-zero : (v : Words) (workers : ℕ → Worker) (wo : World t v workers) (k : ℕ) (e : Step) (effect : Effect) (a : Worker) →
      Comes t.area t.team k (workers k) e effect a → k ≡ 0
  by-zero v workers wo k e effect a comes = elim (wo.stands k).member [
    | inl l ↦ omega arith
    | inr h ↦ absurd (subst IsAwake h.0 (comes-awake t.area t.team k (workers k) e effect a comes))
  ]

  queue-step : (v : Words) (workers : ℕ → Worker) (k : ℕ) (e : Step) (effect : Effect) (a : Worker) → k ≡ 0 → (wo : World t v workers) →
      IsQueued t items v wo.round (workers 0) → Saw v e →
      Comes t.area t.team k (workers k) e effect a →
      (x : World t (after_step v e) (put workers k a)) × IsQueued t items (after_step v e) x.round (put workers k a 0) ×
      (x.round.handled ≡ ended effect ++ wo.round.handled) ×
      (x.round.moves ≡ wo.round.moves ++ moved effect) × (x.round.fails ≡ wo.round.fails ++ failed effect)
  queue-step v workers k e effect a is wo q saw comes = subst P (sym is) (λ comes. at-zero comes) comes
    where
      P : ℕ → Type 0
      P k = Comes t.area t.team k (workers k) e effect a →
          (x : World t (after_step v e) (put workers k a)) × IsQueued t items (after_step v e) x.round (put workers k a 0) ×
          (x.round.handled ≡ ended effect ++ wo.round.handled) ×
          (x.round.moves ≡ wo.round.moves ++ moved effect) × (x.round.fails ≡ wo.round.fails ++ failed effect)

      at-zero : P 0
      at-zero comes =
          let n = before-step t v workers 0 wo o in
          let s = kept (workers 0) e effect a comes saw n in
          let x = world-after t v workers 0 wo e effect a comes s in
          let later = queue-on t one items (Others t v workers 0 wo) v wo.round (workers 0) e effect a comes saw n s q in (
            x.0,
            subst (λ (r : Round). IsQueued t items (after_step v e) r (put workers 0 a 0)) (sym x.1)
                (subst (IsQueued t items (after_step v e) s.round) (sym (put-same workers 0 a)) later),
            ap (λ (r : Round). r.handled) x.1 ∙ s.told.0,
            ap (λ (r : Round). r.moves) x.1 ∙ s.told.1,
            ap (λ (r : Round). r.fails) x.1 ∙ s.told.2,
          )

  queue-walk : (es : List WorkEvent) (v : Words) (workers last : ℕ → Worker) → (wo : World t v workers) → IsQueued t items v wo.round (workers 0) →
      IsLegal v (steps es) →
      ((k : ℕ) → Follows t.area t.team k (workers k) (part k es) (last k)) → QueueWalked t items (replayed v (steps es)) last wo.round es
  queue-walk [] v workers last wo q legal follows =
      subst (λ (ws : ℕ → Worker). QueueWalked t items v ws wo.round []) (sym (fun_ext follows))
      (record { world = wo; queue = q; handled = refl; moves = refl; fails = refl })
  queue-walk (e ∷ es) v workers last wo q legal follows =
      let k = e.by in
      let mine = subst (λ q. Follows t.area t.team k (workers k) q (last k)) (part-same e es) (follows k) in
      let is = by-zero v workers wo k e.deed.step e.deed.effect mine.0 mine.1 in
      let step = queue-step v workers k e.deed.step e.deed.effect mine.0 is wo q legal.0 mine.1 in
      let rest = queue-walk es (after_step v e.deed.step) (put workers k mine.0) last step.0 step.1 legal.1
      (put-all (λ j a. Follows t.area t.team j a (part j es) (last j)) workers k mine.0 mine.2
      (λ j n. subst (λ q. Follows t.area t.team j (workers j) q (last j)) (part-other j e es n) (follows j))) in
      record {
        world = rest.world;
        queue = rest.queue;
        handled = rest.handled ∙ ap (λ (l : List ℕ). ended_by l es) step.2;
        moves = rest.moves ∙ ap (λ (l : List ℕ). moved_by l es) step.3;
        fails = rest.fails ∙ ap (λ (l : List ℕ). failed_by l es) step.4;
      }

-- the queue as a round opens
first-queue : (t : Start) → IsRoundOpening t → IsQueued t (slots_of t.area t.words.word (λ x. x) (t.workers 0).list) t.words fresh (t.workers 0)
first-queue t o =
    let items = slots_of t.area t.words.word (λ x. x) (t.workers 0).list in
    record {
      gone = [];
      found = [];
      block = t.words.block;
      used = t.words.used;
      line = ap (map (λ (x : ℕ). x)) (todo-dealt t o 0) ∙ map-self items;
      order = sym (ap (λ (l : List ℕ). firsts [] (targets t.area t.words.word l)) (by-mid (λ (m : Mid). seen fresh m ≡ []) refl refl));
      each = Begins;
      parts = (refl, refl, refl, refl);
      now = by-mid (AtFit t.area t.words.block t.words.used t.words.block t.words.used) (refl, refl) (refl, refl);
      whole = by-mid (IsWholeAt fresh) tt tt;
      none = o.dealt.spares 0;
      alone = by-mid IsAlone tt tt;
      cells = o.dealt.cells;
    }
  where
    by-mid : (P : Mid → Type 0) → P Idle → P Over → P (t.workers 0).mid
    by-mid P idle over = elim (o.dealt.mids 0) [ inl e ↦ subst P (sym e.1) idle | inr e ↦ subst P (sym e.0) over ]

-- the queue of a worker that has ended
last-queue : (t : Start) (items : List ℕ) (v : Words) (r : Round) (a : Worker) → IsQueued t items v r a → Stands t v r 0 a → a.mid ≡ Over →
    IsInOrder t.area t.words.word items r.m t.words.block t.words.used r.moves r.fails v.block v.used
last-queue t items v r a q st over =
    let w = t.words.word in
    let at = subst (AtMid t v r 0 a.spare a.list a.hand) over st.at in
    let todo : todo_of t r.source a ≡ [] = ap (λ (m : Mid). in_hand t r.source m ++ (a.hand ++ slots_of t.area w r.source a.list)) over
    ∙ ap (λ (l : List ℕ). l ++ slots_of t.area w r.source a.list) at.1 ∙ ap (slots_of t.area w r.source) at.0 in
    let line : q.gone ≡ items ++ strong_of t.area w q.found = sym (append-nil q.gone) ∙ ap (λ (l : List ℕ). q.gone ++ map r.source l) (sym todo) ∙ q.line in
    let order : q.found ≡ firsts [] (targets t.area w q.gone) = q.order
    ∙ ap (λ (l : List ℕ). firsts [] (targets t.area w l)) (ap (λ (l : List ℕ). q.gone ++ l) (ap (seen r) over) ∙ append-nil q.gone) in
    let now : (v.block ≡ q.block) × (v.used ≡ q.used) = subst (AtFit t.area v.block v.used q.block q.used) over q.now in
    record {
      found = q.found;
      searched = record {
        each = q.each;
        all = λ y h _. elim (in-firsts [] (targets t.area w q.gone) y (subst (λ (l : List ℕ). In y (targets t.area w l)) (sym line) h)) [
          | inl i ↦ absurd (let z = i in cc)
          | inr i ↦ subst (λ (l : List ℕ). In y l) (sym order) i
        ];
      };
      parts = subst (λ (f : ℕ → BlockWord). Fits t.area w r.m t.words.block t.words.used r.moves r.fails q.found f v.used) (sym now.0)
          (subst (λ (f : ℕ → ℕ). Fits t.area w r.m t.words.block t.words.used r.moves r.fails q.found q.block f) (sym now.1) q.parts);
    }

pub one_worker : OneWorkerLaw
one_worker t v workers so one over =
    let o = so.opening in
    let w = t.words.word in
    let es = so.events in
    let items = slots_of t.area w (λ x. x) (t.workers 0).list in
    let start = at-opening t o in
    let x0 = queue-walk t o one items es t.words t.workers workers start
    (subst (λ (r : Round). IsQueued t items t.words r (t.workers 0)) (sym (opening-round t o)) (first-queue t o)) so.legal so.follows in
    let x : QueueWalked t items v workers fresh es = subst (λ (v : Words). QueueWalked t items v workers fresh es) so.is
    (subst (λ (r : Round). QueueWalked t items (replayed t.words (steps es)) workers r es) (opening-round t o) x0) in
    let wo = x.world in
    let r = wo.round in
    let all : (k : ℕ) → (workers k).mid ≡ Over = λ k. elim (wo.stands k).member [
      | inl l ↦ subst (λ (j : ℕ). (workers j).mid ≡ Over) (let g : 0 ≡ k = omega arith in g) over
      | inr h ↦ h.0
    ] in
    let order = last-queue t items v r (workers 0) x.queue (wo.stands 0) over in
    let d = done o wo all es x.handled x.moves x.fails in
    record {
      done = d;
      none = λ k z. elim (wo.stands k).member [
        | inl l ↦ subst (λ (j : ℕ). (workers j).spare z ≡ 0) (let g : 0 ≡ k = omega arith in g) (x.queue.none z)
        | inr h ↦ h.1 z
      ];
      order = subst (λ (m : ℕ → ℕ). IsInOrder t.area w items m t.words.block t.words.used (moved_by [] es) (failed_by [] es) v.block v.used)
          (sym (done-map o wo all es x.handled x.moves x.fails))
          (subst (λ (l : List ℕ). IsInOrder t.area w items r.m t.words.block t.words.used l (failed_by [] es) v.block v.used) x.moves
          (subst (λ (l : List ℕ). IsInOrder t.area w items r.m t.words.block t.words.used r.moves l v.block v.used) x.fails order));
    }
