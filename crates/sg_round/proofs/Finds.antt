-- Where one worker finds an object: it moves to the place that it takes, or fails; and one line for each rule.
use Rattle.std.proofs.Common.{◌≡◌, ℕ, ◌+◌, ◌<◌, List, [], ◌∷◌, ◌++◌, map, sym, refl, ap, ◌∙◌, subst, inl, arith}
use Rattle.std.proofs.lemmas.List.{append-nil, map-append}
use Rattle.std.specs.Int.{bit_at}
use Rattle.sg_words.specs.Address.{byte_at}
use Rattle.sg_words.specs.Tags.{plain_word, pinned_word, forward_word}
use Rattle.sg_words.specs.Lists.{In}
use Rattle.sg_words.specs.Objects.{size_of}
use Rattle.sg_words.specs.Words.{put, Words, Saw, after_step}
use Rattle.sg_words.specs.Blocks.{slot_size}
use Rattle.sg_words.specs.declared.steps.BlockWord.{BlockWord}
use Rattle.sg_words.specs.declared.steps.Step.{Step}
use Rattle.sg_words.proofs.Members.{in-there}
use Rattle.sg_round.specs.Area.{class_of, place}
use Rattle.sg_round.specs.Items.{Item, WholeOf, slots_by, slots_in, slots_of}
use Rattle.sg_round.specs.Worker.{Object, Swap, Pin, Send, Dirty, Idle, On, Seek, Over, Worker, size_for, on}
use Rattle.sg_round.specs.Rules.{Effect, Moves, Fails, FailsEnding, moved, failed, Comes}
use Rattle.sg_round.specs.Rules.Comes.{opens, counts, sees_none, sees, looks_forwarded, looks_fixed, looks_bare, looks_plain, has_spare, has_none, finds_free}
use Rattle.sg_round.specs.Rules.Comes.{finds_swept, finds_other, takes, takes_not}
use Rattle.sg_round.specs.Rules.Comes.{finds_clear, finds_full, marks, marks_not, reads, writes, clears, heads, forwards, loses, fails, fails_bare, fails_not}
use Rattle.sg_round.specs.Rules.Comes.{sends, dirties}
use Rattle.sg_round.specs.Rules.Comes.{keeps, prepares, offers, offers_not, seeks, ends, finds, grabs, grabs_not}
use Rattle.sg_round.specs.Order.{targets, strong_of, IsLowest, Fits}
use Rattle.sg_round.specs.Round.{Start, Round, IsPassed}
use Rattle.sg_round.proofs.Relation.{todo_of, Kept}
use Rattle.sg_round.proofs.Going.{below-free, free-source}
use Rattle.sg_round.proofs.Steps.{class-is}
use Rattle.sg_round.proofs.Lists.{todo-last}
use Rattle.sg_round.proofs.Frame.{slots_of-later}
use Rattle.sg_round.proofs.Moves.{Before}
use Rattle.sg_round.proofs.Looks.{target-of}
use Rattle.sg_round.proofs.Swaps.{no-item}
use Rattle.sg_round.proofs.Queue.{firsts, its-slots, source-slots, line-on, line-more}
use Rattle.sg_round.proofs.Fits.{with_block, with_bit, fits-moved, fits-failed, fits-map}
use Rattle.sg_round.proofs.Alone.{IsQueued, in-round, map-kept, new-order, new-each}
use Rattle.sg_round.proofs.Queued.{Result, never-lost, queue-opens, queue-counts, queue-sees-none, queue-sees, queue-forwarded, queue-fixed, queue-bare}
use Rattle.sg_round.proofs.Queued.{queue-plain, queue-none, queue-free, queue-swept, queue-other, queue-takes, queue-takes-not, queue-clear, queue-full}
use Rattle.sg_round.proofs.Queued.{queue-marks}
use Rattle.sg_round.proofs.Queued.{queue-reads, queue-writes, queue-clears, queue-heads, queue-fails-not, queue-sends, queue-dirties, queue-looks}

module _ (t : Start) (items : List ℕ) (others : ℕ → Type 0) (v : Words) (r : Round) where
  abbrev w : ℕ → ℕ
  w = t.words.word

  pub queue-moves : (a : Worker) (sl : ℕ) (o : Object) (at : ℕ) →
      Result t items others v r (on a sl (Swap o at)) (Moves o.x) (record v { word = put v.word o.x (forward_word (byte_at at)) })
      (record a { list = a.list ++ WholeOf at ∷ []; mid = On sl (Send at) })
  queue-moves a sl o at n s q =
      let a0 = on a sl (Swap o at) in
      let b : Worker = record a { list = a.list ++ WholeOf at ∷ []; mid = On sl (Send at) } in
      let v' : Words = record v { word = put v.word o.x (forward_word (byte_at at)) } in
      let r' = s.round in
      let x = o.x in
      let read = n.stands.at.0.seen in
      let len = n.stands.at.0.length in
      let p = n.stands.at.0.plain in
      let sa = s.stands.at in
      let slots-old = in-round t items others v v' r a0 b (Moves x) n s q in
      let here : r'.source sl ≡ r.source sl = s.later.sources sl read.slot in
      let x1 : x ≡ sa.0 = (let e = ap w here ∙ read.held in let f = sa.1.held in omega arith) in
      let m-x : r'.m x ≡ at = ap r'.m x1 ∙ sa.3 in
      let in-x : In x r'.moves = subst (λ (z : ℕ). In z r'.moves) (sym x1) sa.2 in
      let from-copy : (j : ℕ) → j < size_of w x → r'.source (at + j) ≡ x + j = λ j l. ap (λ (y : ℕ). r'.source (y + j)) (sym m-x)
      ∙ s.going.source_in x j in-x l in
      let item : slots_in t.area w r'.source (WholeOf at) ≡ slots_by t.area o.class at o.n =
      ap (λ (y : ℕ). slots_by t.area (class_of (w y)) at (w (r'.source (at + 1))))
      (ap r'.source (let g : at ≡ at + 0 = omega arith in g) ∙ from-copy 0 (omega arith) ∙ (let g : x + 0 ≡ x = omega arith in g))
      ∙ ap (λ (y : ℕ). slots_by t.area (class_of (w x)) at (w y)) (from-copy 1 (omega arith))
      ∙ ap (λ (c : ℕ). slots_by t.area c at (w (x + 1))) (class-is w x o.class p) ∙ ap (slots_by t.area o.class at) len in
      let todo : todo_of t r'.source b ≡ todo_of t r.source a0 ++ slots_by t.area o.class at o.n =
      todo-last t.area w r'.source (sl ∷ []) a.hand a.list (WholeOf at)
      ∙ ap (λ (l : List ℕ). (sl ∷ (a.hand ++ slots_of t.area w r'.source a.list)) ++ l) item
      ∙ ap (λ (l : List ℕ). (sl ∷ (a.hand ++ l)) ++ slots_by t.area o.class at o.n) (slots_of-later s.later a.list n.stands.known) in
      let from : map r'.source (slots_by t.area o.class at o.n) ≡ slots_by t.area o.class x o.n = source-slots t.area o.class x at o.n r'.source
      (λ j l. ap r'.source (let g : at + 2 + j ≡ at + (2 + j) = omega arith in g) ∙ from-copy (2 + j) (omega arith)
      ∙ (let g : x + (2 + j) ≡ x + 2 + j = omega arith in g)) in
      let ord : q.found ≡ firsts [] (targets t.area w q.gone) = q.order ∙ ap (λ (l : List ℕ). firsts [] (targets t.area w l)) (append-nil q.gone) in
      let fit = q.now in
      let size : (m : ℕ) → o.n ≡ m → slot_size (o.n + 2) ≡ slot_size (m + 2) = λ m e. ap (λ (n : ℕ). slot_size (n + 2)) e in
      let same : slot_size (o.n + 2) ≡ slot_size (size_of w x) = size (w (x + 1)) (sym len) in
      let parts0 : Fits t.area w r'.m t.words.block t.words.used r.moves r.fails q.found q.block q.used =
      fits-map t.area w r.m r'.m q.block q.used t.words.block t.words.used r.moves r.fails q.found (λ y h. (s.later.moves y h).1) q.parts in
      let parts1 = fits-moved t.area w r'.m x q.block q.used fit.b fit.i (subst (λ (z : ℕ). IsLowest t.area q.block q.used z fit.b fit.i) same fit.low)
      (m-x ∙ fit.place_is ∙ ap (λ (z : ℕ). place t.area fit.b z fit.i) same) t.words.block t.words.used r.moves r.fails q.found parts0 in
      record {
        gone = q.gone;
        found = q.found ++ x ∷ [];
        block = with_block q.block fit.b (slot_size (size_of w x));
        used = with_bit q.used fit.b fit.i;
        line = line-more q.gone (map r.source (todo_of t r.source a0)) (slots_by t.area o.class x o.n) items (strong_of t.area w q.found)
            (strong_of t.area w (q.found ++ x ∷ [])) (map r'.source (todo_of t r'.source b)) q.line
            (ap (map r'.source) todo ∙ map-append r'.source (todo_of t r.source a0) (slots_by t.area o.class at o.n)
            ∙ ap (λ (l : List ℕ). l ++ map r'.source (slots_by t.area o.class at o.n))
            (map-kept t items others v v' r a0 b (Moves x) n s q (todo_of t r.source a0) slots-old)
            ∙ ap (λ (l : List ℕ). map r.source (todo_of t r.source a0) ++ l) from)
            (its-slots t.area w q.found x o.class o.n p len);
        order = new-order t items others v v' r a0 b (Moves x) n s q q.gone (r.source sl) x o.class ord read.held read.young p q.whole
            ∙ ap (λ (u : ℕ). firsts [] (targets t.area w (q.gone ++ u ∷ []))) (sym here);
        each = new-each t items others v v' r a0 b (Moves x) n s q q.gone (map r.source (a.hand ++ slots_of t.area w r.source a.list))
            (r.source sl) x o.class q.line ord read.held read.young p q.whole;
        parts = subst (λ (l : List ℕ). Fits t.area w r'.m t.words.block t.words.used l r'.fails (q.found ++ x ∷ [])
            (with_block q.block fit.b (slot_size (size_of w x))) (with_bit q.used fit.b fit.i)) (sym s.told.1)
            (subst (λ (l : List ℕ). Fits t.area w r'.m t.words.block t.words.used (r.moves ++ x ∷ []) l (q.found ++ x ∷ [])
            (with_block q.block fit.b (slot_size (size_of w x))) (with_bit q.used fit.b fit.i))
            (sym (s.told.2 ∙ append-nil r.fails)) parts1);
        now = (fit.blocks_are ∙ ap (with_block q.block fit.b) same, fit.bits_are);
        whole = tt;
        none = q.none;
        alone = tt;
        cells = q.cells;
      }

  -- what comes of an object that fails, in the opening
  module _ (a : Worker) (sl : ℕ) (o : Object) (b : Worker) (effect : Effect) (v' : Words) (n : Before t others 0 v r (on a sl (Pin o)))
      (s : Kept t others 0 v r (on a sl (Pin o)) effect v' b)
      (q : IsQueued t items v r (on a sl (Pin o))) (list : b.list ≡ a.list ++ WholeOf o.x ∷ []) (hand : b.hand ≡ a.hand) where
    failed-rest : map s.round.source (b.hand ++ slots_of t.area w s.round.source b.list) ≡ map r.source
        (a.hand ++ slots_of t.area w r.source a.list) ++ slots_by t.area o.class o.x o.n
    failed-rest =
        let a0 = on a sl (Pin o) in
        let r' = s.round in
        let x = o.x in
        let h = n.stands.at.0 in
        let inside = (n.opening.opening.inside x (inl (target-of a0 sl x n h.seen))).1 in
        let len = h.length in
        let free : (y : ℕ) → y < t.area.high → r'.source y ≡ y = λ y l. free-source n.opening.opening s.going y (below-free n.opening.opening s.going y l) in
        let item : slots_in t.area w r'.source (WholeOf x) ≡ slots_by t.area o.class x o.n =
        ap (λ (y : ℕ). slots_by t.area (class_of (w y)) x (w (r'.source (x + 1)))) (free x (omega arith))
        ∙ ap (λ (y : ℕ). slots_by t.area (class_of (w x)) x (w y)) (free (x + 1) (omega arith))
        ∙ ap (λ (c : ℕ). slots_by t.area c x (w (x + 1))) (class-is w x o.class h.plain) ∙ ap (slots_by t.area o.class x) len in
        let old = a.hand ++ slots_of t.area w r.source a.list in
        let todo : b.hand ++ slots_of t.area w r'.source b.list ≡ old ++ slots_by t.area o.class x o.n =
        ap (λ (l : List ℕ). l ++ slots_of t.area w r'.source b.list) hand ∙ ap (λ (l : List Item). a.hand ++ slots_of t.area w r'.source l) list
        ∙ todo-last t.area w r'.source [] a.hand a.list (WholeOf x) ∙ ap (λ (l : List ℕ). (a.hand ++ slots_of t.area w r'.source a.list) ++ l) item
        ∙ ap (λ (l : List ℕ). (a.hand ++ l) ++ slots_by t.area o.class x o.n) (slots_of-later s.later a.list n.stands.known) in
        let from : map r'.source (slots_by t.area o.class x o.n) ≡ slots_by t.area o.class x o.n =
        source-slots t.area o.class x x o.n r'.source (λ j l. free (x + 2 + j) (omega arith)) in
        ap (map r'.source) todo ∙ map-append r'.source old (slots_by t.area o.class x o.n)
        ∙ ap (λ (l : List ℕ). l ++ map r'.source (slots_by t.area o.class x o.n))
        (map-kept t items others v v' r a0 b effect n s q old (λ z i. in-round t items others v v' r a0 b effect n s q z (in-there z sl old i)))
        ∙ ap (λ (l : List ℕ). map r.source old ++ l) from

    failed-parts : moved effect ≡ [] → failed effect ≡ o.x ∷ [] →
        Fits t.area w s.round.m t.words.block t.words.used s.round.moves s.round.fails (q.found ++ o.x ∷ []) q.block q.used
    failed-parts em ef =
        let x = o.x in
        let r' = s.round in
        let h = n.stands.at in
        let same : slot_size (o.n + 2) ≡ slot_size (size_of w x) = ap (λ (n : ℕ). slot_size (n + 2)) (sym h.0.length) in
        let full : (b : ℕ) → b < t.area.blocks → IsPassed q.block q.used (slot_size (size_of w x)) b = λ b l.
        subst (λ (z : ℕ). IsPassed q.block q.used z b) same
        (subst (λ (f : ℕ → BlockWord). IsPassed f q.used (size_for o) b) q.now.0
        (subst (λ (f : ℕ → ℕ). IsPassed v.block f (size_for o) b) q.now.1 (h.1 b l l))) in
        let parts0 = fits-map t.area w r.m r'.m q.block q.used t.words.block t.words.used r.moves r.fails q.found (λ y h. (s.later.moves y h).1) q.parts in
        subst (λ (l : List ℕ). Fits t.area w r'.m t.words.block t.words.used l r'.fails (q.found ++ x ∷ []) q.block q.used)
        (sym (s.told.1 ∙ ap (λ (l : List ℕ). r.moves ++ l) em ∙ append-nil r.moves))
        (subst (λ (l : List ℕ). Fits t.area w r'.m t.words.block t.words.used r.moves l (q.found ++ x ∷ []) q.block q.used)
        (sym (s.told.2 ∙ ap (λ (l : List ℕ). r.fails ++ l) ef))
        (fits-failed t.area w r'.m x q.block q.used full t.words.block t.words.used r.moves r.fails q.found parts0))

  pub queue-fails : (a : Worker) (sl : ℕ) (o : Object) → Result t items others v r (on a sl (Pin o)) (Fails o.x)
      (record v { word = put v.word o.x (pinned_word o.class) })
      (record a { list = a.list ++ WholeOf o.x ∷ []; passed = put a.passed (size_for o) t.area.blocks; mid = On sl Dirty })
  queue-fails a sl o n s q =
      let a0 = on a sl (Pin o) in
      let b : Worker = record a { list = a.list ++ WholeOf o.x ∷ []; passed = put a.passed (size_for o) t.area.blocks; mid = On sl Dirty } in
      let v' : Words = record v { word = put v.word o.x (pinned_word o.class) } in
      let r' = s.round in
      let x = o.x in
      let h = n.stands.at.0 in
      let here : r'.source sl ≡ r.source sl = s.later.sources sl h.seen.slot in
      let ord : q.found ≡ firsts [] (targets t.area w q.gone) = q.order ∙ ap (λ (l : List ℕ). firsts [] (targets t.area w l)) (append-nil q.gone) in
      let rest = map r.source (a.hand ++ slots_of t.area w r.source a.list) in
      record {
        gone = q.gone;
        found = q.found ++ x ∷ [];
        block = q.block;
        used = q.used;
        line = line-more q.gone (r.source sl ∷ rest) (slots_by t.area o.class x o.n) items (strong_of t.area w q.found)
            (strong_of t.area w (q.found ++ x ∷ [])) (map r'.source (todo_of t r'.source b)) q.line
            (ap (λ (u : ℕ). u ∷ map r'.source (b.hand ++ slots_of t.area w r'.source b.list)) here
            ∙ ap (λ (l : List ℕ). r.source sl ∷ l) (failed-rest a sl o b (Fails x) v' n s q refl refl))
            (its-slots t.area w q.found x o.class o.n h.plain h.length);
        order = new-order t items others v v' r a0 b (Fails x) n s q q.gone (r.source sl) x o.class ord h.seen.held h.seen.young h.plain q.whole
            ∙ ap (λ (u : ℕ). firsts [] (targets t.area w (q.gone ++ u ∷ []))) (sym here);
        each = new-each t items others v v' r a0 b (Fails x) n s q q.gone rest (r.source sl) x o.class q.line ord h.seen.held h.seen.young h.plain q.whole;
        parts = failed-parts a sl o b (Fails x) v' n s q refl refl refl refl;
        now = q.now;
        whole = tt;
        none = q.none;
        alone = tt;
        cells = q.cells;
      }

  pub queue-fails-bare : (a : Worker) (sl : ℕ) (o : Object) → Result t items others v r (on a sl (Pin o)) (FailsEnding o.x sl)
      (record v { word = put v.word o.x (pinned_word o.class) })
      (record a { list = a.list ++ WholeOf o.x ∷ []; passed = put a.passed (size_for o) t.area.blocks; mid = Idle })
  queue-fails-bare a sl o n s q =
      let a0 = on a sl (Pin o) in
      let b : Worker = record a { list = a.list ++ WholeOf o.x ∷ []; passed = put a.passed (size_for o) t.area.blocks; mid = Idle } in
      let v' : Words = record v { word = put v.word o.x (pinned_word o.class) } in
      let r' = s.round in
      let x = o.x in
      let h = n.stands.at.0 in
      let ord : q.found ≡ firsts [] (targets t.area w q.gone) = q.order ∙ ap (λ (l : List ℕ). firsts [] (targets t.area w l)) (append-nil q.gone) in
      let rest = map r.source (a.hand ++ slots_of t.area w r.source a.list) in
      record {
        gone = q.gone ++ r.source sl ∷ [];
        found = q.found ++ x ∷ [];
        block = q.block;
        used = q.used;
        line = line-on q.gone rest (slots_by t.area o.class x o.n) items (strong_of t.area w q.found) (strong_of t.area w (q.found ++ x ∷ []))
            (map r'.source (todo_of t r'.source b)) (r.source sl) q.line
            (failed-rest a sl o b (FailsEnding x sl) v' n s q refl refl) (its-slots t.area w q.found x o.class o.n h.plain h.length);
        order = new-order t items others v v' r a0 b (FailsEnding x sl) n s q q.gone (r.source sl) x o.class ord h.seen.held h.seen.young h.plain q.whole
            ∙ ap (λ (l : List ℕ). firsts [] (targets t.area w l)) (sym (append-nil (q.gone ++ r.source sl ∷ [])));
        each = new-each t items others v v' r a0 b (FailsEnding x sl) n s q q.gone rest
            (r.source sl) x o.class q.line ord h.seen.held h.seen.young h.plain q.whole;
        parts = failed-parts a sl o b (FailsEnding x sl) v' n s q refl refl refl refl;
        now = q.now;
        whole = tt;
        none = q.none;
        alone = tt;
        cells = q.cells;
      }

-- one step of a single worker: one line for each rule
pub queue-on : (t : Start) → t.team ≡ 1 → (items : List ℕ) (others : ℕ → Type 0) (v : Words) (r : Round) (a : Worker) (e : Step) (effect : Effect)
    (b : Worker) →
    Comes t.area t.team 0 a e effect b → Saw v e → Result t items others v r a effect (after_step v e) b
queue-on t one items others v r _ _ _ _ (opens a b x u nx) saw n s q = queue-opens t items others v r a b x (class_of u) nx n s q
queue-on t one items others v r _ _ _ _ (counts a x class u l) saw n s q = queue-counts t items others v r a x class u saw n s q
queue-on t one items others v r _ _ _ _ (sees_none a b sl u nx none) saw n s q = queue-sees-none t items others v r a b sl nx n s q
queue-on t one items others v r _ _ _ _ (sees a b sl x nx young) saw n s q = queue-sees t items others v r a b sl x nx n s q
queue-on t one items others v r _ _ _ _ (looks_forwarded a sl x to) saw n s q = queue-forwarded t items others v r a sl x to saw n s q
queue-on t one items others v r _ _ _ _ (looks_fixed a sl x class u fixed card) saw n s q = queue-fixed t items others v r a sl x class u fixed saw n s q
queue-on t one items others v r _ _ _ _ (looks_bare a sl x class u fixed bare) saw n s q = queue-bare t items others v r a sl x n s q
queue-on t one items others v r _ _ _ _ (looks_plain a sl x class) saw n s q = queue-plain t items others v r a sl x class saw n s q
queue-on t one items others v r _ _ _ _ (has_spare a sl o some) saw n s q = absurd (some (q.none (size_for o)))
queue-on t one items others v r _ _ _ _ (has_none a sl o none) saw n s q = queue-none t items others v r a sl o n s q
queue-on t one items others v r _ _ _ _ (finds_free a sl o b) saw n s q = queue-free t items others v r a sl o b saw n s q
queue-on t one items others v r _ _ _ _ (finds_swept a sl o b) saw n s q = queue-swept t items others v r a sl o b n s q
queue-on t one items others v r _ _ _ _ (finds_other a sl o b state some other) saw n s q = queue-other t items others v r a sl o b state other saw n s q
queue-on t one items others v r _ _ _ _ (takes a sl o b) saw n s q = queue-takes t items others v r a sl o b saw n s q
queue-on t one items others v r _ _ _ _ (takes_not a sl o b found) saw n s q = queue-takes-not t items others v r a sl o b n s q
queue-on t one items others v r _ _ _ _ (finds_clear a sl o b i u l clear set) saw n s q = queue-clear t items others v r a sl o b i u clear set saw n s q
queue-on t one items others v r _ _ _ _ (finds_full a sl o b u set) saw n s q = queue-full t items others v r a sl o b u set saw n s q
queue-on t one items others v r _ _ _ _ (marks a sl o b i u clear) saw n s q = queue-marks t items others v r a sl o b i n s q
queue-on t one items others v r _ _ _ _ (marks_not a sl o b i u set) saw n s q =
    absurd (let e = q.now.1 in let f = ap (λ (w : ℕ). bit_at w i) saw in omega arith)
queue-on t one items others v r _ _ _ _ (reads a sl o at j u less) saw n s q = queue-reads t items others v r a sl o at j u n s q
queue-on t one items others v r _ _ _ _ (writes a sl o at j u) saw n s q = queue-writes t items others v r a sl o at j u (at + j) u n s q
queue-on t one items others v r _ _ _ _ (clears a sl o at j past less) saw n s q = queue-clears t items others v r a sl o at j (at + j) 0 n s q
queue-on t one items others v r _ _ _ _ (heads a sl o at j past) saw n s q = queue-heads t items others v r a sl o at j at (plain_word o.class) n s q
queue-on t one items others v r _ _ _ _ (forwards a sl o at) saw n s q = queue-moves t items others v r a sl o at n s q
queue-on t one items others v r _ _ _ _ (loses a sl o at found) saw n s q = absurd (saw.1 (sym saw.0 ∙ never-lost t items others v r a sl o at n q))
queue-on t one items others v r _ _ _ _ (fails a sl o card) saw n s q = queue-fails t items others v r a sl o n s q
queue-on t one items others v r _ _ _ _ (fails_bare a sl o bare) saw n s q = queue-fails-bare t items others v r a sl o n s q
queue-on t one items others v r _ _ _ _ (fails_not a sl o found) saw n s q = queue-fails-not t items others v r a sl o n s q
queue-on t one items others v r _ _ _ _ (sends a sl to) saw n s q = queue-sends t items others v r a sl to n s q
queue-on t one items others v r _ _ _ _ (dirties a sl) saw n s q = queue-dirties t items others v r a sl _ n s q
queue-on t one items others v r _ _ _ _ (keeps a list item i u several l may e some) saw n s q = absurd (omega arith)
queue-on t one items others v r _ _ _ _ (prepares a list item i several l may e) saw n s q = absurd (omega arith)
queue-on t one items others v r _ _ _ _ (offers a list item i next) saw n s q = absurd q.alone
queue-on t one items others v r _ _ _ _ (offers_not a list item i next found) saw n s q = absurd q.alone
queue-on t one items others v r _ _ _ _ (seeks a i is more) saw n s q =
    queue-looks t items others v r a i (Seek (i + 1)) is tt refl (λ now bits block used h. h) (λ r. tt) (λ r. refl) (λ r. tt) n s q
queue-on t one items others v r _ _ _ _ (ends a i is last) saw n s q =
    queue-looks t items others v r a i Over is tt refl (λ now bits block used h. h) (λ r. tt) (λ r. refl) (λ r. tt) n s q
queue-on t one items others v r _ _ _ _ (finds a i item is) saw n s q = absurd (no-item item (sym saw ∙ q.cells _))
queue-on t one items others v r _ _ _ _ (grabs a i item) saw n s q = absurd q.alone
queue-on t one items others v r _ _ _ _ (grabs_not a i item found) saw n s q = absurd q.alone
