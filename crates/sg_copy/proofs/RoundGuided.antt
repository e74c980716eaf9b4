-- The worker of a round of one is guided over the plain space.
use Rattle.std.proofs.Common.{◌≡◌, ℕ, ◌+◌, ◌-◌, ◌*◌, ◌%◌, ◌<◌, ◌≤◌}
use Rattle.std.proofs.Common.{List, [], ◌∷◌, ◌++◌, length, inl, inr, refl, sym, ap, ◌∙◌, subst, arith}
use Rattle.std.proofs.lemmas.Bool.{cases_eq}
use Rattle.std.proofs.lemmas.List.{append-nil}
use Rattle.std.proofs.Math.Path.{fun_ext}
use Rattle.sg_words.specs.Words.{put, Words, Saw, after_step, replayed, IsLegal}
use Rattle.sg_words.specs.Programs.{FollowsBy, SeesNext}
use Rattle.sg_words.specs.Calls.{call_of}
use Rattle.sg_words.specs.Sections.{words_end}
use Rattle.sg_words.specs.declared.layout.Layout.{Layout}
use Rattle.sg_words.specs.declared.steps.Step.{Step}
use Rattle.sg_words.proofs.Puts.{put-at, put-same, put-other}
use Rattle.sg_words.proofs.Members.{in-here}
use Rattle.sg_words.proofs.Blocks.{class_bounds, class_slots, slot_size-class, slot_size-holds}
use Rattle.sg_space.specs.Space.{Contents, IsContents}
use Rattle.sg_round.specs.Area.{Area, HasCard, card_at}
use Rattle.sg_round.specs.Items.{Item, SlotOf, WholeOf}
use Rattle.sg_round.specs.Worker.{Object, Worker, size_for}
use Rattle.sg_round.specs.Rules.{Effect, Nothing, Ends, Moves, Fails, FailsEnding, IsNext, Comes}
use Rattle.sg_round.specs.Rules.{Deed, WorkEvent, by_one, Follows, moved, failed, moved_by, failed_by}
use Rattle.sg_round.specs.Rules.IsNext.{Of_hand, Of_list, Of_cell}
use Rattle.sg_round.specs.Rules.Comes.{opens, counts, sees_none, sees, looks_forwarded, looks_fixed, looks_bare, looks_plain, has_spare, has_none, finds_free}
use Rattle.sg_round.specs.Rules.Comes.{finds_swept, finds_other, takes, takes_not, finds_clear, finds_full, marks, marks_not, reads, writes, clears, heads}
use Rattle.sg_round.specs.Rules.Comes.{forwards, loses, fails, fails_bare, fails_not, sends, dirties}
use Rattle.sg_round.specs.Rules.Comes.{keeps, prepares, offers, offers_not, seeks, ends, finds, grabs, grabs_not}
use Rattle.sg_round.specs.Sane.{IsWord, IsSaneItem, IsSane}
use Rattle.sg_round.specs.Round.{Start}
use Rattle.sg_round.specs.Laws.{IsSoFar, Went, steps_of, TellsSoFar, BoundedLaw, GoesAlways}
use Rattle.sg_copy.specs.Copying.{area_of, IsStillBeside}
use Rattle.sg_copy.specs.Telling.{Seat, Teller, moves_with, fails_with, Tells, IsSaneTeller}
use Rattle.sg_copy.specs.Plain.{Allows, IsWordIn}
use Rattle.sg_copy.specs.Rounds.{resting, alone}

-- worker 0 of one over an area of a space
abbrev pub seat_in : Area → ℕ → Seat
seat_in area most = record { area = area; team = 1; most = most; number = 0 }

-- the calls of worker 0 of one are allowed, where the space has the sections of the first one
module _ (s0 s : Contents) (cells : List ℕ) (is : IsContents s0) (still : IsStillBeside s0 s) (as_many : length cells ≡ 64) where
  layout-is : s.layout ≡ s0.layout
  layout-is = ap (λ (c : Contents). c.layout) still.same

  word-there : (x : ℕ) → IsWord (area_of s0) x → IsWordIn s x
  word-there x h =
      let limits = is.layout in let words = is.words in let count = still.words in let above = h.0 in let below = h.1 in
      ((h.0, subst (λ (layout : Layout). x < words_end layout) (sym layout-is) h.1), omega arith, omega arith)

  block-there : (b : ℕ) → b < (area_of s0).blocks → b < length s.blocks
  block-there b l = let count = still.blocks in let blocks = is.blocks in omega arith

  used-there : (b : ℕ) → b < (area_of s0).blocks → b < length s.used
  used-there b l = let count = still.used in let blocks = is.used in omega arith

  card-there : (x : ℕ) → HasCard (area_of s0) x → card_at (area_of s0) x < length s.cards
  card-there x h = let count = still.cards in let cards = is.cards in let above = h.0 in let below = h.1 in omega arith

  young-there : (x : ℕ) → ((area_of s0).low ≤ x) × (x < (area_of s0).high) → IsWordIn s x
  young-there x h = word-there x (h.0, (let l = h.1 in omega arith))

  slot-next : (most k : ℕ) (a : Worker) (item : Item) (z : ℕ) (b : Worker) → item ≡ SlotOf z → IsNext a item b → IsSane (area_of s0) 1 most k a →
      IsWord (area_of s0) z
  slot-next most k _ _ z _ e (Of_hand a s rest) sane = sane.hand z (in-here z s rest (let f : SlotOf s ≡ SlotOf z = e in cc))
  slot-next most k _ _ z _ e (Of_list a item rest) sane = subst (IsSaneItem (area_of s0)) e sane.list.0
  slot-next most k _ _ z _ e (Of_cell a item) sane = subst (IsSaneItem (area_of s0)) e sane.at.0

  whole-next : (most k : ℕ) (a : Worker) (item : Item) (z : ℕ) (b : Worker) → item ≡ WholeOf z → IsNext a item b → IsSane (area_of s0) 1 most k a →
      IsSaneItem (area_of s0) (WholeOf z)
  whole-next most k _ _ z _ e (Of_hand a s rest) sane = absurd (let f : SlotOf s ≡ WholeOf z = e in cc)
  whole-next most k _ _ z _ e (Of_list a item rest) sane = subst (IsSaneItem (area_of s0)) e sane.list.0
  whole-next most k _ _ z _ e (Of_cell a item) sane = subst (IsSaneItem (area_of s0)) e sane.at.0

  copy-word : (o : Object) (at j : ℕ) → (area_of s0).high ≤ at → at + size_for o ≤ (area_of s0).rows → j < size_for o → IsWordIn s (at + j)
  copy-word o at j above below l = word-there (at + j) (omega arith, omega arith)

  cell-there : (c : ℕ) → c < 8 → c < length cells
  cell-there c l = omega arith

  pub may-call : (most : ℕ) (a : Worker) (step : Step) (effect : Effect) (b : Worker) → Comes (area_of s0) 1 0 a step effect b → IsSane
      (area_of s0) 1 most 0 a →
      Allows s cells (call_of step)
  may-call most _ _ _ _ (opens a b t u nx) sane = let h = whole-next most 0 a (WholeOf t) t b refl nx sane in let l = h.1 in word-there t (h.0, omega arith)
  may-call most _ _ _ _ (counts a t class n l) sane = let h = sane.at.0 in let m = h.0 in let l = h.1 in word-there (t + 1) (omega arith, omega arith)
  may-call most _ _ _ _ (sees_none a b s u nx none) sane = word-there s (slot-next most 0 a (SlotOf s) s b refl nx sane)
  may-call most _ _ _ _ (sees a b s x nx young) sane = word-there s (slot-next most 0 a (SlotOf s) s b refl nx sane)
  may-call most _ _ _ _ (looks_forwarded a s x t) sane = young-there x sane.at.1
  may-call most _ _ _ _ (looks_fixed a s x class u fixed card) sane = young-there x sane.at.1
  may-call most _ _ _ _ (looks_bare a s x class u fixed bare) sane = young-there x sane.at.1
  may-call most _ _ _ _ (looks_plain a s x class) sane = young-there x sane.at.1
  may-call most _ _ _ _ (has_spare a s o some) sane = let h = sane.at.1 in let m = h.0.0 in young-there (o.x + 1) (omega arith, h.1)
  may-call most _ _ _ _ (has_none a s o none) sane = let h = sane.at.1 in let m = h.0.0 in young-there (o.x + 1) (omega arith, h.1)
  may-call most _ _ _ _ (finds_free a s o b) sane = block-there b sane.at.1.1
  may-call most _ _ _ _ (finds_swept a s o b) sane = block-there b sane.at.1.1
  may-call most _ _ _ _ (finds_other a s o b state some other) sane = block-there b sane.at.1.1
  may-call most _ _ _ _ (takes a s o b) sane = block-there b sane.at.1.1
  may-call most _ _ _ _ (takes_not a s o b u) sane = block-there b sane.at.1.1
  may-call most _ _ _ _ (finds_clear a s o b i u l clear set) sane = used-there b sane.at.1.1
  may-call most _ _ _ _ (finds_full a s o b u set) sane = used-there b sane.at.1.1
  may-call most _ _ _ _ (marks a s o b i u clear) sane =
      (used-there b sane.at.1.1, (let h = sane.at.1.2 in let m = (class_slots (size_for o) (slot_size-class (o.n + 2))).1 in omega arith))
  may-call most _ _ _ _ (marks_not a s o b i u set) sane =
      (used-there b sane.at.1.1, (let h = sane.at.1.2 in let m = (class_slots (size_for o) (slot_size-class (o.n + 2))).1 in omega arith))
  may-call most _ _ _ _ (reads a s o at j u less) sane = let h = sane.at.1.0 in let y = h.young.0 in let l = h.inside in young-there (o.x + j)
      (omega arith, omega arith)
  may-call most _ _ _ _ (writes a s o at j u) sane =
      let h = sane.at.1 in let short = h.0.short in let l = h.3 in let room = slot_size-holds (o.n + 2) (omega arith) in
      copy-word o at j h.1.0 h.1.1 (omega arith)
  may-call most _ _ _ _ (clears a s o at j past less) sane = let h = sane.at.1.1 in copy-word o at j h.0 h.1 less
  may-call most _ _ _ _ (heads a s o at j past) sane =
      let h = sane.at.1.1 in let size = (class_bounds (size_for o) (slot_size-class (o.n + 2))).0 in let above = h.0 in let below = h.1 in
      word-there at (omega arith, omega arith)
  may-call most _ _ _ _ (forwards a s o at) sane = young-there o.x sane.at.1.0.young
  may-call most _ _ _ _ (loses a s o at u) sane = young-there o.x sane.at.1.0.young
  may-call most _ _ _ _ (fails a s o card) sane = young-there o.x sane.at.1.young
  may-call most _ _ _ _ (fails_bare a s o bare) sane = young-there o.x sane.at.1.young
  may-call most _ _ _ _ (fails_not a s o u) sane = young-there o.x sane.at.1.young
  may-call most _ _ _ _ (sends a s t) sane = word-there s sane.at.0
  may-call most _ _ _ _ (dirties a s) sane = (card-there s sane.at.1, refl)
  may-call most _ _ _ _ (keeps a items item i u several l may e some) sane = absurd (omega arith)
  may-call most _ _ _ _ (prepares a items item i several l may e) sane = absurd (omega arith)
  may-call most _ _ _ _ (offers a items item i next) sane = let h = sane.at.0 in cell-there (8 * 0 + i) (omega arith)
  may-call most _ _ _ _ (offers_not a items item i next u) sane = let h = sane.at.0 in cell-there (8 * 0 + i) (omega arith)
  may-call most _ _ _ _ (seeks a i is more) sane = cell-there ((8 * 0 + i) % (8 * 1)) (omega arith)
  may-call most _ _ _ _ (ends a i is last) sane = cell-there ((8 * 0 + i) % (8 * 1)) (omega arith)
  may-call most _ _ _ _ (finds a i item is) sane = cell-there ((8 * 0 + i) % (8 * 1)) (omega arith)
  may-call most _ _ _ _ (grabs a i item) sane = cell-there ((8 * 0 + i) % (8 * 1)) (omega arith)
  may-call most _ _ _ _ (grabs_not a i item u) sane = cell-there ((8 * 0 + i) % (8 * 1)) (omega arith)

-- the steps of a worker that tells, as deeds
record Told (seat : Seat) (a : Teller) (steps : List Step) (b : Teller) : Type 0 where
  deeds : List Deed
  steps_are : steps_of deeds ≡ steps
  follows : Follows seat.area seat.team seat.number a.worker deeds b.worker
  moves : b.moves ≡ moved_by a.moves (by_one seat.number deeds)
  fails : b.fails ≡ failed_by a.fails (by_one seat.number deeds)

moves-more : (l : List ℕ) (effect : Effect) → moves_with l effect ≡ l ++ moved effect
moves-more l Nothing = sym (append-nil l)
moves-more l (Ends s) = sym (append-nil l)
moves-more l (Moves x) = refl
moves-more l (Fails x) = sym (append-nil l)
moves-more l (FailsEnding x s) = sym (append-nil l)

fails-more : (l : List ℕ) (effect : Effect) → fails_with l effect ≡ l ++ failed effect
fails-more l Nothing = sym (append-nil l)
fails-more l (Ends s) = sym (append-nil l)
fails-more l (Moves x) = sym (append-nil l)
fails-more l (Fails x) = refl
fails-more l (FailsEnding x s) = refl

told : (seat : Seat) (steps : List Step) (a b : Teller) → FollowsBy (Tells seat) a steps b → Told seat a steps b
told seat [] a b f = record {
  deeds = [];
  steps_are = refl;
  follows = ap (λ (t : Teller). t.worker) f;
  moves = ap (λ (t : Teller). t.moves) f;
  fails = ap (λ (t : Teller). t.fails) f;
}
told seat (step ∷ steps) a b f =
    let t = f.1 in
    let more = told seat steps f.0 b f.2 in
    record {
      deeds = record { step = step; effect = t.0 } ∷ more.deeds;
      steps_are = ap (λ (ss : List Step). step ∷ ss) more.steps_are;
      follows = (f.0.worker, t.1, more.follows);
      moves = more.moves ∙ ap (λ (l : List ℕ). moved_by l (by_one seat.number more.deeds)) (t.2 ∙ moves-more a.moves t.0);
      fails = more.fails ∙ ap (λ (l : List ℕ). failed_by l (by_one seat.number more.deeds)) (t.3 ∙ fails-more a.fails t.0);
    }

moved-append : (l : List ℕ) (xs ys : List WorkEvent) → moved_by l (xs ++ ys) ≡ moved_by (moved_by l xs) ys
moved-append l [] ys = refl
moved-append l (x ∷ xs) ys = moved-append (l ++ moved x.deed.effect) xs ys

failed-append : (l : List ℕ) (xs ys : List WorkEvent) → failed_by l (xs ++ ys) ≡ failed_by (failed_by l xs) ys
failed-append l [] ys = refl
failed-append l (x ∷ xs) ys = failed-append (l ++ failed x.deed.effect) xs ys

-- only worker 0 is another one
pub alone-put : (a b : Worker) → put (alone a) 0 b ≡ alone b
alone-put a b = fun_ext (λ k. elim (cases_eq k 0) [
  | inl e ↦ put-at (alone a) 0 b k e ∙ sym (put-at (λ _. resting) 0 b k e)
  | inr n ↦ put-other (alone a) 0 b k n ∙ put-other (λ _. resting) 0 a k n ∙ sym (put-other (λ _. resting) 0 b k n)
])

pub alone-first : (a : Worker) → alone a 0 ≡ a
alone-first a = put-same (λ _. resting) 0 a

-- A round of one in its midst, over any words, with what the worker has told.
pub record Stood (t : Start) (v : Words) (a : Teller) : Type 0 where
  pub so : IsSoFar t v (alone a.worker)
  pub moves : a.moves ≡ moved_by [] so.events
  pub fails : a.fails ≡ failed_by [] so.events

module _ (tells : TellsSoFar) (bounded : BoundedLaw) (always : GoesAlways) (t : Start) (one : t.team ≡ 1) where
  abbrev its_seat : Seat
  its_seat = record { area = t.area; team = t.team; most = t.most; number = 0 }

  stood-at : (v : Words) (b : Teller) (workers : ℕ → Worker) → workers ≡ alone b.worker → (so : IsSoFar t v workers) → b.moves ≡ moved_by [] so.events →
      b.fails ≡ failed_by [] so.events → Stood t v b
  stood-at v b workers e = subst (λ (ws : ℕ → Worker). (so : IsSoFar t v ws) → b.moves ≡ moved_by [] so.events → b.fails ≡ failed_by [] so.events → Stood t v b)
      (sym e) (λ so m f. record { so = so; moves = m; fails = f })

  pub stood-later : (v : Words) (steps : List Step) (a b : Teller) → Stood t v a → FollowsBy (Tells its_seat) a steps b → IsLegal v steps → Stood t
      (replayed v steps) b
  stood-later v steps a b st follows legal =
      let d = told its_seat steps a b follows in
      let went : Went t.area t.team 0 (alone a.worker 0) v b.worker (replayed v steps) = record {
        deeds = d.deeds;
        legal = subst (IsLegal v) (sym d.steps_are) legal;
        after = ap (replayed v) (sym d.steps_are);
        follows = subst (λ (x : Worker). Follows t.area t.team 0 x d.deeds b.worker) (sym (alone-first a.worker)) d.follows;
      } in
      let later = tells t v (alone a.worker) 0 b.worker (replayed v steps) st.so went in
      stood-at (replayed v steps) b (put (alone a.worker) 0 b.worker) (alone-put a.worker b.worker) later.0
      (d.moves ∙ ap (λ (l : List ℕ). moved_by l (by_one 0 d.deeds)) st.moves ∙ sym (moved-append [] st.so.events (by_one 0 d.deeds))
      ∙ ap (moved_by []) (sym later.1))
      (d.fails ∙ ap (λ (l : List ℕ). failed_by l (by_one 0 d.deeds)) st.fails ∙ sym (failed-append [] st.so.events (by_one 0 d.deeds))
      ∙ ap (failed_by []) (sym later.1))

  pub stood-sane : (v : Words) (a : Teller) → Stood t v a → IsSaneTeller its_seat a
  stood-sane v a st = record {
    worker = subst (IsSane t.area t.team t.most 0) (alone-first a.worker) ((always t v (alone a.worker) st.so).sane 0);
    few = subst (λ (l : List ℕ). length l + length a.fails ≤ t.area.high - t.area.low) (sym st.moves)
        (subst (λ (l : List ℕ). length (moved_by [] st.so.events) + length l ≤ t.area.high - t.area.low) (sym st.fails)
        (bounded t v (alone a.worker) st.so).settled);
  }

  -- whatever a call for a next step sees, a step comes next
  pub stood-next : (v : Words) (a : Teller) (step : Step) (c : Teller) (other : Step) → Stood t v a → Tells its_seat a step c → call_of other ≡ call_of step →
      Saw v other → SeesNext (Tells its_seat) (IsSaneTeller its_seat) a other
  stood-next v a step c other st tell e saw =
      let g = (always t v (alone a.worker) st.so).goes_on 0 step c.worker other
      (subst (λ (x : Worker). (effect : Effect) × Comes t.area t.team 0 x step effect c.worker) (sym (alone-first a.worker)) (tell.0, tell.1)) e saw in
      let next = subst (λ (x : Worker). (b : Worker) × ((effect : Effect) × Comes t.area t.team 0 x other effect b)) (alone-first a.worker) g in (
        (record { worker = next.0; moves = moves_with a.moves next.1.0; fails = fails_with a.fails next.1.0 }, (next.1.0, next.1.1, refl, refl)),
        λ b tell'. stood-sane (after_step v other) b (stood-later v (other ∷ []) a b st (b, tell', refl) (saw, tt)),
      )
