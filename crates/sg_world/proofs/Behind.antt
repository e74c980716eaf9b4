-- The world behind an epoch: the run is over, or a stop comes next.
use Rattle.std.proofs.Common.{◌≡◌, ◌≢◌, ℕ, zero, ◌+◌, ◌≤◌, ◌↔◌, cond, true, false, not, Option, Some, None, List}
use Rattle.std.proofs.Common.{[], ◌∷◌, ◌++◌, length, slice_get, inl, inr, sym, refl, ap, ◌∙◌, subst, arith}
use Rattle.std.specs.List.{flat_map, Contains}
use Rattle.std.proofs.lemmas.Bool.{cases_Bool}
use Rattle.std.proofs.lemmas.Option.{same_Some, slice_get_within}
use Rattle.sg_words.specs.Lists.{Pairwise}
use Rattle.sg_words.specs.Schedule.{Schedule}
use Rattle.sg_program.specs.declared.program.Statement.{Statement}
use Rattle.sg_program.specs.declared.program.Program.{Program}
use Rattle.sg_program.specs.declared.answers.Leave.{Leave}
use Rattle.sg_program.specs.declared.answers.Leave.TheVariants.{Ended as HasEnded, Yield, Wants}
use Rattle.sg_program.specs.declared.answers.Request.{Request}
use Rattle.sg_graph.specs.declared.reports.Part.{Part}
use Rattle.sg_graph.specs.declared.reports.EpochReport.{EpochReport}
use Rattle.sg_graph.specs.Graph.{Graph}
use Rattle.sg_graph.specs.Book.{Book, swept_in}
use Rattle.sg_graph.specs.Epoch.{numbers_below, running, is_done, left, parted as parted_in}
use Rattle.sg_graph.specs.Stop.{Asked, asked_by, requests_in}
use Rattle.sg_graph.specs.Run.{Phase, Epoch}
use Rattle.sg_graph.specs.Follows.{IsEpochBy, IsWholeRunBy}
use Rattle.sg_space.specs.Space.{Contents, words_of, IsContents}
use Rattle.sg_heap.specs.Holding.{HoldsHeap}
use Rattle.sg_rules.specs.Rules.{Constants, Left, Actor, fresh}
use Rattle.sg_program.specs.Scripts.{IsRequestOf}
use Rattle.sg_order.specs.Rest.{IsReady, IsHeld, before_it}
use Rattle.sg_order.specs.Sweep.{swept_of}
use Rattle.sg_order.specs.OneOrder.{IsOneOrder}
use Rattle.sg_order.specs.Serving.{StaysReady}
use Rattle.sg_order.specs.Held.{HeldIsSound, HeldWhoever}
use Rattle.sg_actor.specs.declared.mutator.Stage.{Stage}
use Rattle.sg_actor.specs.declared.mutator.Stage.TheVariants.{Between, Within, Claiming, OpeningBlock, TakingSlot, TakingOver}
use Rattle.sg_actor.specs.declared.mutator.Stage.TheVariants.{Sweeping, BehindSweep, Ended, Asking, Yielded}
use Rattle.sg_actor.specs.State.{Mutating, actor_of, mid_of, leave_of, IsCounted}
use Rattle.sg_actor.specs.Turning.{IsResting}
use Rattle.sg_mutate.specs.Epochs.{constants_of, parted, HasLeftAs, IsOver}
use Rattle.sg_world.specs.Telling.{going_in, HaveEnded, TellsOf, TellsAt}
use Rattle.sg_world.specs.Stopping.{asked_of, requests_of}
use Rattle.sg_world.specs.Worlds.{Worldly, IsWorldOf, IsBetween, HasLeftReady, IsAtStop, ComesTo}
use Rattle.sg_world.proofs.Lists.{pairwise_left, joined_pairwise, joined_filter, joined_by_numbers, in_joined, sums_le, pairwise_by, some_at}
use Rattle.sg_world.proofs.Heaps.{heap_of_held}
use Rattle.sg_world.proofs.Unowed.{still_unowed}
use Rattle.sg_world.proofs.Parts.{IsLeaveOf, not_done, ready_left, ready_empty}
use Rattle.sg_world.proofs.Epochs as epochs

asked_at : Option Mutating → List Asked
asked_at None = []
asked_at (Some n) = asked_of n n.stage

asked_same : (n : Mutating) (part : Part) → TellsOf n part → (stage : Stage) (leave : Leave) → leave_of stage ≡ Some leave →
    asked_by part leave ≡ asked_of n stage
asked_same n part told Ended leave e = ap (asked_by part) (sym (same_Some HasEnded leave e))
asked_same n part told (Asking statement request) leave e =
    ap (asked_by part) (sym (same_Some (Wants request) leave e))
    ∙ (λ i. record { by = told.number i; statement = told.first i + length (told.answers i); request = request } ∷ [])
asked_same n part told Yielded leave e = ap (asked_by part) (sym (same_Some Yield leave e))
asked_same n part told stage leave e = absurd (cc e)

asking_stage : (n : Mutating) (stage : Stage) (statement : Statement) → mid_of stage ≡ Left statement → (a : Asked) × (asked_of n stage ≡ a ∷ [])
asking_stage n (Asking statement request) other e = (record { by = n.number; statement = n.first + length n.told; request = request }, refl)
asking_stage n stage statement e = absurd (cc e)

module _ (stays : StaysReady) (is_sound : HeldIsSound) (whoever : HeldWhoever) (p : Program) (turns : List ℕ) (phases : List Phase) (old : Worldly)
    (schedule : Schedule)
    (between : IsBetween p turns phases old schedule) (t : Contents) (after : List Mutating) (next : Schedule)
    (over : IsOver p between.graph between.book old.space old.mutators schedule t after next) (contents : IsContents t)
    (report : EpochReport) (tells : Pairwise (TellsAt after) (going_in old.mutators) report.parts) (last : report.last ≡ true ↔ HaveEnded after)
    (numbered : report.number ≡ old.number) where
  abbrev g : Graph
  g = between.graph

  abbrev lay : Constants
  lay = constants_of old.space

  abbrev actors : ℕ → Actor
  actors = over.actors

  abbrev one : IsOneOrder p (constants_of old.space) over.boarded.so.opened between.graph between.book over.boarded.so.events (words_of t) over.actors
  one = over.boarded.one

  -- the blocks that were swept in the epoch, and the book as it ends
  abbrev swept : List ℕ
  swept = swept_of over.boarded.so.events

  abbrev c : Book
  c = swept_in over.boarded.one.book (swept_of over.boarded.so.events)

  abbrev h : Graph
  h = left one.graph

  abbrev world : Worldly
  world = record { program = old.program; space = t; mutators = after; number = old.number; owes = old.owes }

  was : (k : ℕ) (n : Mutating) → slice_get after k ≡ Some n → (m : Mutating) × (slice_get old.mutators k ≡ Some m)
  was = epochs.was p g between.book old.space old.mutators schedule t after next between.opened over

  stayed_as : (k : ℕ) (m n : Mutating) → slice_get old.mutators k ≡ Some m → slice_get after k ≡ Some n → (g.mutator k).ended ≡ true →
      (n ≡ m) × (n.stage ≡ Ended) × (actors k ≡ parted m)
  stayed_as = epochs.stayed_as p g between.book old.space old.mutators schedule t after next between.opened over

  script_left : (k : ℕ) → (one.graph.mutator k).script ≡ before_it (actors k).mid (actors k).script
  script_left = epochs.script_left p g between.book old.space old.mutators schedule t after next between.opened over

  done_ended : (k : ℕ) (n : Mutating) → slice_get after k ≡ Some n → n.stage ≡ Ended → (one.graph.mutator k).script ≡ []
  done_ended = epochs.done_ended p g between.book old.space old.mutators schedule t after next between.opened over between.of.counted report.parts tells

  ended_as : (k : ℕ) → (h.mutator k).ended ≡ is_done (one.graph.mutator k).script
  ended_as = epochs.ended_as p g between.book old.space old.mutators schedule t after next between.opened over between.of.counted report.parts tells

  held : IsHeld p lay (words_of t) h c
  held = epochs.held p g between.book old.space old.mutators schedule t after next between.opened over between.of.counted report.parts tells is_sound whoever

  tells_running : Pairwise (TellsAt after) (running p g) report.parts
  tells_running = epochs.tells_running p g between.book old.space old.mutators schedule t after next between.opened over between.of.counted report.parts tells

  is_epoch : IsEpochBy p old.number between.graph between.book schedule over.order swept report h c next
  is_epoch =
      epochs.is_epoch p g between.book old.space old.mutators schedule t after next between.opened over between.of.counted report.parts tells is_sound whoever
      old.number report numbered last refl

  ready : (k : ℕ) → IsReady p one.graph c k (actors k) (before_it (actors k).mid (actors k).script)
  ready k = (epochs.ends p g between.book old.space old.mutators schedule t after next between.opened over).ready k

  empty : (k from to : ℕ) → (one.graph.mutator k).script ≡ [] → from ≡ c.from k → to ≡ c.to k →
      IsReady p h c k (record (fresh []) { from = from; to = to }) []
  empty k from to none = ready_empty p h c k from to (one.graph.mutator k) (ap (λ xs. parted_in (one.graph.mutator k) (is_done xs)) none) none
      held.heap.laid.nothing.stands_nil held.heap.laid.nothing.at_nil

  module _ (k : ℕ) (m n : Mutating) (was_m : slice_get old.mutators k ≡ Some m) (is_n : slice_get after k ≡ Some n) where
    awake_of : n.stage ≢ Ended → (g.mutator k).ended ≡ false
    awake_of goes = elim (cases_Bool (g.mutator k).ended) [
      | inl asleep ↦ absurd (goes (stayed_as k m n was_m is_n asleep).1)
      | inr awake ↦ awake
    ]

    as_it_was : ((actors k).from ≡ n.from) × ((actors k).to ≡ n.to) × (n.first ≡ m.first)
    as_it_was = elim (cases_Bool (g.mutator k).ended) [
      | inl asleep ↦
          let s = stayed_as k m n was_m is_n asleep in (
            ap (λ (a : Actor). a.from) s.2 ∙ sym (ap (λ (x : Mutating). x.from) s.0),
            ap (λ (a : Actor). a.to) s.2 ∙ sym (ap (λ (x : Mutating). x.to) s.0),
            ap (λ (x : Mutating). x.first) s.0,
          )
      | inr awake ↦ let gone = over.left k m n was_m is_n awake in (ap (λ (a : Actor). a.from) gone.actor, ap (λ (a : Actor). a.to) gone.actor, gone.same.first)
    ]

    -- who has a statement left goes on
    module _ (goes : n.stage ≢ Ended) where
      abbrev gone : HasLeftAs p over.board k m n (actors k)
      gone = over.left k m n was_m is_n (awake_of goes)

      leaves : IsLeaveOf p (actors k).script (actors k).mid gone.leave
      leaves = epochs.leave_is p g between.book old.space old.mutators schedule t after next between.opened over k m n was_m is_n (awake_of goes)

      request_is : (statement : Statement) (request : Request) → n.stage ≡ Asking statement request → IsRequestOf p statement request
      request_is statement request e = elim gone.fits [
        | inl ended ↦ absurd (goes ended)
        | inr rests ↦ let r : IsResting p (Asking statement request) = subst (IsResting p) e rests in r
      ]

      goes_on : (script : List Statement) → before_it (mid_of n.stage) n.script ≡ script → script ≢ [] → ((h.mutator k).ended ≡ false)
          × IsReady p h c k (actor_of n) script
      goes_on script is some = (ended_as k ∙ undone, ready_left stays p one.graph c k (actor_of n) script ready_n undone)
        where
          same : before_it (actors k).mid (actors k).script ≡ script
          same = ap (λ (a : Actor). before_it a.mid a.script) gone.actor ∙ is

          undone : is_done (one.graph.mutator k).script ≡ false
          undone = ap is_done (script_left k ∙ same) ∙ not_done script some

          ready_n : IsReady p one.graph c k (actor_of n) script
          ready_n = subst (λ (a : Actor). IsReady p one.graph c k a script) gone.actor
              (subst (λ (xs : List Statement). IsReady p one.graph c k (actors k) xs) same (ready k))

      yielded_waits : n.stage ≡ Yielded → n.script ≢ []
      yielded_waits e =
          let leave : gone.leave ≡ Yield = same_Some gone.leave Yield (sym gone.left ∙ ap leave_of e) in
          let l : IsLeaveOf p (actors k).script (actors k).mid Yield = subst (λ (x : Leave). IsLeaveOf p (actors k).script (actors k).mid x) leave leaves in
          λ none. l.1 (ap (λ (a : Actor). a.script) gone.actor ∙ none)

    left_ready : (stage : Stage) → n.stage ≡ stage → HasLeftReady p h c k n stage
    left_ready Ended e =
        let none = done_ended k n is_n e in
        let same = as_it_was in
        (ended_as k ∙ ap is_done none, empty k n.from n.to none (sym same.0 ∙ (ready k).from_is) (sym same.1 ∙ (ready k).to_is))
    left_ready (Asking statement request) e =
        let goes : n.stage ≢ Ended = λ d. (let q : Asking statement request ≡ Ended = sym e ∙ d in cc q) in
        let on = goes_on goes (statement ∷ n.script) (ap (λ stage. before_it (mid_of stage) n.script) e) (λ d. cc d) in
        (on.0, request_is goes statement request e, on.1)
    left_ready Yielded e =
        let goes : n.stage ≢ Ended = λ d. (let q : Yielded ≡ Ended = sym e ∙ d in cc q) in
        goes_on goes n.script (ap (λ stage. before_it (mid_of stage) n.script) e) (yielded_waits goes e)
    left_ready Between e = absurd (let q : None ≡ Some _ = sym (ap leave_of e) ∙ (gone (λ d. (let q : Between ≡ Ended = sym e ∙ d in cc q))).left in cc q)
    left_ready Within e = absurd (let q : None ≡ Some _ = sym (ap leave_of e) ∙ (gone (λ d. (let q : Within ≡ Ended = sym e ∙ d in cc q))).left in cc q)
    left_ready (Claiming statement fragment seen) e =
        absurd (let q : None ≡ Some _ = sym (ap leave_of e) ∙ (gone (λ d. (let q : Claiming statement fragment seen ≡ Ended = sym e ∙ d in cc q))).left in cc q)
    left_ready (OpeningBlock statement block) e =
        absurd (let q : None ≡ Some _ = sym (ap leave_of e) ∙ (gone (λ d. (let q : OpeningBlock statement block ≡ Ended = sym e ∙ d in cc q))).left in cc q)
    left_ready (TakingSlot statement block slot) e =
        absurd (let q : None ≡ Some _ = sym (ap leave_of e) ∙ (gone (λ d. (let q : TakingSlot statement block slot ≡ Ended = sym e ∙ d in cc q))).left in cc q)
    left_ready (TakingOver statement block size) e =
        absurd (let q : None ≡ Some _ = sym (ap leave_of e) ∙ (gone (λ d. (let q : TakingOver statement block size ≡ Ended = sym e ∙ d in cc q))).left in cc q)
    left_ready (Sweeping statement block size) e =
        absurd (let q : None ≡ Some _ = sym (ap leave_of e) ∙ (gone (λ d. (let q : Sweeping statement block size ≡ Ended = sym e ∙ d in cc q))).left in cc q)
    left_ready (BehindSweep statement block) e =
        absurd (let q : None ≡ Some _ = sym (ap leave_of e) ∙ (gone (λ d. (let q : BehindSweep statement block ≡ Ended = sym e ∙ d in cc q))).left in cc q)

  asked : requests_in report.parts ≡ requests_of after
  unfolding asked_at
  asked =
      sym (joined_pairwise (TellsAt after) (λ k. asked_at (slice_get after k)) (λ (part : Part). asked_by part part.leave) asks_same (running p g) report.parts
      tells_running)
      ∙ joined_filter (λ k. not (g.mutator k).ended) (λ k. asked_at (slice_get after k)) (numbers_below (length p.mutators))
      ∙ ap (λ n. flat_map (λ k. cond (not (g.mutator k).ended) (asked_at (slice_get after k)) []) (numbers_below n)) (sym over.are.count)
      ∙ joined_by_numbers (λ k. cond (not (g.mutator k).ended) (asked_at (slice_get after k)) []) (λ (n : Mutating). asked_of n n.stage) after each
    where
      asks_same : (k : ℕ) (part : Part) → TellsAt after k part → asked_at (slice_get after k) ≡ asked_by part part.leave
      asks_same k part (n, is_n, told) = ap asked_at is_n ∙ sym (asked_same n part told n.stage part.leave told.leave)

      each : (k : ℕ) (n : Mutating) → slice_get after k ≡ Some n → cond (not (g.mutator k).ended) (asked_at (slice_get after k)) [] ≡ asked_of n n.stage
      each k n is_n = let m = was k n is_n in elim (cases_Bool (g.mutator k).ended) [
        | inl asleep ↦ ap (λ e. cond (not e) (asked_at (slice_get after k)) []) asleep ∙ sym (ap (asked_of n) (stayed_as k m.0 n m.1 is_n asleep).1)
        | inr awake ↦ ap (λ e. cond (not e) (asked_at (slice_get after k)) []) awake ∙ ap asked_at is_n
      ]

  counted : (k : ℕ) (n : Mutating) → slice_get after k ≡ Some n → IsCounted n
  counted k n is_n = let m = was k n is_n in elim (cases_Bool (g.mutator k).ended) [
    | inl asleep ↦ subst IsCounted (sym (stayed_as k m.0 n m.1 is_n asleep).0) (between.of.counted k m.0 m.1)
    | inr awake ↦
        let there = epochs.in_running p g between.book old.space old.mutators schedule t after next between.opened over between.of.counted report.parts tells k
        (slice_get_within old.mutators k m.0 m.1) awake in
        let part = pairwise_left (TellsAt after) (running p g) report.parts k tells_running there in
        subst IsCounted (same_Some part.2.0 n (sym part.2.1 ∙ is_n)) part.2.2.counted
  ]

  of_after : IsWorldOf p world
  of_after = record {
    can = between.of.can;
    program = between.of.program;
    are = over.are;
    contents = contents;
    counted = counted;
    numbered =
        let l = sums_le (λ (m : Mutating). m.first) (λ (n : Mutating). n.first) old.mutators after
        (pairwise_by (λ (m n : Mutating). m.first ≤ n.first) old.mutators after
        (let a = over.are.count in let b = between.of.are.count in omega arith) (λ k m n was_m is_n. let e = (as_it_was k m n was_m is_n).2 in omega arith)) in
        let q = between.of.numbered in omega arith;
  }

  holds : HoldsHeap p t h c
  holds = heap_of_held p old.space t g h between.book c over.keeps over.head over.boarded.fits between.holds held

  beyond : (k : ℕ) → length after ≤ k → IsReady p h c k (fresh []) []
  beyond k l =
      let e : actors k ≡ fresh [] = over.beyond k (let a = over.are.count in let b = between.of.are.count in omega arith) in
      let none : (one.graph.mutator k).script ≡ [] = script_left k ∙ ap (λ (a : Actor). before_it a.mid a.script) e in
      empty k 0 0 none (sym (ap (λ (a : Actor). a.from) e) ∙ (ready k).from_is) (sym (ap (λ (a : Actor). a.to) e) ∙ (ready k).to_is)

  -- who hasn't ended asks for something, or has yielded since another one asks
  asks_so : (k : ℕ) (n : Mutating) → slice_get after k ≡ Some n → (statement : Statement) → (actors k).mid ≡ Left statement → ¬ (requests_of after ≡ [])
  asks_so k n is_n statement waits none =
      let m = was k n is_n in
      let who = epochs.asker p g between.book old.space old.mutators schedule t after next between.opened over k statement waits in
      let gone = over.left k m.0 n m.1 is_n who.1 in
      let mid : mid_of n.stage ≡ Left statement = sym (ap (λ (a : Actor). a.mid) gone.actor) ∙ waits in
      let some = asking_stage n n.stage statement mid in
      let there : Contains (requests_of after) some.0 =
      in_joined (λ (x : Mutating). asked_of x x.stage) after k n some.0 is_n
      (subst (λ (xs : List Asked). Contains xs some.0) (sym some.1) (zero, omega arith, refl)) in
      let empty = subst (λ (xs : List Asked). Contains xs some.0) none there in
      let l = empty.1 in absurd (omega arith)

  none_left : requests_of after ≡ [] → HaveEnded after
  none_left none k n is_n = by_stage n.stage refl
    where
      mid_at : n.stage ≢ Ended → (actors k).mid ≡ mid_of n.stage
      mid_at goes = ap (λ (a : Actor). a.mid)
          (over.left k (was k n is_n).0 n (was k n is_n).1 is_n (awake_of k (was k n is_n).0 n (was k n is_n).1 is_n goes)).actor

      left_so : n.stage ≢ Ended → (leave : Leave) × (leave_of n.stage ≡ Some leave)
      left_so goes = let gone = over.left k (was k n is_n).0 n (was k n is_n).1 is_n (awake_of k (was k n is_n).0 n (was k n is_n).1 is_n goes) in
          (gone.leave, gone.left)

      by_stage : (stage : Stage) → n.stage ≡ stage → n.stage ≡ Ended
      by_stage Ended e = e
      by_stage (Asking statement request) e =
          let goes : n.stage ≢ Ended = λ d. (let q : Asking statement request ≡ Ended = sym e ∙ d in cc q) in
          absurd (asks_so k n is_n statement (mid_at goes ∙ ap mid_of e) none)
      by_stage Yielded e =
          let goes : n.stage ≢ Ended = λ d. (let q : Yielded ≡ Ended = sym e ∙ d in cc q) in
          let wanted = one.yielded k (mid_at goes ∙ ap mid_of e) in
          let who = epochs.asker p g between.book old.space old.mutators schedule t after next between.opened over wanted.0 wanted.1 wanted.2 in
          let other = some_at after wanted.0 (let a = over.are.count in let b = between.of.are.count in let l = who.0 in omega arith) in
          absurd (asks_so wanted.0 other.0 other.1 wanted.1 wanted.2 none)
      by_stage Between e = let l =
          left_so (λ d. (let q : Between ≡ Ended = sym e ∙ d in cc q)) in absurd (let q : None ≡ Some l.0 = sym (ap leave_of e) ∙ l.1 in cc q)
      by_stage Within e = let l =
          left_so (λ d. (let q : Within ≡ Ended = sym e ∙ d in cc q)) in absurd (let q : None ≡ Some l.0 = sym (ap leave_of e) ∙ l.1 in cc q)
      by_stage (Claiming statement fragment seen) e =
          let l = left_so (λ d. (let q : Claiming statement fragment seen ≡ Ended = sym e ∙ d in cc q)) in absurd (let q : None ≡ Some l.0 =
          sym (ap leave_of e) ∙ l.1 in cc q)
      by_stage (OpeningBlock statement block) e =
          let l = left_so (λ d. (let q : OpeningBlock statement block ≡ Ended = sym e ∙ d in cc q)) in absurd (let q : None ≡ Some l.0 =
          sym (ap leave_of e) ∙ l.1 in cc q)
      by_stage (TakingSlot statement block slot) e =
          let l = left_so (λ d. (let q : TakingSlot statement block slot ≡ Ended = sym e ∙ d in cc q)) in absurd (let q : None ≡ Some l.0 =
          sym (ap leave_of e) ∙ l.1 in cc q)
      by_stage (TakingOver statement block size) e =
          let l = left_so (λ d. (let q : TakingOver statement block size ≡ Ended = sym e ∙ d in cc q)) in absurd (let q : None ≡ Some l.0 =
          sym (ap leave_of e) ∙ l.1 in cc q)
      by_stage (Sweeping statement block size) e =
          let l = left_so (λ d. (let q : Sweeping statement block size ≡ Ended = sym e ∙ d in cc q)) in absurd (let q : None ≡ Some l.0 =
          sym (ap leave_of e) ∙ l.1 in cc q)
      by_stage (BehindSweep statement block) e =
          let l = left_so (λ d. (let q : BehindSweep statement block ≡ Ended = sym e ∙ d in cc q)) in absurd (let q : None ≡ Some l.0 =
          sym (ap leave_of e) ∙ l.1 in cc q)

  wanted : report.last ≡ false → requests_in report.parts ≢ []
  wanted e none = let q : true ≡ false = sym (last.1 (none_left (sym asked ∙ none))) ∙ e in cc q

  whole : report.last ≡ true → IsWholeRunBy p turns (phases ++ Epoch report over.order swept ∷ [])
  whole e = record {
    number = old.number;
    before = phases;
    graph = between.graph;
    book = between.book;
    schedule = schedule;
    follows = between.follows;
    order = over.order;
    swept = swept;
    report = report;
    last_graph = h;
    last_book = c;
    last_schedule = next;
    epoch = is_epoch;
    phases_are = refl;
    whole = is_epoch.is.ends.0 e;
  }

  at_stop : report.last ≡ false → IsAtStop p turns phases report over.order swept world next
  at_stop e = record {
    of = of_after;
    before_graph = between.graph;
    before_book = between.book;
    before_schedule = schedule;
    follows = between.follows;
    graph = h;
    book = c;
    epoch = is_epoch;
    going = λ all. (let q : true ≡ false = sym (is_epoch.is.ends.1 all) ∙ e in cc q);
    holds = holds;
    unowed = λ none. still_unowed p between.book one.book swept one.owed (between.unowed none);
    plain = held.plain;
    ready = λ k n is_n. (let m = was k n is_n in left_ready k m.0 n m.1 is_n n.stage refl);
    asked = asked;
    wanted = wanted e;
    beyond = beyond;
  }

  pub comes : ComesTo p turns phases report world next
  comes = elim (cases_Bool report.last) [
    | inl e ↦ (over.order, swept, inl (e, whole e))
    | inr e ↦ (over.order, swept, inr (e, at_stop e))
  ]

-- an epoch that wasn't the last one: a stop comes next
pub stops_next : (p : Program) (turns : List ℕ) (phases : List Phase) (report : EpochReport) (world : Worldly) (schedule : Schedule)
    (comes : ComesTo p turns phases report world schedule) →
    report.last ≡ false → IsAtStop p turns phases report comes.0 comes.1 world schedule
stops_next p turns phases report world schedule (order, swept, inl a) e = absurd (let q : true ≡ false = sym a.0 ∙ e in cc q)
stops_next p turns phases report world schedule (order, swept, inr a) e = a.1
