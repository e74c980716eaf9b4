-- From the end of an epoch, in which each mutator has left, to the epoch's report.
use Rattle.std.proofs.Common.{◌≡◌, ℕ, ◌+◌, ◌<◌, ◌↔◌, Bool, true, false, not, filter, Option, Some, None, List}
use Rattle.std.proofs.Common.{[], ◌∷◌, length, slice_get, inl, inr, sym, refl, ap, ◌∙◌, subst, arith}
use Rattle.std.specs.List.{AllByRecursion, Contains}
use Rattle.std.proofs.lemmas.Bool.{cases_Bool, cases_lt}
use Rattle.std.proofs.lemmas.Option.{same_Some, slice_get_within}
use Rattle.sg_words.specs.Lists.{Pairwise}
use Rattle.sg_words.specs.Schedule.{Schedule}
use Rattle.sg_program.specs.declared.program.Statement.{Statement}
use Rattle.sg_program.specs.declared.program.Program.{Program}
use Rattle.sg_program.specs.declared.answers.Leave.{Leave}
use Rattle.sg_program.specs.declared.answers.Leave.TheVariants.{Ended as HasEnded, Yield, Wants}
use Rattle.sg_program.specs.Scripts.{script_of}
use Rattle.sg_graph.specs.declared.reports.Part.{Part}
use Rattle.sg_graph.specs.declared.reports.EpochReport.{EpochReport}
use Rattle.sg_graph.specs.Graph.{Graph}
use Rattle.sg_graph.specs.Book.{Book, swept_in, IsClosed}
use Rattle.sg_graph.specs.Epoch.{Explains, IsPart, SomeAsks, AsksSlot, numbers_below, running, is_done, left, AllEnded}
use Rattle.sg_graph.specs.Turns.{HasLeft}
use Rattle.sg_graph.specs.Follows.{IsEpochBy}
use Rattle.sg_space.specs.Space.{Contents, words_of}
use Rattle.sg_rules.specs.Rules.{Constants, Idle, Left, Yielded as HasYielded, Actor, fresh}
use Rattle.sg_order.specs.Rest.{IsHeld, IsOver as IsBehind, before_it}
use Rattle.sg_order.specs.Sweep.{swept_of}
use Rattle.sg_order.specs.OneOrder.{IsAtEnd, IsOneOrder}
use Rattle.sg_order.specs.Held.{HeldIsSound, HeldWhoever}
use Rattle.sg_actor.specs.declared.mutator.Stage.{Stage}
use Rattle.sg_actor.specs.declared.mutator.Stage.TheVariants.{Between, Ended, Asking, Yielded}
use Rattle.sg_actor.specs.State.{Mutating, actor_of, leave_of, waiting, IsCounted}
use Rattle.sg_mutate.specs.Epochs.{constants_of, parted, found_in, found_at, actors_in, IsReadyStage, IsOpened, HasLeftAs, IsOver}
use Rattle.sg_mutate.specs.Boards.{IsAt}
use Rattle.sg_world.specs.Telling.{goes, goes_at, going_in, HasLeftAt, HaveEnded, TellsOf, TellsAt}
use Rattle.sg_world.proofs.Lists.{pairwise_left, pairwise_right, pairwise_under, passing, in_filter, below, all_below, filter_same, all_at, some_at}
use Rattle.sg_world.proofs.Parts.{IsLeaveOf, leave_at, is_over, left_wants, done_empty, ended_is, is_part, searched}
use Rattle.sg_world.proofs.Unowed.{same_owed}
use Rattle.sg_world.proofs.Yields.{waiting as waits}

not_ended : (b : Bool) → not b ≡ true → b ≡ false
not_ended true e = absurd (let q : false ≡ true = e in cc q)
not_ended false e = refl

stage_goes : (g : Graph) (k : ℕ) (stage : Stage) → IsReadyStage g k stage → not (g.mutator k).ended ≡ goes stage
stage_goes g k Between h = ap not h
stage_goes g k Ended h = ap not h
stage_goes g k stage h = absurd h

pub stage_ended : (g : Graph) (k : ℕ) (stage : Stage) → IsReadyStage g k stage → (g.mutator k).ended ≡ true → stage ≡ Ended
stage_ended g k Between h e = absurd (let q : true ≡ false = sym e ∙ h in cc q)
stage_ended g k Ended h e = refl
stage_ended g k stage h e = absurd h

stage_between : (g : Graph) (k : ℕ) (stage : Stage) → IsReadyStage g k stage → (g.mutator k).ended ≡ false → stage ≡ Between
stage_between g k Between h e = refl
stage_between g k Ended h e = absurd (let q : true ≡ false = sym h ∙ e in cc q)
stage_between g k stage h e = absurd h

pub leave_ended : (stage : Stage) → leave_of stage ≡ Some HasEnded → stage ≡ Ended
leave_ended Ended e = refl
leave_ended (Asking statement request) e = absurd (let q = same_Some (Wants request) HasEnded e in cc q)
leave_ended Yielded e = absurd (let q = same_Some Yield HasEnded e in cc q)
leave_ended stage e = absurd (cc e)

module _ (p : Program) (g : Graph) (b : Book) (s : Contents) (ms : List Mutating) (schedule : Schedule) (t : Contents) (after : List Mutating) (next : Schedule)
    (opened : IsOpened p g b s ms) (over : IsOver p g b s ms schedule t after next) where
  abbrev lay : Constants
  lay = constants_of s

  abbrev one : IsOneOrder p (constants_of s) over.boarded.so.opened g b over.boarded.so.events (words_of t) over.actors
  one = over.boarded.one

  -- the blocks that were swept in it, and the book as it ends
  abbrev swept : List ℕ
  swept = swept_of over.boarded.so.events

  abbrev c : Book
  c = swept_in over.boarded.one.book (swept_of over.boarded.so.events)

  abbrev actors : ℕ → Actor
  actors = over.actors

  as_many : length after ≡ length ms
  as_many = over.are.count ∙ sym opened.are.count

  pub was : (k : ℕ) (n : Mutating) → slice_get after k ≡ Some n → (m : Mutating) × (slice_get ms k ≡ Some m)
  was k n e = some_at ms k (let l = slice_get_within after k n e in let q = as_many in omega arith)

  pub running_are : running p g ≡ going_in ms
  running_are =
      ap (λ n. filter (λ k. not (g.mutator k).ended) (numbers_below n)) (sym opened.are.count)
      ∙ filter_same (λ k. not (g.mutator k).ended) (λ k. goes_at (slice_get ms k)) (numbers_below (length ms))
      (all_below (λ k. not (g.mutator k).ended ≡ goes_at (slice_get ms k)) (length ms) each)
    where
      each : (k : ℕ) → k < length ms → not (g.mutator k).ended ≡ goes_at (slice_get ms k)
      each k l = let m = some_at ms k l in stage_goes g k m.0.stage (opened.stages k m.0 m.1) ∙ sym (ap goes_at m.1)

  -- mutator k hadn't ended before, and has left
  module _ (k : ℕ) (m n : Mutating) (was_m : slice_get ms k ≡ Some m) (is_n : slice_get after k ≡ Some n) (awake : (g.mutator k).ended ≡ false) where
    abbrev pub left_as : HasLeftAs p over.board k m n (actors k)
    left_as = over.left k m n was_m is_n awake

    pub leave_is : IsLeaveOf p (actors k).script (actors k).mid left_as.leave
    leave_is = leave_at p (actors k).script (actors k).mid left_as.leave
        (subst (λ position. IsAt p (actors k).script (actors k).mid position) left_as.position (over.boarded.at k))
        (λ yielded. waits p lay (over.boarded.so.first k) _ (actors k) (over.boarded.so.opening.idle k) (over.boarded.so.follows k) yielded)

  -- mutator k had ended before
  pub stayed_as : (k : ℕ) (m n : Mutating) → slice_get ms k ≡ Some m → slice_get after k ≡ Some n → (g.mutator k).ended ≡ true → (n ≡ m) × (n.stage ≡ Ended)
      × (actors k ≡ parted m)
  stayed_as k m n was_m is_n asleep =
      let stays = over.stayed k m n was_m is_n asleep in
      (stays.0, ap (λ (x : Mutating). x.stage) stays.0 ∙ stage_ended g k m.stage (opened.stages k m was_m) asleep, stays.1)

  idle_over : (k : ℕ) (a : Actor) → a.mid ≡ Idle → actors k ≡ a → IsBehind (actors k).mid
  idle_over k a idle e = inl (ap (λ (x : Actor). x.mid) e ∙ idle)

  pub behind : (k : ℕ) → IsBehind (actors k).mid
  behind k = elim (cases_lt k (length ms)) [
    | inr l ↦ idle_over k (fresh []) refl (over.beyond k l)
    | inl l ↦
        let m = some_at ms k l in
        let n = some_at after k (let q = as_many in omega arith) in
        elim (cases_Bool (g.mutator k).ended) [
          | inl asleep ↦ idle_over k (parted m.0) refl (stayed_as k m.0 n.0 m.1 n.1 asleep).2
          | inr awake ↦ is_over p (actors k).script (actors k).mid _ (leave_is k m.0 n.0 m.1 n.1 awake)
        ]
  ]

  pub ends : IsAtEnd p lay g.count b one.graph one.book c (words_of t) actors
  ends = one.ended behind

  pub script_left : (k : ℕ) → (one.graph.mutator k).script ≡ before_it (actors k).mid (actors k).script
  script_left k = (one.ready k (behind k)).script_is

  script_idle : (k : ℕ) → (actors k).mid ≡ Idle → (one.graph.mutator k).script ≡ (actors k).script
  script_idle k idle = script_left k ∙ ap (λ mid. before_it mid (actors k).script) idle

  -- who waits hasn't ended before
  pub asker : (k : ℕ) (st : Statement) → (actors k).mid ≡ Left st → (k < length ms) × ((g.mutator k).ended ≡ false)
  asker k st waits_for = elim (cases_lt k (length ms)) [
    | inr l ↦ absurd (let q : Idle ≡ Left st = sym (ap (λ (x : Actor). x.mid) (over.beyond k l)) ∙ waits_for in cc q)
    | inl l ↦
        let m = some_at ms k l in
        let n = some_at after k (let q = as_many in omega arith) in
        elim (cases_Bool (g.mutator k).ended) [
          | inl asleep ↦ absurd (let q : Idle ≡ Left st = sym (ap (λ (x : Actor). x.mid) (stayed_as k m.0 n.0 m.1 n.1 asleep).2) ∙ waits_for in cc q)
          | inr awake ↦ (l, awake)
        ]
  ]

  -- each of those that ran has left
  pub have_left : (i k : ℕ) → slice_get (going_in ms) i ≡ Some k → HasLeftAt after k
  have_left i k e =
      let going = all_at (λ j. goes_at (slice_get ms j) ≡ true) (going_in ms) i k (passing (λ j. goes_at (slice_get ms j)) (numbers_below (length ms))) e in
      let m = going_one (slice_get ms k) going in
      let l = slice_get_within ms k m.0 m.1 in
      let n = some_at after k (let q = as_many in omega arith) in
      gone_one k m.0 n.0 m.1 n.1 (not_ended (g.mutator k).ended (stage_goes g k m.0.stage (opened.stages k m.0 m.1) ∙ m.2))
    where
      gone_one : (k : ℕ) (m n : Mutating) → slice_get ms k ≡ Some m → slice_get after k ≡ Some n → (g.mutator k).ended ≡ false → HasLeftAt after k
      gone_one k m n was_m is_n awake = let gone =
          left_as k m n was_m is_n awake in (n, is_n, λ none. (let q : Some gone.leave ≡ None = sym gone.left ∙ none in cc q))

      going_one : (x : Option Mutating) → goes_at x ≡ true → (m : Mutating) × (x ≡ Some m) × (goes m.stage ≡ true)
      going_one None h = absurd (let q : false ≡ true = h in cc q)
      going_one (Some m) h = (m, refl, h)

  module _ (was_counted : (k : ℕ) (m : Mutating) → slice_get ms k ≡ Some m → IsCounted m) (parts : List Part)
      (tells : Pairwise (TellsAt after) (going_in ms) parts) where
    pub tells_running : Pairwise (TellsAt after) (running p g) parts
    tells_running = subst (λ (ks : List ℕ). Pairwise (TellsAt after) ks parts) (sym running_are) tells

    abbrev Fits : ℕ → Part → Type 0
    Fits k part = IsPart p g one.order one.graph c k part × (over.board.position k ≡ HasLeft part.leave)
        × IsLeaveOf p (actors k).script (actors k).mid part.leave

    module _ (k : ℕ) (part : Part) (m n : Mutating) (was_m : slice_get ms k ≡ Some m) (is_n : slice_get after k ≡ Some n) (told : TellsOf n part)
        (awake : (g.mutator k).ended ≡ false) where
      abbrev gone : HasLeftAs p over.board k m n (actors k)
      gone = left_as k m n was_m is_n awake

      same : gone.leave ≡ part.leave
      same = same_Some gone.leave part.leave (sym gone.left ∙ told.leave)

      leave : IsLeaveOf p (actors k).script (actors k).mid part.leave
      leave = subst (λ (l : Leave). IsLeaveOf p (actors k).script (actors k).mid l) same (leave_is k m n was_m is_n awake)

      stage : m.stage ≡ Between
      stage = stage_between g k m.stage (opened.stages k m was_m) awake

      found : actors_in ms k ≡ actor_of m
      found = ap found_in was_m ∙ ap (λ (stage : Stage). found_at stage m) stage

      script : (g.mutator k).script ≡ m.script
      script = (opened.opening.ready k).script_is ∙ ap (λ (x : Actor). x.script) found

      untold : m.told ≡ []
      untold = sym (ap (λ (x : Actor). x.told) found) ∙ opened.opening.untold k

      first : part.first + length (g.mutator k).script ≡ length (script_of p k)
      first =
          let c = was_counted k m was_m in
          let z : waiting m.stage ≡ 0 = ap waiting stage in
          let e : length m.told ≡ 0 = ap length untold in
          let d : length (g.mutator k).script ≡ length m.script = ap length script in
          let f = told.first in
          let same_first = gone.same.first in
          let whole : length (script_of m.program m.number) ≡ length (script_of p k) =
          ap (λ q. length (script_of q m.number)) (opened.are.program k m was_m) ∙ ap (λ j. length (script_of p j)) (opened.are.number k m was_m) in
          omega arith

      fit : Fits k part
      fit = (
        is_part p lay over.boarded.so.opened g b over.boarded.so.events (words_of t) actors one behind k part (record {
          number = told.number ∙ over.are.number k n is_n;
          first = first;
          answers = told.answers ∙ sym (ap (λ (x : Actor). x.told) gone.actor);
          leave = leave;
        }),
        gone.position ∙ ap HasLeft same,
        leave,
      )

    fits : (k : ℕ) (part : Part) → not (g.mutator k).ended ≡ true → TellsAt after k part → Fits k part
    fits k part running_k (n, is_n, told) = let m = was k n is_n in fit k part m.0 n m.1 is_n told (not_ended (g.mutator k).ended running_k)

    all_fit : Pairwise Fits (running p g) parts
    all_fit = pairwise_under (λ k. not (g.mutator k).ended ≡ true) (TellsAt after) Fits fits (running p g) parts
        (passing (λ k. not (g.mutator k).ended) (numbers_below (length p.mutators))) tells_running

    pub in_running : (k : ℕ) → k < length ms → (g.mutator k).ended ≡ false → Contains (running p g) k
    in_running k l awake =
        in_filter (λ j. not (g.mutator j).ended) (numbers_below (length p.mutators)) k (below (length p.mutators) k (let q = opened.are.count in omega arith))
        (ap not awake)

    all_yields : (part : Part) → Contains parts part → part.leave ≡ Yield → SomeAsks parts
    all_yields part there yield =
        let r = pairwise_right Fits (running p g) parts part all_fit there in
        let yielded = yield_mid r.0 part.leave r.2.2 yield in
        let wanted = one.yielded r.0 yielded in
        let who = asker wanted.0 wanted.1 wanted.2 in
        let other = pairwise_left Fits (running p g) parts wanted.0 all_fit (in_running wanted.0 who.0 who.1) in
        (other.0, other.1, left_wants p (actors wanted.0).script (actors wanted.0).mid other.0.leave wanted.1 other.2.2 wanted.2)
      where
        yield_mid : (k : ℕ) (leave : Leave) → IsLeaveOf p (actors k).script (actors k).mid leave → leave ≡ Yield → (actors k).mid ≡ HasYielded
        yield_mid k HasEnded h e = absurd (cc e)
        yield_mid k Yield h e = h.0
        yield_mid k (Wants request) h e = absurd (cc e)

    -- where a slot is asked for, no block has one
    all_searched : (z j : ℕ) → AsksSlot parts z → j < p.config.blocks → IsClosed p b.owed one.graph c j z
    all_searched z j asks l =
        let r = pairwise_right Fits (running p g) parts asks.0 all_fit asks.1 in
        let left = subst (λ (leave : Leave). IsLeaveOf p (actors r.0).script (actors r.0).mid leave) asks.2 r.2.2 in
        searched p lay over.boarded.so.opened g b over.boarded.so.events (words_of t) actors one behind r.0 z j left.0 left.1 left.2 l

    abbrev h : Graph
    h = left one.graph

    pub ended_as : (k : ℕ) → (h.mutator k).ended ≡ is_done (one.graph.mutator k).script
    ended_as k = ended_is (one.graph.mutator k) (is_done (one.graph.mutator k).script)

    -- a mutator's stage says whether it has ended
    pub done_ended : (k : ℕ) (n : Mutating) → slice_get after k ≡ Some n → n.stage ≡ Ended → (one.graph.mutator k).script ≡ []
    done_ended k n is_n ended =
        let m = was k n is_n in
        elim (cases_Bool (g.mutator k).ended) [
          | inl asleep ↦ let e = (stayed_as k m.0 n m.1 is_n asleep).2 in script_idle k (ap (λ (x : Actor). x.mid) e) ∙ ap (λ (x : Actor). x.script) e
          | inr awake ↦
              let gone = left_as k m.0 n m.1 is_n awake in
              let leave : gone.leave ≡ HasEnded = same_Some gone.leave HasEnded (sym gone.left ∙ ap leave_of ended) in
              let l = subst (λ (l : Leave). IsLeaveOf p (actors k).script (actors k).mid l) leave (leave_is k m.0 n m.1 is_n awake) in
              script_idle k l.0 ∙ l.1
        ]

    ended_of : (k : ℕ) (leave : Leave) → IsLeaveOf p (actors k).script (actors k).mid leave → (one.graph.mutator k).script ≡ [] → leave ≡ HasEnded
    ended_of k HasEnded l none = refl
    ended_of k Yield l none = absurd (l.1 (sym (script_left k ∙ ap (λ mid. before_it mid (actors k).script) l.0) ∙ none))
    ended_of k (Wants request) l none =
        absurd (let q : l.0 ∷ (actors k).script ≡ [] = sym (script_left k ∙ ap (λ mid. before_it mid (actors k).script) l.1) ∙ none in cc q)

    pub ended_done : (k : ℕ) (n : Mutating) → slice_get after k ≡ Some n → (one.graph.mutator k).script ≡ [] → n.stage ≡ Ended
    ended_done k n is_n none =
        let m = was k n is_n in
        elim (cases_Bool (g.mutator k).ended) [
          | inl asleep ↦ (stayed_as k m.0 n m.1 is_n asleep).1
          | inr awake ↦
              let gone = left_as k m.0 n m.1 is_n awake in
              leave_ended n.stage (gone.left ∙ ap (λ l. Some l) (ended_of k gone.leave (leave_is k m.0 n m.1 is_n awake) none))
        ]

    ends_so : HaveEnded after ↔ AllEnded p h
    ends_so = (
      λ all k l. (
          let n = some_at after k (let q = over.are.count in omega arith) in
          ended_as k ∙ ap is_done (done_ended k n.0 n.1 (all k n.0 n.1))),
      λ all k n is_n. (
          let l : k < length p.mutators = let q = slice_get_within after k n is_n in let c = over.are.count in omega arith in
          ended_done k n is_n (done_empty (one.graph.mutator k).script (sym (ended_as k) ∙ all k l))),
    )

    -- the words hold the graph behind the epoch
    module _ (is_sound : HeldIsSound) (whoever : HeldWhoever) where
      pub held : IsHeld p lay (words_of t) h c
      held = whoever p lay (words_of t) one.graph c h.mutator ends.held

      owed_is : c.owed ≡ over.board.owed
      owed_is = same_owed swept b one.book one.owed ∙ sym over.boarded.owed_is

      pub is_epoch : (number : ℕ) (report : EpochReport) → report.number ≡ number → (report.last ≡ true ↔ HaveEnded after) → report.parts ≡ parts →
          IsEpochBy p number g b schedule over.order swept report h c next
      is_epoch number report numbered last parts_are = record {
        is = record {
          going = opened.going;
          last = one.graph;
          book = one.book;
          explains = subst (λ order. Explains p g b order one.graph one.book) over.boarded.order_is one.explains;
          after = refl;
          number = numbered;
          parts = subst (λ ps. Pairwise (IsPart p g over.order one.graph c) (running p g) ps) (sym parts_are)
              (subst (λ order. Pairwise (IsPart p g order one.graph c) (running p g) parts) over.boarded.order_is
              (pairwise_under (λ _. Unit {0}) Fits (IsPart p g one.order one.graph c) (λ k part _ f. f.0) (running p g) parts (all_sure (running p g))
              all_fit));
          yields = subst (λ (ps : List Part). (part : Part) → Contains ps part → part.leave ≡ Yield → SomeAsks ps) (sym parts_are) all_yields;
          ends = (λ e. ends_so.0 (last.0 e), λ all. last.1 (ends_so.1 all));
          sweeps = refl;
          were_owed = one.sweep.were_owed;
          once = one.sweep.once;
          lowest = ends.lowest;
          searched = subst (λ (ps : List Part). (z j : ℕ) → AsksSlot ps z → j < p.config.blocks → IsClosed p b.owed one.graph c j z) (sym parts_are)
              all_searched;
          sound = is_sound p lay (words_of t) h c held;
        };
        follows = record {
          last = over.board;
          plays = over.plays;
          leaves = subst (λ ps. Pairwise (λ (k : ℕ) (part : Part). over.board.position k ≡ HasLeft part.leave) (running p g) ps) (sym parts_are)
              (pairwise_under (λ _. Unit {0}) Fits (λ (k : ℕ) (part : Part). over.board.position k ≡ HasLeft part.leave) (λ k part _ f. f.1)
              (running p g) parts (all_sure (running p g)) all_fit);
          book = ends.only_owed ∙ (λ i. record (over.boarded.book_is i) { owed = owed_is i });
        };
      }
        where
          all_sure : (ks : List ℕ) → AllByRecursion (λ _. Unit {0}) ks
          all_sure [] = tt
          all_sure (k ∷ ks) = (tt, all_sure ks)
