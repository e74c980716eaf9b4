-- The stop behind an epoch: the owed sweep, the pauses, and then the answers to the requests.
use Rattle.std.proofs.Common.{◌≡◌, ◌≢◌, ℕ, zero, suc, ◌+◌, ◌≤◌, ◌⊎◌, Bool, false, Option, Some, None, List}
use Rattle.std.proofs.Common.{[], ◌∷◌, ◌++◌, length, slice_get, inl, inr, sym, refl, ap, ◌∙◌, subst, arith}
use Rattle.std.specs.Prelude.{is_some, IsTrue}
use Rattle.std.specs.List.{sum_by}
use Rattle.std.proofs.lemmas.Bool.{cases_lt}
use Rattle.std.proofs.lemmas.Option.{same_Some, slice_get_past}
use Rattle.std.proofs.lemmas.List.Sums.{sum_by-cons}
use Rattle.sg_words.specs.Lists.{Pairwise}
use Rattle.sg_words.specs.Schedule.{Schedule}
use Rattle.sg_program.specs.declared.program.Script.{Script}
use Rattle.sg_program.specs.declared.program.Statement.{Statement}
use Rattle.sg_program.specs.declared.program.Program.{Program}
use Rattle.sg_program.specs.Scripts.{written_out, statements_at, script_of}
use Rattle.sg_graph.specs.declared.reports.EpochReport.{EpochReport}
use Rattle.sg_graph.specs.declared.reports.MinorReport.{MinorReport}
use Rattle.sg_graph.specs.declared.reports.MajorReport.{MajorReport}
use Rattle.sg_graph.specs.declared.reports.StopReport.{StopReport}
use Rattle.sg_graph.specs.declared.reports.Service.{Service}
use Rattle.sg_graph.specs.Graph.{Graph}
use Rattle.sg_graph.specs.Book.{swept_out}
use Rattle.sg_graph.specs.Copies.{CopiesInOrder}
use Rattle.sg_graph.specs.Epoch.{Said}
use Rattle.sg_graph.specs.Laws.{KeepsPointedInto, KeepsInMajor, AreAsking}
use Rattle.sg_graph.specs.Pause.{ambiguous_words}
use Rattle.sg_graph.specs.Stop.{Asked, requests_in, wants_blocks, some_wants, placing_behind, MakesMinor, MakesMajor, MakesRoom, Serves, IsStop}
use Rattle.sg_graph.specs.Run.{Phase, Epoch, Stop}
use Rattle.sg_graph.specs.Follows.{FollowsTo, IsStopInOrder}
use Rattle.sg_graph.specs.Follows.FollowsTo.{GoesOn}
use Rattle.sg_space.specs.Space.{Contents, words_of, IsContents}
use Rattle.sg_placing.specs.declared.placing.Room.{Room}
use Rattle.sg_placing.specs.declared.placing.Room.TheVariants.{SlotsToo}
use Rattle.sg_placing.specs.Answering.{placing_in}
use Rattle.sg_rules.specs.Rules.{Idle, Actor, fresh, owning}
use Rattle.sg_order.specs.Rest.{IsReady}
use Rattle.sg_order.specs.Serving.{StaysReady}
use Rattle.sg_order.specs.Held.{HeldIsSound}
use Rattle.sg_actor.specs.declared.mutator.Stage.{Stage}
use Rattle.sg_actor.specs.declared.mutator.Stage.TheVariants.{Ended, Asking, Yielded}
use Rattle.sg_actor.specs.State.{Mutating, actor_of, waiting, IsCounted, DropsBuffer}
use Rattle.sg_mutate.specs.Epochs.{constants_of, parted, found_in, found_at, actors_in, AreMutatorsOf}
use Rattle.sg_world.specs.Stopping.{held_by, held_in, HaveRegisters, asked_of, requests_of, HaveBuffersBy}
use Rattle.sg_world.specs.Steps.{HasHalted}
use Rattle.sg_world.specs.Serving.{MayGoOn, MayAllGoOn, IsReadyNow, IsFurther, HaveGoneOn}
use Rattle.sg_world.specs.Worlds.{Worldly, CanRun, IsWorldOf, IsBetween, HasLeftReady, IsAtStop}
use Rattle.sg_world.proofs.Lists.{pairwise_at, pairwise_at_right, pairwise_length, pairwise_by, joined_pairwise, sums_le, sums_less, some_at, asked_somewhere}
use Rattle.sg_world.proofs.Heaps.{held_of_heap}
use Rattle.sg_world.proofs.Paused.{AreAmong, none_among, own_among, ambiguous_are}
use Rattle.sg_world.proofs.Asked.{are_asking, can_tell, serves_behind}
use Rattle.sg_world.proofs.Halted.{ready_with, ready_without}

few_in : (scripts : List Script) (k : ℕ) → length (statements_at (slice_get scripts k)) ≤ sum_by (λ (script : Script). length (written_out script.items))
    scripts
few_in [] k = omega arith
few_in (script ∷ scripts) zero = let e = sum_by-cons (λ (script : Script). length (written_out script.items)) script scripts in omega arith
few_in (script ∷ scripts) (suc k) = let e = sum_by-cons (λ (script : Script). length (written_out script.items)) script scripts in let l =
    few_in scripts k in omega arith

-- the first statements of these mutators' next epochs, together, are no more than a program can have
first_few : (p : Program) (ns : List Mutating) → CanRun p → AreMutatorsOf p ns → ((k : ℕ) (n : Mutating) → slice_get ns k ≡ Some n → IsCounted n) →
    sum_by (λ (n : Mutating). n.first) ns ≤ 1048576
first_few p ns can are counted =
    let below = sums_le (λ (n : Mutating). n.first) (λ (script : Script). length (written_out script.items)) ns p.mutators
    (pairwise_by (λ (n : Mutating) (script : Script). n.first ≤ length (written_out script.items)) ns p.mutators (sym are.count) each) in
    let q = can.limits.statements in omega arith
  where
    each : (k : ℕ) (n : Mutating) (script : Script) → slice_get ns k ≡ Some n → slice_get p.mutators k ≡ Some script →
        n.first ≤ length (written_out script.items)
    each k n script is_n is_script =
        let c = counted k n is_n in
        let whole : length (script_of n.program n.number) ≡ length (written_out script.items) =
        ap (λ q. length (script_of q n.number)) (are.program k n is_n) ∙ ap (λ j. length (script_of p j)) (are.number k n is_n)
        ∙ ap (λ x. length (statements_at x)) is_script in
        omega arith

-- a world's number fits
pub few_epochs : (p : Program) (world : Worldly) → IsWorldOf p world → world.number ≤ 1048576
few_epochs p world of = let l = first_few p world.mutators of.can of.are of.counted in let q = of.numbered in omega arith

-- but for its buffer the mutator is as it was
record IsAsBefore (m o : Mutating) : Type 0 where
  stage : o.stage ≡ m.stage
  program : o.program ≡ m.program
  number : o.number ≡ m.number
  first : o.first ≡ m.first
  told : o.told ≡ m.told
  script : o.script ≡ m.script

as_before : (ms os : List Mutating) (minor : Option MinorReport) → HaveBuffersBy minor ms os → Pairwise IsAsBefore ms os
as_before ms os (Some report) dropped = pairwise_by IsAsBefore ms os (pairwise_length DropsBuffer ms os dropped) each
  where
    each : (k : ℕ) (m o : Mutating) → slice_get ms k ≡ Some m → slice_get os k ≡ Some o → IsAsBefore m o
    each k m o is_m is_o =
        let at = pairwise_at DropsBuffer ms os k m dropped is_m in
        let d : DropsBuffer m o = subst (λ (x : Mutating). DropsBuffer m x) (same_Some at.0 o (sym at.1 ∙ is_o)) at.2 in
        record {
          stage = d.stage;
          program = d.same.program;
          number = d.same.number;
          first = d.same.first;
          told = ap (λ (a : Actor). a.told) d.actor;
          script = ap (λ (a : Actor). a.script) d.actor;
        }
as_before ms os None same = subst (λ (xs : List Mutating). Pairwise IsAsBefore ms xs) (sym same) (unchanged ms)
  where
    unchanged : (xs : List Mutating) → Pairwise IsAsBefore xs xs
    unchanged xs = pairwise_by IsAsBefore xs xs refl (λ k m o is_m is_o. subst (λ (x : Mutating). IsAsBefore m x) (same_Some m o (sym is_m ∙ is_o)) (record {
      stage = refl;
      program = refl;
      number = refl;
      first = refl;
      told = refl;
      script = refl;
    }))

pub buffers_length : (ms os : List Mutating) (minor : Option MinorReport) → HaveBuffersBy minor ms os → length os ≡ length ms
buffers_length ms os minor buffers = pairwise_length IsAsBefore ms os (as_before ms os minor buffers)

asked_by_stage : (m o : Mutating) → IsAsBefore m o → (stage : Stage) → asked_of o stage ≡ asked_of m stage
asked_by_stage m o is (Asking statement request) =
    λ i. record { by = is.number i; statement = is.first i + length (is.told i); request = request } ∷ []
asked_by_stage m o is stage = refl

asks_stage : (m : Mutating) (stage : Stage) → asked_of m stage ≢ [] → waiting stage ≡ 1
asks_stage m (Asking statement request) some = refl
asks_stage m stage some = absurd (some refl)

module _ (keeps : KeepsPointedInto) (keeps_major : KeepsInMajor) (stays : StaysReady) (is_sound : HeldIsSound) (p : Program) (turns : List ℕ)
    (phases : List Phase) (report : EpochReport) (order : List Said) (swept : List ℕ) (world : Worldly) (schedule : Schedule)
    (t : IsAtStop p turns phases report order swept world schedule) (sixteen : HaveRegisters world.mutators) where
  abbrev g : Graph
  g = t.graph

  abbrev ms : List Mutating
  ms = world.mutators

  words_so : held_in world.mutators ≡ ambiguous_words p t.graph t.book
  words_so = ambiguous_are p t.graph t.book world.mutators t.of.are.count sixteen t.ready

  pub asking : AreAsking p t.graph (requests_of world.mutators)
  asking = are_asking p t.graph t.book world.mutators t.of.are t.ready

  -- behind a minor pause nobody has a buffer
  module _ (minor : MinorReport) (major : Option MajorReport) (room : Room) (v : Contents)
      (halted : HasHalted p t.graph t.book (held_in world.mutators) (requests_of world.mutators) (Some minor) major room v) (os : List Mutating)
      (dropped : Pairwise DropsBuffer world.mutators os) where
    after_pause : (k : ℕ) (a : Actor) (script : List Statement) → AreAmong (held_in world.mutators) a → IsReady p t.graph t.book k a script →
        IsReady p t.graph halted.book k (owning a 0 0) script
    after_pause k = ready_with keeps keeps_major stays is_sound p t.graph t.plain (held_in world.mutators) (requests_of world.mutators) k t.book major room v
        minor halted

    ready_dropped : (k : ℕ) (m o : Mutating) → slice_get world.mutators k ≡ Some m → DropsBuffer m o → (stage : Stage) → m.stage ≡ stage →
        HasLeftReady p t.graph t.book k m stage → HasLeftReady p t.graph halted.book k o stage
    ready_dropped k m o at drops Ended e r =
        let from : 0 ≡ o.from = sym (ap (λ (a : Actor). a.from) drops.actor) in
        let to : 0 ≡ o.to = sym (ap (λ (a : Actor). a.to) drops.actor) in (
          r.0,
          subst (λ (a : Actor). IsReady p t.graph halted.book k a []) (λ i. record (fresh []) { from = from i; to = to i })
              (after_pause k (parted m) [] (none_among (held_in world.mutators) m.from m.to) r.1),
        )
    ready_dropped k m o at drops (Asking statement request) e r =
        let script : m.script ≡ o.script = sym (ap (λ (a : Actor). a.script) drops.actor) in (
          r.0,
          r.1,
          subst (λ (xs : List Statement). IsReady p t.graph halted.book k (actor_of o) (statement ∷ xs)) script
              (subst (λ (a : Actor). IsReady p t.graph halted.book k a (statement ∷ m.script)) (sym drops.actor)
              (after_pause k (actor_of m) (statement ∷ m.script) (own_among world.mutators k m at (ap (λ (x : Stage). held_by m x) e)) r.2)),
        )
    ready_dropped k m o at drops Yielded e r =
        let script : m.script ≡ o.script = sym (ap (λ (a : Actor). a.script) drops.actor) in (
          r.0,
          subst (λ (xs : List Statement). IsReady p t.graph halted.book k (actor_of o) xs) script
              (subst (λ (a : Actor). IsReady p t.graph halted.book k a m.script) (sym drops.actor)
              (after_pause k (actor_of m) m.script (own_among world.mutators k m at (ap (λ (x : Stage). held_by m x) e)) r.1)),
        )
    ready_dropped k m o at drops stage e r = absurd r

    left_with : (k : ℕ) (o : Mutating) → slice_get os k ≡ Some o → HasLeftReady p t.graph halted.book k o o.stage
    left_with k o e =
        let m = pairwise_at_right DropsBuffer world.mutators os k o dropped e in
        subst (λ (x : Stage). HasLeftReady p t.graph halted.book k o x) (sym m.2.stage) (ready_dropped k m.0 o m.1 m.2 m.0.stage refl (t.ready k m.0 m.1))

    beyond_with : (k : ℕ) → length world.mutators ≤ k → IsReady p t.graph halted.book k (fresh []) []
    beyond_with k l = after_pause k (fresh []) [] (none_among (held_in world.mutators) 0 0) (t.beyond k l)

  -- and without one all is as it was
  module _ (major : Option MajorReport) (room : Room) (v : Contents)
      (halted : HasHalted p t.graph t.book (held_in world.mutators) (requests_of world.mutators) None major room v) where
    still_ready : (k : ℕ) (a : Actor) (script : List Statement) → IsReady p t.graph t.book k a script → IsReady p t.graph halted.book k a script
    still_ready k = ready_without keeps keeps_major stays is_sound p t.graph t.plain (held_in world.mutators) (requests_of world.mutators) k t.book major room v
        halted

    still_left : (k : ℕ) (m : Mutating) (stage : Stage) → HasLeftReady p t.graph t.book k m stage → HasLeftReady p t.graph halted.book k m stage
    still_left k m Ended r = (r.0, still_ready k _ _ r.1)
    still_left k m (Asking statement request) r = (r.0, r.1, still_ready k _ _ r.2)
    still_left k m Yielded r = (r.0, still_ready k _ _ r.1)
    still_left k m stage r = absurd r

  left_by : (minor : Option MinorReport) (major : Option MajorReport) (room : Room) (v : Contents)
      (halted : HasHalted p t.graph t.book (held_in world.mutators) (requests_of world.mutators) minor major room v) (os : List Mutating) →
      HaveBuffersBy minor world.mutators os → (k : ℕ) (o : Mutating) → slice_get os k ≡ Some o → HasLeftReady p t.graph halted.book k o o.stage
  left_by (Some report) major room v halted os dropped k o e = left_with report major room v halted os dropped k o e
  left_by None major room v halted os same k o e =
      still_left major room v halted k o o.stage (t.ready k o (ap (λ (xs : List Mutating). slice_get xs k) (sym same) ∙ e))

  beyond_by : (minor : Option MinorReport) (major : Option MajorReport) (room : Room) (v : Contents)
      (halted : HasHalted p t.graph t.book (held_in world.mutators) (requests_of world.mutators) minor major room v) (os : List Mutating) →
      HaveBuffersBy minor world.mutators os → (k : ℕ) → length world.mutators ≤ k → IsReady p t.graph halted.book k (fresh []) []
  beyond_by (Some report) major room v halted os dropped k l = beyond_with report major room v halted os dropped k l
  beyond_by None major room v halted os same k l = still_ready major room v halted k (fresh []) [] (t.beyond k l)

  module _ (minor : Option MinorReport) (major : Option MajorReport) (room : Room) (v : Contents)
      (halted : HasHalted p t.graph t.book (held_in world.mutators) (requests_of world.mutators) minor major room v) (contents : IsContents v)
      (os : List Mutating) (buffers : HaveBuffersBy minor world.mutators os) where
    as_were : Pairwise IsAsBefore world.mutators os
    as_were = as_before world.mutators os minor buffers

    was : (k : ℕ) (o : Mutating) → slice_get os k ≡ Some o → (m : Mutating) × (slice_get world.mutators k ≡ Some m) × IsAsBefore m o
    was k o e = pairwise_at_right IsAsBefore world.mutators os k o as_were e

    script_few : (k : ℕ) → length (script_of p k) ≤ 1048576
    script_few k = let l = few_in p.mutators k in let q = t.of.can.limits.statements in omega arith

    same_requests : requests_of os ≡ requests_of world.mutators
    same_requests = sym (joined_pairwise IsAsBefore (λ (m : Mutating). asked_of m m.stage) (λ (o : Mutating). asked_of o o.stage)
        (λ m o d. sym (ap (asked_of o) d.stage ∙ asked_by_stage m o d m.stage)) world.mutators os as_were)

    one_may : (k : ℕ) (o : Mutating) → slice_get os k ≡ Some o → MayGoOn p t.graph halted.book k o
    one_may k o e = let m = was k o e in record {
      left = left_by minor major room v halted os buffers k o e;
      number = m.2.number ∙ t.of.are.number k m.0 m.1;
      tells = can_tell p halted.book os k o e (λ wants. halted.shows (subst (λ (xs : List Asked). IsTrue (some_wants wants_blocks xs)) same_requests wants));
      few =
          let c = t.of.counted k m.0 m.1 in
          let whole : length (script_of m.0.program m.0.number) ≡ length (script_of p k) =
          ap (λ q. length (script_of q m.0.number)) (t.of.are.program k m.0 m.1) ∙ ap (λ j. length (script_of p j)) (t.of.are.number k m.0 m.1) in
          let f = m.2.first in
          let told : length o.told ≡ length m.0.told = ap length m.2.told in
          let l = script_few k in
          omega arith;
    }

    pub may_go_on : MayAllGoOn p room t.graph halted.book 0 v os
    may_go_on = record {
      holding = record { contents = contents; plain = t.plain; heap = halted.heap };
      fits = halted.fits;
      each = λ r o e. subst (λ j. MayGoOn p t.graph halted.book j o) (let z : r ≡ 0 + r = omega arith in z) (one_may r o e);
    }

    module _ (services : List Service) (u : Contents) (ns : List Mutating) (all : HaveGoneOn p (placing_in room) t.graph halted.book 0 os services u ns)
        (stopped : u.stop ≡ 0) where
      abbrev told : StopReport
      told = record { number = world.number; minor = minor; major = major; served = services }

      requests_so : requests_of world.mutators ≡ requests_in report.parts
      requests_so = sym t.asked

      is_stop : IsStop p world.number t.graph t.book (requests_in report.parts) told all.graph all.book
      is_stop = record {
        number = refl;
        minor_graph = t.graph;
        minor_book = halted.minor_book;
        minor = subst (λ ws. MakesMinor p t.graph (swept_out t.book) ws (requests_in report.parts) minor t.graph halted.minor_book) words_so
            (subst (λ rs. MakesMinor p t.graph (swept_out t.book) (held_in world.mutators) rs minor t.graph halted.minor_book) requests_so halted.makes_minor);
        major_graph = t.graph;
        major_book = halted.major_book;
        major = subst (λ ws. MakesMajor p t.graph halted.minor_book ws (requests_in report.parts) minor major t.graph halted.major_book) words_so
            (subst (λ rs. MakesMajor p t.graph halted.minor_book (held_in world.mutators) rs minor major t.graph halted.major_book) requests_so
            halted.makes_major);
        book = halted.book;
        room = subst (λ rs. MakesRoom p t.graph halted.major_book rs major halted.book) requests_so halted.makes_room;
        serves = subst (λ rs. Serves p (placing_behind major) t.graph halted.book rs services all.graph all.book) requests_so
            (serves_behind p t.graph halted.book (requests_of world.mutators) services all.graph all.book major room halted.suits
            (subst (λ rs. Serves p (placing_in room) t.graph halted.book rs services all.graph all.book) same_requests all.serves));
        sound = is_sound p (constants_of u) (words_of u) all.graph all.book (held_of_heap p u all.graph all.book all.holding.plain all.holding.heap);
      }

      in_order : IsStopInOrder p world.number t.graph t.book report told all.graph all.book
      unfolding is_stop
      in_order = record {
        is = is_stop;
        copies = λ r e. subst (λ ws. CopiesInOrder p t.graph (swept_out t.book) ws halted.minor_book) words_so (halted.copies r e);
      }

      counts : length ns ≡ length world.mutators
      counts = pairwise_length IsFurther os ns all.further ∙ pairwise_length IsAsBefore world.mutators os as_were

      further_of : (k : ℕ) (n : Mutating) → slice_get ns k ≡ Some n → (o : Mutating) × (slice_get os k ≡ Some o) × IsFurther o n
      further_of k n e = pairwise_at_right IsFurther os ns k n all.further e

      are : AreMutatorsOf p ns
      are = record {
        count = counts ∙ t.of.are.count;
        program = λ k n e. (let o = further_of k n e in let m = was k o.0 o.1 in o.2.program ∙ m.2.program ∙ t.of.are.program k m.0 m.1);
        number = λ k n e. (let o = further_of k n e in let m = was k o.0 o.1 in o.2.number ∙ m.2.number ∙ t.of.are.number k m.0 m.1);
      }

      counted : (k : ℕ) (n : Mutating) → slice_get ns k ≡ Some n → IsCounted n
      counted k n e =
          let o = further_of k n e in
          let m = was k o.0 o.1 in
          o.2.counted (
          let c = t.of.counted k m.0 m.1 in
          let f = m.2.first in
          let told : length o.0.told ≡ length m.0.told = ap length m.2.told in
          let script : length o.0.script ≡ length m.0.script = ap length m.2.script in
          let stage : waiting o.0.stage ≡ waiting m.0.stage = ap waiting m.2.stage in
          let whole : length (script_of o.0.program o.0.number) ≡ length (script_of m.0.program m.0.number) =
          ap (λ q. length (script_of q o.0.number)) m.2.program ∙ ap (λ j. length (script_of m.0.program j)) m.2.number in
          omega arith)

      -- somebody asked, and is a statement further on
      later : sum_by (λ (o : Mutating). o.first) os + 1 ≤ sum_by (λ (n : Mutating). n.first) ns
      later =
          let some : requests_of os ≢ [] = λ none. t.wanted (sym requests_so ∙ sym same_requests ∙ none) in
          let who = asked_somewhere (λ (o : Mutating). asked_of o o.stage) os some in
          let n = pairwise_at IsFurther os ns who.0 who.1 all.further who.2 in
          let one : waiting who.1.stage ≡ 1 = asks_stage who.1 who.1.stage who.3 in
          let f = n.2.first in
          sums_less (λ (o : Mutating). o.first) (λ (n : Mutating). n.first) os ns who.0 who.1 n.0
          (pairwise_by (λ (o n : Mutating). o.first ≤ n.first) os ns (pairwise_length IsFurther os ns all.further)
          (λ k o n is_o is_n. (let x = further_of k n is_n in let same : x.0 ≡ o = same_Some x.0 o (sym x.1 ∙ is_o) in let first =
          ap (λ (y : Mutating). y.first) same in let g = x.2.first in omega arith)))
          who.2 n.1 (omega arith)

      numbered : world.number + 1 ≤ sum_by (λ (n : Mutating). n.first) ns
      numbered =
          let same = sums_le (λ (m : Mutating). m.first) (λ (o : Mutating). o.first) world.mutators os
          (pairwise_by (λ (m o : Mutating). m.first ≤ o.first) world.mutators os
          (pairwise_length IsAsBefore world.mutators os as_were)
          (λ k m o is_m is_o. (let x = was k o is_o in let same : x.0 ≡ m = same_Some x.0 m (sym x.1 ∙ is_m) in let first =
          ap (λ (y : Mutating). y.first) same in let g = x.2.first in omega arith))) in
          let l = later in let q = t.of.numbered in omega arith

      few : world.number + 1 ≤ 1048576
      few = let l = first_few p ns t.of.can are counted in let q = numbered in omega arith

      now : (k : ℕ) (n : Mutating) → slice_get ns k ≡ Some n → IsReadyNow p all.graph all.book k n
      now k n e = subst (λ j. IsReadyNow p all.graph all.book j n) (let q : 0 + k ≡ k = omega arith in q) (all.own k n e)

      beyond : (k : ℕ) → length ns ≤ k → IsReady p all.graph all.book k (fresh []) []
      beyond k l =
          all.others k (fresh []) [] (λ r q d. absurd (let a = counts in let b = pairwise_length IsAsBefore world.mutators os as_were in omega arith))
          (beyond_by minor major room v halted os buffers k (let a = counts in omega arith))

      found : (k : ℕ) (n : Mutating) → slice_get ns k ≡ Some n → actors_in ns k ≡ found_at n.stage n
      found k n e = ap found_in e

      each_actor : (P : ℕ → Actor → Type 0) → ((k : ℕ) (n : Mutating) → slice_get ns k ≡ Some n → P k (found_at n.stage n)) →
          ((k : ℕ) → length ns ≤ k → P k (fresh [])) → (k : ℕ) → P k (actors_in ns k)
      each_actor P here there k = elim (cases_lt k (length ns)) [
        | inl l ↦ let n = some_at ns k l in subst (P k) (sym (found k n.0 n.1)) (here k n.0 n.1)
        | inr l ↦ subst (P k) (sym (ap found_in (slice_get_past ns k l))) (there k l)
      ]

      -- the world behind the stop
      pub goes_on : (after : Worldly) → after.program ≡ world.program → after.space ≡ u → after.mutators ≡ ns → after.number ≡ world.number + 1 →
          (after.owes ≡ false → (is_some major ≡ false) ⊎ (room ≡ SlotsToo)) →
          IsBetween p turns (phases ++ Epoch report order swept ∷ Stop told ∷ []) after
          schedule
      goes_on after program space mutators number may =
          subst (λ (w : Worldly). IsBetween p turns
          (phases ++ Epoch report order swept ∷ Stop told ∷ []) w schedule)
          (λ i. record { program = sym program i; space = sym space i; mutators = sym mutators i; number = sym number i; owes = after.owes }) between
        where
          between : IsBetween p turns (phases ++ Epoch report order swept ∷ Stop told ∷ [])
              (record { program = world.program; space = u; mutators = ns; number = world.number + 1; owes = after.owes }) schedule
          between = record {
            of = record { can = t.of.can; program = t.of.program; are = are; contents = all.holding.contents; counted = counted; numbered = numbered };
            graph = all.graph;
            book = all.book;
            follows = subst (λ k. FollowsTo p turns k
                (phases ++ Epoch report order swept ∷ Stop told ∷ []) all.graph all.book
                schedule)
                (let e : suc world.number ≡ world.number + 1 = omega arith in e)
                (GoesOn world.number phases t.before_graph t.before_book t.before_schedule order swept report t.graph t.book schedule _ all.graph all.book
                t.follows t.epoch t.going in_order);
            opened = record {
              limits = t.of.can.limits;
              opening = record {
                held = held_of_heap p u all.graph all.book all.holding.plain all.holding.heap;
                ready = each_actor (λ k a. IsReady p all.graph all.book k a a.script) (λ k n e. (now k n e).ready) beyond;
                idle = λ k. inl (each_actor (λ k a. a.mid ≡ Idle) (λ k n e. (now k n e).idle) (λ k l. refl) k);
                going = stopped;
                untold = each_actor (λ k a. a.told ≡ []) (λ k n e. (now k n e).untold) (λ k l. refl);
              };
              space = record { contents = all.holding.contents; layout = all.holding.heap.0.layout };
              fits = all.holding.heap.0.fits;
              are = are;
              stages = λ k n e. (now k n e).stage;
              going = λ ended. t.going (λ k l. sym (all.ended k) ∙ ended k l);
            };
            holds = all.holding.heap;
            unowed = λ none j l. ap (λ (owed : ℕ → Bool). owed j) all.owed ∙ halted.rests (may none) j l;
            few = few;
          }
