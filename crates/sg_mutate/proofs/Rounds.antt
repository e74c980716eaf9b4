-- The actor that has the turn, as the code knows it.
use Rattle.std.proofs.Common.{◌≡◌, ◌≢◌, ℕ, ◌-◌, ◌^◌, ◌<◌, ◌≤◌, Option, Some, None, List, length, slice_get, slice_index, take, get_or, set, refl, ap, sym}
use Rattle.std.proofs.Common.{◌∙◌, subst, arith}
use Rattle.std.proofs.lemmas.List.{get_or-take}
use Rattle.std.proofs.lemmas.Option.{slice_get-get_or, get_or_from_slice_get}
use Rattle.sg_words.specs.Schedule.{Schedule, Gives}
use Rattle.sg_cells.specs.Ended.{HasEnded, SomeIsLeft}
use Rattle.sg_program.specs.declared.program.Program.{Program}
use Rattle.sg_program.specs.declared.answers.Leave.{Leave}
use Rattle.sg_graph.specs.Graph.{Graph}
use Rattle.sg_graph.specs.Book.{Book}
use Rattle.sg_graph.specs.Epoch.{running}
use Rattle.sg_graph.specs.Turns.{Position, HasGone}
use Rattle.sg_space.specs.Space.{Contents, words_of}
use Rattle.sg_frag.specs.Plain.{Led}
use Rattle.sg_frag.specs.Leading.{limit_of}
use Rattle.sg_rules.specs.Rules.{Constants, Actor}
use Rattle.sg_rules.specs.Sane.{IsSane}
use Rattle.sg_order.specs.OneOrder.{GoesSoFar, GoesAlways}
use Rattle.sg_actor.specs.declared.mutator.Stage.{Stage}
use Rattle.sg_actor.specs.declared.mutator.Stage.TheVariants.{Within, Ended, Asking, Yielded}
use Rattle.sg_actor.specs.State.{Mutating, mid_of, actor_of, leave_of}
use Rattle.sg_actor.specs.Turning.{HasClassForNext, TakesTurn}
use Rattle.sg_mutate.specs.Boards.{TurnsAreTaken, EndsAreTaken, TurnsOweLess}
use Rattle.sg_mutate.specs.Epochs.{constants_of, IsOpened}
use Rattle.sg_mutate.specs.declared.epochs.Actors.{Actors}
use Rattle.sg_mutate.specs.Going.{AreActors, IsOnSpace}
use Rattle.sg_mutate.proofs.Listed.{marked, some_left}
use Rattle.sg_mutate.proofs.Guided.{space_stays, on_space}
use Rattle.sg_mutate.proofs.Midst.{IsPlacedAt, TakesPart, Midst, running_is, is_running, space_is}
use Rattle.sg_mutate.proofs.Classed.{has_class}
use Rattle.sg_mutate.proofs.Turning.{first, part, has_left, has_stayed}
use Rattle.sg_mutate.proofs.Owing.{owed_all, all_owe_less}

stays_so : (p : Program) (stage : Stage) (position : Position) → IsPlacedAt p stage position → ¬ HasGone position → leave_of stage ≡ None
stays_so p Ended position h stays = absurd (stays (subst HasGone (sym h) tt))
stays_so p (Asking s request) position h stays = absurd (stays (subst HasGone (sym h.0) tt))
stays_so p Yielded position h stays = absurd (stays (subst HasGone (sym h) tt))
stays_so p stage position h stays = refl

no_leave : (o : Option Leave) → ¬ (o ≢ None) → o ≡ None
no_leave None h = refl
no_leave (Some leave) h = absurd (h (λ e. cc))

-- the turn that the code gives: actor i of the epoch that has come to here, whoever it is by the graph
pub record Round : Type 0 where
  pub s0 : Contents
  pub m0 : List Mutating
  pub schedule0 : Schedule
  pub actors : Actors
  pub acts : AreActors m0 actors
  pub s : Contents
  pub ms : List Mutating
  pub schedule : Schedule
  pub ended : ℕ
  pub mid : (p : Program) (g : Graph) (b : Book) → IsOpened p g b s0 m0 → Midst p g b s0 m0 schedule0 s ms schedule ended

abbrev pub Opened : Round → Program → Graph → Book → Type 0
Opened r p g b = IsOpened p g b r.s0 r.m0

module _ (r : Round) (p : Program) (g : Graph) (b : Book) (opened : Opened r p g b) where
  abbrev lay : Constants
  lay = constants_of r.s0

  abbrev mid : Midst p g b r.s0 r.m0 r.schedule0 r.s r.ms r.schedule r.ended
  mid = r.mid p g b opened

  count : r.actors.count ≡ length (running p g)
  count = r.acts.count ∙ ap length (running_is p g b r.s0 r.m0 opened)

  few : length (running p g) ≤ 16
  few = let e = count in let l = r.acts.few in let n = opened.are.count in let m = opened.limits.mutators_most in omega arith

  pub ended_all : (all : ℕ) → all ≡ 2 ^ r.actors.count - 1 → r.ended ≡ all → r.ended ≡ 2 ^ length (running p g) - 1
  ended_all all e f = f ∙ e ∙ ap (λ n. 2 ^ n - 1) count

  pub some_waits : (all : ℕ) → all ≡ 2 ^ r.actors.count - 1 → r.ended ≢ all → SomeIsLeft r.actors.count r.ended
  some_waits all e o =
      subst (λ n. SomeIsLeft n r.ended) (sym count)
      (some_left (length (running p g)) r.ended mid.few (λ f. o (f ∙ sym (e ∙ ap (λ n. 2 ^ n - 1) count))))

  module _ (i : ℕ) (below : i < r.actors.count) where
    abbrev k : ℕ
    k = slice_index r.actors.numbers i

    at : slice_get (running p g) i ≡ Some k
    at =
        let same : take r.actors.count r.actors.numbers ≡ running p g = r.acts.numbers ∙ running_is p g b r.s0 r.m0 opened in
        let n = count in
        let l : i < length (take r.actors.count r.actors.numbers) = let e = ap length same in omega arith in
        subst (λ ks. slice_get ks i ≡ Some k) same
        (slice_get-get_or (take r.actors.count r.actors.numbers) i 0 l ∙ ap Some (get_or-take r.actors.count r.actors.numbers i 0 below))

    pub there : k < length r.ms
    there = let l = (is_running p g b r.s0 r.m0 opened i k at).0 in let n = opened.are.count in let m = mid.are.count in omega arith

    module _ (d : Mutating) where
      abbrev m : Mutating
      m = get_or r.ms k d

      now : slice_get r.ms k ≡ Some m
      now = slice_get-get_or r.ms k d there

      has_part : (x : Mutating) × TakesPart p (mid.board.position k) x m (mid.actors k)
      has_part =
          let x = first p g b r.s0 r.m0 r.schedule0 opened r.s r.ms r.schedule r.ended mid i k at m now in
          (x.0, part p g b r.s0 r.m0 r.schedule0 opened r.s r.ms r.schedule r.ended mid i k at m now)

      placed : IsPlacedAt p m.stage (mid.board.position k)
      placed = has_part.1.placed

      is_actor : mid.actors k ≡ actor_of m
      is_actor = has_part.1.actor

      program : m.program ≡ p
      program = mid.are.program k m now

      pub going : ¬ HasEnded r.ended i → leave_of m.stage ≡ None
      going still = stays_so p m.stage (mid.board.position k) placed (λ h. still (mid.left i k at h))

      pub whole : m.stage ≢ Within
      whole e = subst (λ (stage : Stage). IsPlacedAt p stage (mid.board.position k)) e placed

      pub classed : HasClassForNext m
      classed between st rest script test tests holds =
          subst (λ (q : Program). 0 < length q.classes) (sym program)
          (has_class p lay g b (words_of r.s) mid.actors mid.boarded.so mid.boarded.one k (ap (λ (a : Actor). a.mid) is_actor ∙ ap mid_of between)
          st rest (ap (λ (a : Actor). a.script) is_actor ∙ script) test tests (λ z. holds (ap (λ (a : Actor). a.reg test.register) (sym is_actor) ∙ z)))

      module _ (so_far : GoesSoFar) (always : GoesAlways) where
        pub on : IsOnSpace m.program lay r.s (actor_of m)
        on =
            let here = space_stays p lay r.s0 r.s mid.keeps (space_is p g b r.s0 r.m0 opened) in
            subst (λ (q : Program). IsOnSpace q lay r.s (actor_of m)) (sym program)
            (subst (λ (a : Actor). IsOnSpace p lay r.s a) is_actor
            (on_space so_far always p lay g b r.s mid.actors mid.boarded.so here (ap limit_of mid.keeps.ends) k))

        sane : IsSane p lay (mid.actors k)
        sane = (always p lay g b (words_of r.s) mid.actors mid.boarded.so).sane k

        pub smaller : TurnsOweLess → ¬ HasEnded r.ended i → (n : Mutating) (t : Contents) → TakesTurn lay Led m r.s n t →
            owed_all lay (set r.ms k n) < owed_all lay r.ms
        smaller less still n t takes =
            let few_fragments = opened.space.contents.few in
            let few_blocks : p.config.blocks ≤ 65536 = let l = opened.limits.settings.blocks_most in omega arith in
            all_owe_less less p lay g b mid.order mid.board r.s t mid.actors opened.limits.settings.nursery_most few_blocks few_fragments mid.boarded k m n
            program is_actor sane (going still) r.ms k there
            (sym (get_or_from_slice_get r.ms k m m now)) takes

      module _ (turns : TurnsAreTaken) (ends : EndsAreTaken) (still : ¬ HasEnded r.ended i) (later : Schedule)
          (gives : Gives r.actors.count (HasEnded r.ended) r.schedule i later) (n : Mutating) (t : Contents) (takes : TakesTurn lay Led m r.s n t) where
        given : Gives (length (running p g)) (HasEnded r.ended) r.schedule i later
        given = subst (λ c. Gives c (HasEnded r.ended) r.schedule i later) count gives

        pub leaves : leave_of n.stage ≢ None → Midst p g b r.s0 r.m0 r.schedule0 t (set r.ms k n) later (marked r.ended i)
        leaves gone =
            has_left p g b r.s0 r.m0 r.schedule0 opened r.s r.ms r.schedule r.ended mid i k at m now turns ends n t (going still) takes later few given gone

        pub stays : ¬ (leave_of n.stage ≢ None) → Midst p g b r.s0 r.m0 r.schedule0 t (set r.ms k n) later r.ended
        stays known =
            has_stayed p g b r.s0 r.m0 r.schedule0 opened r.s r.ms r.schedule r.ended mid i k at m now turns ends n t (going still) takes later few given
            (no_leave (leave_of n.stage) known) still
