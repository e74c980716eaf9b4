use Rattle.std.proofs.Common.{◌≡◌, ◌≢◌, ℕ, ◌<◌, None, List, length, get_or, set, slice_index, sym, subst, arith}
use Rattle.sg_words.specs.Schedule.{Schedule}
use Rattle.sg_program.specs.declared.program.Program.{Program}
use Rattle.sg_graph.specs.Graph.{Graph}
use Rattle.sg_graph.specs.Book.{Book}
use Rattle.sg_space.specs.Space.{Contents}
use Rattle.sg_frag.specs.Plain.{Led}
use Rattle.sg_rules.specs.Rules.{Constants}
use Rattle.sg_actor.specs.declared.mutator.Stage.TheVariants.{Within}
use Rattle.sg_actor.specs.State.{Mutating, actor_of, leave_of}
use Rattle.sg_actor.specs.Turning.{HasClassForNext, TakesTurn}
use Rattle.sg_mutate.specs.declared.epochs.Actors.{Actors}
use Rattle.sg_mutate.specs.Epochs.{constants_of, IsOpened}
use Rattle.sg_mutate.specs.Going.{AreActors, IsOnSpace}
use Rattle.sg_mutate.proofs.Listed.{marked}
use Rattle.sg_mutate.proofs.Midst.{Midst, begins}
use Rattle.sg_mutate.proofs.Owing.{owed_all}
use Rattle.sg_mutate.proofs.Ending.{is_over}
use Rattle.sg_mutate.proofs.Rounds.{Round, some_waits, there, going, whole, classed, on, smaller, leaves, stays, ended_all}
use Rattle.sg_mutate.proofs.epochs.take_turns.Goals as goal

-- where the loop stands
abbrev round : (s0 : Contents) (m0 : List Mutating) (schedule0 : Schedule) (actors : Actors) → AreActors m0 actors →
    (s : Contents) (ms : List Mutating) (schedule : Schedule) (ended : ℕ) →
    ((p : Program) (g : Graph) (b : Book) → IsOpened p g b s0 m0 → Midst p g b s0 m0 schedule0 s ms schedule ended) → Round
round s0 m0 schedule0 actors acts s ms schedule ended mid =
    record { s0 = s0; m0 = m0; schedule0 = schedule0; actors = actors; acts = acts; s = s; ms = ms; schedule = schedule; ended = ended; mid = mid }

-- the turn that was taken
taken : (s0 s t : Contents) (ms : List Mutating) (j k : ℕ) (d n : Mutating) → j ≡ k →
    ((lay : Constants) → IsOnSpace (get_or ms j d).program lay s (actor_of (get_or ms j d)) → TakesTurn lay Led (get_or ms j d) s n t) →
    IsOnSpace (get_or ms k d).program (constants_of s0) s (actor_of (get_or ms k d)) → TakesTurn (constants_of s0) Led (get_or ms k d) s n t
taken s0 s t ms j k d n e turned is = subst P e turned (constants_of s0) is
  where
    P : ℕ → Type 0
    P i = (lay : Constants) → IsOnSpace (get_or ms i d).program lay s (actor_of (get_or ms i d)) → TakesTurn lay Led (get_or ms i d) s n t

pub turns-init : goal.turns-init
turns-init c = λ p g b opened.
    subst (λ (s : Schedule). Midst p g b c.args.space.now c.args.mutators.now c.args.order.now c.args.space.now c.args.mutators.now s 0) (sym c.begin.ensures)
    (begins p g b c.args.space.now c.args.mutators.now opened c.opens_boarded.ensures c.args.order.now)

pub next_actor-i-requires-clause-some : goal.next_actor-i-requires-clause-some
next_actor-i-requires-clause-some c =
    let o = c.requires.opened in
    let r = round c.args.space.now c.args.mutators.now c.args.order.now c.of-actors.result c.of-actors.ensures
    c.turns.space c.turns.mutators c.turns.order c.turns.ended c.turns.invariant in
    let x = some_waits r o.0 o.1 o.2 o.3 c.all-all.result c.all-all.ensures c.turns-test.true in
    let l = x.1 in
    omega arith

pub next_actor-i-requires-clause-left : goal.next_actor-i-requires-clause-left
next_actor-i-requires-clause-left c =
    let o = c.requires.opened in
    let r = round c.args.space.now c.args.mutators.now c.args.order.now c.of-actors.result c.of-actors.ensures
    c.turns.space c.turns.mutators c.turns.order c.turns.ended c.turns.invariant in
    some_waits r o.0 o.1 o.2 o.3 c.all-all.result c.all-all.ensures c.turns-test.true

pub bounds-mutators-k : goal.bounds-mutators-k
bounds-mutators-k c =
    let o = c.requires.opened in
    let r = round c.args.space.now c.args.mutators.now c.args.order.now c.of-actors.result c.of-actors.ensures
    c.turns.space c.turns.mutators c.turns.order c.turns.ended c.turns.invariant in
    subst (λ k. k < length c.turns.mutators) (sym c.number-k.ensures) (there r o.0 o.1 o.2 o.3 c.next_actor-i.result c.next_actor-i.ensures.within)

pub take_turn-requires-clause-going : goal.take_turn-requires-clause-going
take_turn-requires-clause-going c =
    let r = round c.args.space.now c.args.mutators.now c.args.order.now c.of-actors.result c.of-actors.ensures
    c.turns.space c.turns.mutators c.turns.order c.turns.ended c.turns.invariant in
    let o = c.requires.opened in
    subst (λ k. leave_of (get_or c.turns.mutators k c.index-mutators-k.result).stage ≡ None) (sym c.number-k.ensures)
    (going r o.0 o.1 o.2 o.3 c.next_actor-i.result c.next_actor-i.ensures.within c.index-mutators-k.result c.next_actor-i.ensures.going)

pub take_turn-requires-clause-whole : goal.take_turn-requires-clause-whole
take_turn-requires-clause-whole c =
    let r = round c.args.space.now c.args.mutators.now c.args.order.now c.of-actors.result c.of-actors.ensures
    c.turns.space c.turns.mutators c.turns.order c.turns.ended c.turns.invariant in
    let o = c.requires.opened in
    subst (λ k. (get_or c.turns.mutators k c.index-mutators-k.result).stage ≢ Within) (sym c.number-k.ensures)
    (whole r o.0 o.1 o.2 o.3 c.next_actor-i.result c.next_actor-i.ensures.within c.index-mutators-k.result)

pub take_turn-requires-clause-classed : goal.take_turn-requires-clause-classed
take_turn-requires-clause-classed c =
    let r = round c.args.space.now c.args.mutators.now c.args.order.now c.of-actors.result c.of-actors.ensures
    c.turns.space c.turns.mutators c.turns.order c.turns.ended c.turns.invariant in
    let o = c.requires.opened in
    subst (λ k. HasClassForNext (get_or c.turns.mutators k c.index-mutators-k.result)) (sym c.number-k.ensures)
    (classed r o.0 o.1 o.2 o.3 c.next_actor-i.result c.next_actor-i.ensures.within c.index-mutators-k.result)

pub take_turn-requires-clause-on : goal.take_turn-requires-clause-on
take_turn-requires-clause-on c =
    let r = round c.args.space.now c.args.mutators.now c.args.order.now c.of-actors.result c.of-actors.ensures
    c.turns.space c.turns.mutators c.turns.order c.turns.ended c.turns.invariant in
    let o = c.requires.opened in
    let lay = constants_of c.args.space.now in
    let m = λ (k : ℕ). get_or c.turns.mutators k c.index-mutators-k.result in (
      lay,
      subst (λ k. IsOnSpace (m k).program lay c.turns.space (actor_of (m k))) (sym c.number-k.ensures)
          (on r o.0 o.1 o.2 o.3 c.next_actor-i.result c.next_actor-i.ensures.within c.index-mutators-k.result c.goes_so_far.ensures c.goes_always.ensures),
    )

pub turns-smaller-then-take_turn : goal.turns-smaller-then-take_turn
turns-smaller-then-take_turn c =
    let r = round c.args.space.now c.args.mutators.now c.args.order.now c.of-actors.result c.of-actors.ensures
    c.turns.space c.turns.mutators c.turns.order c.turns.ended c.turns.invariant in
    let o = c.requires.opened in
    let lay = constants_of c.args.space.now in
    let k = slice_index c.of-actors.result.numbers c.next_actor-i.result in
    let is = on r o.0 o.1 o.2 o.3 c.next_actor-i.result c.next_actor-i.ensures.within c.index-mutators-k.result c.goes_so_far.ensures c.goes_always.ensures in
    let turn = taken c.args.space.now c.turns.space c.take_turn.new.space c.turns.mutators c.number-k.result k c.index-mutators-k.result c.take_turn.new.mutator
    c.number-k.ensures c.take_turn.ensures.turned is in
    subst (λ j. owed_all lay (set c.turns.mutators j c.take_turn.new.mutator) < owed_all lay c.turns.mutators) (sym c.number-k.ensures)
    (smaller r o.0 o.1 o.2 o.3 c.next_actor-i.result c.next_actor-i.ensures.within c.index-mutators-k.result c.goes_so_far.ensures c.goes_always.ensures
    c.turns_owe_less.ensures c.next_actor-i.ensures.going c.take_turn.new.mutator c.take_turn.new.space turn)

pub turns-smaller : goal.turns-smaller
turns-smaller c =
    let r = round c.args.space.now c.args.mutators.now c.args.order.now c.of-actors.result c.of-actors.ensures
    c.turns.space c.turns.mutators c.turns.order c.turns.ended c.turns.invariant in
    let o = c.requires.opened in
    let lay = constants_of c.args.space.now in
    let k = slice_index c.of-actors.result.numbers c.next_actor-i.result in
    let is = on r o.0 o.1 o.2 o.3 c.next_actor-i.result c.next_actor-i.ensures.within c.index-mutators-k.result c.goes_so_far.ensures c.goes_always.ensures in
    let turn = taken c.args.space.now c.turns.space c.take_turn.new.space c.turns.mutators c.number-k.result k c.index-mutators-k.result c.take_turn.new.mutator
    c.number-k.ensures c.take_turn.ensures.turned is in
    subst (λ j. owed_all lay (set c.turns.mutators j c.take_turn.new.mutator) < owed_all lay c.turns.mutators) (sym c.number-k.ensures)
    (smaller r o.0 o.1 o.2 o.3 c.next_actor-i.result c.next_actor-i.ensures.within c.index-mutators-k.result c.goes_so_far.ensures c.goes_always.ensures
    c.turns_owe_less.ensures c.next_actor-i.ensures.going c.take_turn.new.mutator c.take_turn.new.space turn)

pub turns-preserved-then-take_turn : goal.turns-preserved-then-take_turn
turns-preserved-then-take_turn c = λ p g b opened.
    let r = round c.args.space.now c.args.mutators.now c.args.order.now c.of-actors.result c.of-actors.ensures
    c.turns.space c.turns.mutators c.turns.order c.turns.ended c.turns.invariant in
    let k = slice_index c.of-actors.result.numbers c.next_actor-i.result in
    let is = on r p g b opened c.next_actor-i.result c.next_actor-i.ensures.within c.index-mutators-k.result c.goes_so_far.ensures c.goes_always.ensures in
    let turn = taken c.args.space.now c.turns.space c.take_turn.new.space c.turns.mutators c.number-k.result k c.index-mutators-k.result c.take_turn.new.mutator
    c.number-k.ensures c.take_turn.ensures.turned is in
    subst (λ j. Midst p g b c.args.space.now c.args.mutators.now c.args.order.now c.take_turn.new.space
    (set c.turns.mutators j c.take_turn.new.mutator) c.next_actor-i.new.self (marked c.turns.ended c.next_actor-i.result)) (sym c.number-k.ensures)
    (leaves r p g b opened c.next_actor-i.result c.next_actor-i.ensures.within c.index-mutators-k.result c.turns_are_taken.ensures c.ends_are_taken.ensures
    c.next_actor-i.ensures.going c.next_actor-i.new.self c.next_actor-i.ensures.gives c.take_turn.new.mutator c.take_turn.new.space turn
    (c.take_turn.ensures.left.0 c.if-take_turn.true))

pub turns-preserved : goal.turns-preserved
turns-preserved c = λ p g b opened.
    let r = round c.args.space.now c.args.mutators.now c.args.order.now c.of-actors.result c.of-actors.ensures
    c.turns.space c.turns.mutators c.turns.order c.turns.ended c.turns.invariant in
    let k = slice_index c.of-actors.result.numbers c.next_actor-i.result in
    let is = on r p g b opened c.next_actor-i.result c.next_actor-i.ensures.within c.index-mutators-k.result c.goes_so_far.ensures c.goes_always.ensures in
    let turn = taken c.args.space.now c.turns.space c.take_turn.new.space c.turns.mutators c.number-k.result k c.index-mutators-k.result c.take_turn.new.mutator
    c.number-k.ensures c.take_turn.ensures.turned is in
    subst (λ j. Midst p g b c.args.space.now c.args.mutators.now c.args.order.now c.take_turn.new.space
    (set c.turns.mutators j c.take_turn.new.mutator) c.next_actor-i.new.self c.turns.ended) (sym c.number-k.ensures)
    (stays r p g b opened c.next_actor-i.result c.next_actor-i.ensures.within c.index-mutators-k.result c.turns_are_taken.ensures c.ends_are_taken.ensures
    c.next_actor-i.ensures.going c.next_actor-i.new.self c.next_actor-i.ensures.gives c.take_turn.new.mutator c.take_turn.new.space turn
    (λ known. let e = c.take_turn.ensures.left.1 known in let f = c.if-take_turn.false in cc))

pub returns : goal.returns
returns c = record {
  over = λ p g b opened.
      let r = round c.args.space.now c.args.mutators.now c.args.order.now c.of-actors.result c.of-actors.ensures
      c.turns.space c.turns.mutators c.turns.order c.turns.ended c.turns.invariant in
      is_over p g b c.args.space.now c.args.mutators.now c.args.order.now opened c.turns.space c.turns.mutators c.turns.order c.turns.ended
      (c.turns.invariant p g b opened) (ended_all r p g b opened c.all-all.result c.all-all.ensures c.turns-test.false);
}
