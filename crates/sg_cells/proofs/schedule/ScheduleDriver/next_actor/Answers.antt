use Rattle.std.proofs.Common.{◌+◌, ◌%◌, ◌<◌, subst, arith}
use Rattle.sg_words.specs.Schedule.{Schedule, Gives}
use Rattle.sg_cells.specs.Ended.{HasEnded}
use Rattle.sg_cells.proofs.Turns.{gives_listed, gives_spent, gives_round}
use Rattle.sg_cells.proofs.schedule.ScheduleDriver.next_actor.Goals as goal

pub loop-self-init : goal.loop-self-init
loop-self-init c = (c.self.invariant.0, c.self.invariant.1, λ k t g. subst (λ (s : Schedule). Gives c.args.actors (HasEnded c.args.ended) s k t) c.self.view_is g)

pub invariant_of-self : goal.invariant_of-self
invariant_of-self c = (omega arith, c.loop-self.invariant.1)

pub returns-then-is_going-clause-gives : goal.returns-then-is_going-clause-gives
returns-then-is_going-clause-gives c =
    c.loop-self.invariant.2 _ _ (gives_listed c.loop-self.self-inside.turns.items c.loop-self.self-inside.at c.loop-self.self-inside.next c.args.actors c.args.ended c.index.result.now (omega arith) c.index.ensures (c.is_going.ensures.going c.if-is_going.true))

pub loop-self-smaller : goal.loop-self-smaller
loop-self-smaller c = omega arith

pub loop-self-preserved : goal.loop-self-preserved
loop-self-preserved c = (
  omega arith,
  c.loop-self.invariant.1,
  λ k t g. c.loop-self.invariant.2 k t (gives_spent c.loop-self.self-inside.turns.items c.loop-self.self-inside.at c.loop-self.self-inside.next c.args.actors c.args.ended c.index.result.now k t (omega arith) c.index.ensures (c.is_going.ensures.ended c.if-is_going.false) g),
)

pub first_going-actor-requires-clause-first : goal.first_going-actor-requires-clause-first
first_going-actor-requires-clause-first c = c.loop-self.invariant.1

pub invariant_of-self-2 : goal.invariant_of-self-2
invariant_of-self-2 c =
    let few = c.requires.few in
    let some = c.requires.some in
    (c.loop-self.invariant.0, let low : (c.first_going-actor.result + 1) % c.args.actors < c.args.actors = omega arith in omega arith)

pub returns-clause-gives : goal.returns-clause-gives
returns-clause-gives c =
    c.loop-self.invariant.2 _ _ (gives_round c.loop-self.self-inside.turns.items c.loop-self.self-inside.at c.loop-self.self-inside.next c.args.actors c.args.ended c.first_going-actor.result (omega arith) c.first_going-actor.ensures)
