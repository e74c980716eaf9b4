use Rattle.std.proofs.Common.{[], ◌∷◌, ◌++◌, sym, ◌∙◌, subst, arith, le_refl}
use Rattle.std.proofs.KnownBytes.{Appends-nil}
use Rattle.sg_words.specs.Schedule.{Schedule}
use Rattle.sg_graph.specs.Run.{Epoch}
use Rattle.sg_world.specs.Worlds.{IsBetween}
use Rattle.sg_run.proofs.Fronts.{empty_run, took_nothing}
use Rattle.sg_run.proofs.Texts.{text_epoch, text_stop, front_further, any_error, whole_of, at_stop_of}
use Rattle.sg_run.proofs.execution.execute.Goals as goal

-- no memory for the list of turns
pub returns-in_default-clause-front : goal.returns-in_default-clause-front
returns-in_default-clause-front g c = ([], empty_run c.args.program.now c.args.turns.now, took_nothing (g.O.Sink.taken c.args.sink.now) [])

-- no memory to begin
pub returns-in_default-start-clause-front : goal.returns-in_default-start-clause-front
returns-in_default-start-clause-front g c = ([], empty_run c.args.program.now c.args.turns.now, took_nothing (g.O.Sink.taken c.args.sink.now) [])

pub loop-order-init : goal.loop-order-init
loop-order-init g c = (
  [],
  subst (λ (s : Schedule). IsBetween c.args.program.now c.args.turns.now [] c.in-Ok-start.world s) (sym c.in-Ok.ensures) (c.in-Ok-start.ensures c.args.turns.now),
  Appends-nil (g.O.Sink.taken c.args.sink.now),
  le_refl _,
)

-- it broke off at an epoch
pub returns-in_err-after-clause-front : goal.returns-in_err-after-clause-front
returns-in_err-after-clause-front g c =
    let p = c.args.program.now in
    let turns = c.args.turns.now in
    let i = c.loop-order.invariant in
    any_error c.from_residual.result
    (front_further p turns i.0 (g.O.Sink.taken c.args.sink.now) (g.O.Sink.taken c.loop-order.sink) (g.O.Sink.taken c.write_epoch.new.sink) i.2
    (c.in_err-after.ensures.front p turns i.0 i.1))

-- the epoch was the last one
pub returns-then-last-clause-whole : goal.returns-then-last-clause-whole
returns-then-last-clause-whole g c =
    let p = c.args.program.now in
    let turns = c.args.turns.now in
    let i = c.loop-order.invariant in
    let w = c.in_ok-after.ensures.written in
    let comes = w.2 p turns i.0 i.1 in (
      i.0 ++ Epoch w.0 comes.0 comes.1 ∷ [],
      whole_of p turns i.0 w.0 c.in_ok-after.after c.write_epoch.new.order comes (sym w.1 ∙ c.if-last.true),
      text_epoch (g.O.Sink.taken c.args.sink.now) (g.O.Sink.taken c.loop-order.sink) (g.O.Sink.taken c.write_epoch.new.sink) i.0 w.0 comes.0 comes.1 i.2 w.3,
    )

-- it broke off at the stop
pub returns-in_err-world-clause-front : goal.returns-in_err-world-clause-front
returns-in_err-world-clause-front g c =
    let p = c.args.program.now in
    let turns = c.args.turns.now in
    let i = c.loop-order.invariant in
    let w = c.in_ok-after.ensures.written in
    let comes = w.2 p turns i.0 i.1 in
    let t = at_stop_of p turns i.0 w.0 c.in_ok-after.after c.write_epoch.new.order comes (sym w.1 ∙ c.if-last.false) in
    any_error c.from_residual-in_err-world.result
    (front_further p turns (i.0 ++ Epoch w.0 comes.0 comes.1 ∷ []) (g.O.Sink.taken c.args.sink.now) (g.O.Sink.taken c.write_epoch.new.sink)
    (g.O.Sink.taken c.write_stop.new.sink)
    (text_epoch (g.O.Sink.taken c.args.sink.now) (g.O.Sink.taken c.loop-order.sink) (g.O.Sink.taken c.write_epoch.new.sink) i.0 w.0 comes.0 comes.1 i.2 w.3)
    (c.in_err-world.ensures.front p turns i.0 w.0 comes.0 comes.1 c.write_epoch.new.order t))

pub write_stop-requires : goal.write_stop-requires
write_stop-requires g c =
    let p = c.args.program.now in
    let turns = c.args.turns.now in
    let i = c.loop-order.invariant in
    let w = c.in_ok-after.ensures.written in
    let comes = w.2 p turns i.0 i.1 in (
      p,
      turns,
      i.0,
      w.0,
      comes.0,
      comes.1,
      c.write_epoch.new.order,
      at_stop_of p turns i.0 w.0 c.in_ok-after.after c.write_epoch.new.order comes (sym w.1 ∙ c.if-last.false),
    )

pub loop-order-preserved : goal.loop-order-preserved
loop-order-preserved g c =
    let p = c.args.program.now in
    let turns = c.args.turns.now in
    let i = c.loop-order.invariant in
    let w = c.in_ok-after.ensures.written in
    let s = c.in_ok-world.ensures.written in
    let comes = w.2 p turns i.0 i.1 in
    let t = at_stop_of p turns i.0 w.0 c.in_ok-after.after c.write_epoch.new.order comes (sym w.1 ∙ c.if-last.false) in (
      _,
      s.1 p turns i.0 w.0 comes.0 comes.1 c.write_epoch.new.order t,
      text_stop (g.O.Sink.taken c.args.sink.now) (g.O.Sink.taken c.write_epoch.new.sink) (g.O.Sink.taken c.write_stop.new.sink) i.0 w.0 comes.0 comes.1 s.0
          (text_epoch (g.O.Sink.taken c.args.sink.now) (g.O.Sink.taken c.loop-order.sink) (g.O.Sink.taken c.write_epoch.new.sink) i.0 w.0 comes.0 comes.1 i.2 w.3) s.2,
      omega (arith, i.3, c.in_ok-after.ensures.never_falls, c.in_ok-world.ensures.never_falls),
    )
