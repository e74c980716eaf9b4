use Rattle.std.proofs.Common.{rules, List, ℕ, ◌≡◌, subst}
use Rattle.sg_io.specs.Progress.{TakesSome}
use Rattle.sg_trace.specs.Trace.{epoch_text}
use Rattle.sg_run.proofs.Texts.{breaks_between, breaks_epoch}
use Rattle.sg_run.proofs.execution.write_epoch.Goals as goal

-- no memory for the epoch
pub returns-in_default-clause-front : goal.returns-in_default-clause-front
returns-in_default-clause-front g c p turns phases between =
    breaks_between p turns phases c.args.world c.args.order.now (g.O.Sink.taken c.args.sink.now) between

-- no memory for its piece
pub returns-in_default-append_epoch-clause-front : goal.returns-in_default-append_epoch-clause-front
returns-in_default-append_epoch-clause-front g c p turns phases between =
    breaks_between p turns phases c.args.world c.args.order.now (g.O.Sink.taken c.args.sink.now) between

-- the piece wasn't taken whole
pub returns-clause-front : goal.returns-clause-front
returns-clause-front g c p turns phases between =
    let report = c.in-Ok.report in
    let is : c.as_slice.result.now ≡ epoch_text report = search rules in
    breaks_epoch p turns phases report c.in-Ok.after c.epoch.new.order (g.O.Sink.taken c.args.sink.now) (g.O.Sink.taken c.write_piece.new.sink)
    (c.in-Ok.ensures.comes p turns phases between)
    (subst (λ (piece : List ℕ). TakesSome (g.O.Sink.taken c.args.sink.now) (g.O.Sink.taken c.write_piece.new.sink) piece) is c.in-Err.ensures.taken)
