use Rattle.std.proofs.Common.{rules, List, ℕ, ◌≡◌, subst}
use Rattle.sg_io.specs.Progress.{TakesSome}
use Rattle.sg_trace.specs.Trace.{stop_text}
use Rattle.sg_run.proofs.Texts.{breaks_at_stop, breaks_stop}
use Rattle.sg_run.proofs.execution.write_stop.Goals as goal

-- no memory for the stop
pub returns-in_default-clause-front : goal.returns-in_default-clause-front
returns-in_default-clause-front g c p turns phases report order swept schedule at_stop =
    breaks_at_stop p turns phases report order swept c.args.world schedule (g.O.Sink.taken c.args.sink.now) at_stop

-- no memory for its piece
pub returns-in_default-append_stop-clause-front : goal.returns-in_default-append_stop-clause-front
returns-in_default-append_stop-clause-front g c p turns phases report order swept schedule at_stop =
    breaks_at_stop p turns phases report order swept c.args.world schedule (g.O.Sink.taken c.args.sink.now) at_stop

-- the piece wasn't taken whole
pub returns-clause-front : goal.returns-clause-front
returns-clause-front g c p turns phases report order swept schedule at_stop =
    let stop = c.in-Ok.stop in
    let is : c.as_slice.result.now ≡ stop_text stop = search rules in
    breaks_stop p turns phases report order swept stop c.in-Ok.next schedule (g.O.Sink.taken c.args.sink.now) (g.O.Sink.taken c.write_piece.new.sink)
    (c.in-Ok.ensures.between p turns phases report order swept schedule at_stop)
    (subst (λ (piece : List ℕ). TakesSome (g.O.Sink.taken c.args.sink.now) (g.O.Sink.taken c.write_piece.new.sink) piece) is c.in-Err.ensures.taken)
