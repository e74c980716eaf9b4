use Rattle.std.proofs.Common.{rules, List}
use Rattle.std.specs.Io.KnownBytes.{Appends}
use Rattle.std.specs.Prelude.{IfSome}
use Rattle.sg_graph.specs.Run.{Phase}
use Rattle.sg_graph.specs.Follows.{IsWholeRunBy}
use Rattle.sg_trace.specs.Trace.{text}
use Rattle.sg_parse.specs.Accepted.{IsAcceptedAs}
use Rattle.sg_run.specs.Ends.{Ends, ends_of}
use Rattle.sg_run.proofs.Fronts.{took_nothing, nothing_yet, no_front, writes_run, accepted_else}
use Rattle.sg_run.proofs.top.run_program.Goals as goal

-- no memory for the input: nothing was written, which is a front of any line and of the empty run's text
pub returns-in-Err-Memory : goal.returns-in-Err-Memory
returns-in-Err-Memory g c =
    let left = g.S.Source.left c.args.source.now in
    let old : Ends = ends_of g.S.Source.left g.S.Source.faults g.O.Sink.taken g.O.Sink.faults c.args.source.now c.args.sink.now in
    let new : Ends = ends_of g.S.Source.left g.S.Source.faults g.O.Sink.taken g.O.Sink.faults c.read_program.new.source c.args.sink.now in
    record {
      written = search rules;
      whole_input = search rules;
      understood = search rules;
      only = search rules;
      always = search rules;
      line = search rules;
      rose = search rules;
      untouched = search rules;
      write_fault = search rules;
      front_of_line = λ cut. no_front c.args.turns.now left old new (took_nothing _ _);
      front = λ cut. nothing_yet c.args.turns.now left old new (λ piece. took_nothing _ piece);
      complete = search rules;
      known = search rules;
    }

-- the whole trace was written
pub returns-in-Ok : goal.returns-in-Ok
returns-in-Ok g c =
    let left = g.S.Source.left c.args.source.now in
    let old : Ends = ends_of g.S.Source.left g.S.Source.faults g.O.Sink.taken g.O.Sink.faults c.args.source.now c.args.sink.now in
    let new : Ends = ends_of g.S.Source.left g.S.Source.faults g.O.Sink.taken g.O.Sink.faults c.read_program.new.source c.execute.new.sink in
    let found : IfSome (g.S.Source.left c.args.source.now) (λ input. IsAcceptedAs input c.in-Ok-Ok.program) = search rules in
    let run : (phases : List Phase) × IsWholeRunBy c.in-Ok-Ok.program c.args.turns.now phases × Appends (g.O.Sink.taken c.args.sink.now) (g.O.Sink.taken c.execute.new.sink) (text phases) = c.in-Ok.ensures.whole in
    record {
      written = λ _. writes_run c.args.turns.now left old new c.in-Ok-Ok.program run.0 found run.1 run.2;
      whole_input = search rules;
      understood = search rules;
      only = search rules;
      always = accepted_else left c.in-Ok-Ok.program _ found;
      line = search rules;
      rose = search rules;
      untouched = search rules;
      write_fault = search rules;
      front_of_line = search rules;
      front = search rules;
      complete = search rules;
      known = search rules;
    }
