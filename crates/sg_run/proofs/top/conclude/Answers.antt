use Rattle.std.proofs.Common.{map, rules}
use Rattle.std.specs.Prelude.{string_bytes}
use Rattle.sg_run.specs.Ends.{ends_of}
use Rattle.sg_run.specs.Status.{status_of}
use Rattle.sg_run.proofs.Promised.{promises_of, promises_nothing}
use Rattle.sg_run.proofs.Summed.{load_of}
use Rattle.sg_run.proofs.top.conclude.Goals as goal

-- no memory for the list of a replay
pub returns-in-Err : goal.returns-in-Err
returns-in-Err g c = promises_nothing c.runs_by_turns.ensures _ _

pub perform-requires : goal.perform-requires
perform-requires g c = load_of (map string_bytes c.args.words.now) c.in-Some.job (search rules)

-- the words ask for this job
pub returns-in-Some : goal.returns-in-Some
returns-in-Some g c =
    let old = ends_of g.S.Source.left g.S.Source.faults g.O.Sink.taken g.O.Sink.faults c.args.source.now c.args.sink.now in
    let new = ends_of g.S.Source.left g.S.Source.faults g.O.Sink.taken g.O.Sink.faults c.perform.new.source c.perform.new.sink in
    promises_of c.one_job.ensures (map string_bytes c.args.words.now) c.in-Some.job old new (status_of c.perform.result) (search rules) c.perform.ensures
