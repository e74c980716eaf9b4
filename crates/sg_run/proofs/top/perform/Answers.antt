use Rattle.std.proofs.Common.{ℕ, List, refl, sym, subst}
use Rattle.sg_command.specs.declared.job.Job.{Job}
use Rattle.sg_command.specs.declared.job.Job.TheVariants.{Run, Replay, Gen}
use Rattle.sg_run.specs.Ends.{Ends, ends_of}
use Rattle.sg_run.specs.Status.{status_of}
use Rattle.sg_run.specs.Performing.{Performs, RunsBy}
use Rattle.sg_run.proofs.Fronts.{performs}
use Rattle.sg_run.proofs.Summed.{performs_sum}
use Rattle.sg_run.proofs.top.perform.Goals as goal

pub returns-in-Run : goal.returns-in-Run
returns-in-Run g c =
    let old : Ends = ends_of g.S.Source.left g.S.Source.faults g.O.Sink.taken g.O.Sink.faults c.args.source.now c.args.sink.now in
    let new : Ends = ends_of g.S.Source.left g.S.Source.faults g.O.Sink.taken g.O.Sink.faults c.run_program.new.source c.run_program.new.sink in
    subst (λ (job : Job). Performs job old new (status_of c.run_program.result)) (sym c.in-Run.is)
    (performs c.runs_by_turns.ensures Run refl old new (status_of c.run_program.result) c.run_program.ensures)

pub returns-in-Replay : goal.returns-in-Replay
returns-in-Replay g c =
    let old : Ends = ends_of g.S.Source.left g.S.Source.faults g.O.Sink.taken g.O.Sink.faults c.args.source.now c.args.sink.now in
    let new : Ends = ends_of g.S.Source.left g.S.Source.faults g.O.Sink.taken g.O.Sink.faults c.run_program-in-Replay.new.source c.run_program-in-Replay.new.sink in
    let status = status_of c.run_program-in-Replay.result in
    subst (λ (job : Job). Performs job old new status) (sym c.in-Replay.is)
    (performs c.runs_by_turns.ensures (Replay c.in-Replay.turns) refl old new status
    (subst (λ (turns : List ℕ). RunsBy turns old new status) c.as_slice.ensures c.run_program-in-Replay.ensures))

pub returns-in-Gen : goal.returns-in-Gen
returns-in-Gen g c =
    let old : Ends = ends_of g.S.Source.left g.S.Source.faults g.O.Sink.taken g.O.Sink.faults c.args.source.now c.args.sink.now in
    let new : Ends = ends_of g.S.Source.left g.S.Source.faults g.O.Sink.taken g.O.Sink.faults c.args.source.now c.summarize.new.sink in
    subst (λ (job : Job). Performs job old new (status_of c.summarize.result)) (sym c.in-Gen.is)
    (performs_sum c.in-Gen.seed c.in-Gen.size old new c.summarize.result c.summarize.ensures)
