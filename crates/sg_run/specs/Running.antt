-- How a run stops early, and what was taken of its text then.
use Rattle.std.specs.Prelude.{ℕ, Option, List, ◌++◌}
use Rattle.sg_io.specs.Faults.{Rose}
use Rattle.sg_io.specs.Progress.{TakesSome}
use Rattle.sg_program.specs.declared.program.Program.{Program}
use Rattle.sg_graph.specs.Run.{Phase}
use Rattle.sg_graph.specs.Follows.{IsRunBy}
use Rattle.sg_trace.specs.Trace.{text}
use Rattle.sg_run.specs.declared.execution.RunError.{RunError}
use Rattle.sg_run.specs.declared.execution.RunError.TheVariants.{Sink, Memory}

-- a run stops early where the sink's faults rose, or for want of memory
abbrev pub StopsRunning : RunError → ℕ → ℕ → Type 0
StopsRunning Sink before now = Rose before now
StopsRunning Memory before now = Unit {0}

-- behind these phases the run went on as far as some more, possibly none, and a front of the text of those was taken
abbrev pub BreaksOff : Program → List ℕ → List Phase → Option (List ℕ) → Option (List ℕ) → Type 0
BreaksOff p turns phases old new = (more : List Phase) × IsRunBy p turns (phases ++ more) × TakesSome old new (text more)
