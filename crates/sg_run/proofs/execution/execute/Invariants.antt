use Rattle.std.proofs.Common.{List, ◌≤◌, ◌-◌}
use Rattle.std.specs.Io.KnownBytes.{Appends}
use Rattle.sg_graph.specs.Run.{Phase}
use Rattle.sg_trace.specs.Trace.{text}
use Rattle.sg_world.specs.Worlds.{IsBetween}
use Rattle.sg_run.proofs.execution.execute.Given as goal

-- the text of the phases so far was taken, and the sink's count of faults didn't fall
abbrev pub invariant-loop-order : goal.invariant-loop-order
invariant-loop-order g l = (phases : List Phase) × IsBetween l.program l.turns phases l.world l.order × Appends (g.O.Sink.taken l.initial.sink) (g.O.Sink.taken l.sink) (text phases)
    × (g.O.Sink.faults l.initial.sink ≤ g.O.Sink.faults l.sink)

abbrev pub decreases-loop-order : goal.decreases-loop-order
decreases-loop-order g l = 1048577 - l.world.number
