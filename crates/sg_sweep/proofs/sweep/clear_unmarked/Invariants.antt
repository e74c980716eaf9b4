-- The slots so far were gone over.
use Rattle.sg_sweep.proofs.Clearing.{HasCleared}
use Rattle.sg_sweep.proofs.sweep.clear_unmarked.Given as goal

abbrev pub invariant-loop-slot : goal.invariant-loop-slot
invariant-loop-slot g l = HasCleared g.P.Port.leads g.P.Port.sees (g.P.SweepPort.heap l.fn.port) l.block l.size l.marks l.slot l.freed l.fn.port l.port
