use Rattle.std.proofs.Common.{ℕ, ◌+◌, ◌%◌, ◌<◌}
use Rattle.sg_cells.specs.Ended.{HasEnded}
use Rattle.sg_cells.proofs.schedule.first_going.Given as goal

abbrev pub invariant-loop-i : goal.invariant-loop-i
invariant-loop-i l = (j : ℕ) → j < l.i → HasEnded l.ended ((l.first + j) % l.actors)
