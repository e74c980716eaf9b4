use Rattle.std.proofs.Common.{arith}
use Rattle.sg_cells.proofs.Turns.{finds_one}
use Rattle.sg_cells.proofs.schedule.first_going.Goals as goal

pub unreachable-requires : goal.unreachable-requires
unreachable-requires c = finds_one c.args.actors c.args.ended c.args.first c.requires.some c.requires.left (λ j l. c.loop-i.invariant j (omega arith))
