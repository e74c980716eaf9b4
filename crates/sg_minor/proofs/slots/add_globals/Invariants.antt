use Rattle.sg_minor.specs.Joined.{global_slots}
use Rattle.sg_minor.specs.Parts.{Adds}
use Rattle.sg_minor.proofs.slots.add_globals.Given as goal

abbrev pub invariant-loop-x : goal.invariant-loop-x
invariant-loop-x l = Adds l.fn.space (global_slots l.fn.space.layout l.x) l.fn.slots.items l.slots.items
