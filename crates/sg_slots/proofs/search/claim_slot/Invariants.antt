-- The steps so far have passed over each block below `from`, and so much is known of that block.
use Rattle.std.proofs.Common.{◌+◌, ◌-◌, ◌*◌}
use Rattle.sg_slots.proofs.Trying.{IsTrying}
use Rattle.sg_slots.proofs.search.claim_slot.Given as goal

abbrev pub invariant-loop-block : goal.invariant-loop-block
invariant-loop-block g l = IsTrying g.P.Port.leads g.P.Port.sees l.size (g.P.BlockPort.blocks l.fn.port) l.from l.known l.fn.port l.port

abbrev pub decreases-loop-block : goal.decreases-loop-block
decreases-loop-block g l = (g.P.BlockPort.blocks l.fn.port - l.from) * 66 + (66 - l.known)
