use Rattle.std.proofs.Common.{take}
use Rattle.sg_world.specs.Stopping.{requests_of, AreWanted}
use Rattle.sg_world.proofs.wants.wants_of.Given as goal

-- what those so far want
abbrev pub invariant-loop-k : goal.invariant-loop-k
invariant-loop-k l = AreWanted (requests_of (take l.k l.mutators)) l.wants
