-- The loads so far have passed over each block from the first one on to this one.
use Rattle.std.proofs.Common.{◌≡◌, ◌<◌}
use Rattle.sg_slots.proofs.Looking.{HasPassed}
use Rattle.sg_slots.proofs.search.find.Given as goal

abbrev pub invariant-loop-block : goal.invariant-loop-block
invariant-loop-block g l = record {
  passed : HasPassed g.P.Port.leads g.P.Port.sees l.size l.from l.block l.fn.port l.port;
  none : l.blocks < l.from → l.block ≡ l.from;
}
