-- The blocks so far were swept, and so many of their slots became zero.
use Rattle.std.proofs.Common.{◌≡◌, ◌*◌, ◌≤◌, ◌<◌}
use Rattle.sg_finish.specs.Finishing.{HasSweptOf, freed_below}
use Rattle.sg_finish.proofs.finish.Given as goal

abbrev pub invariant-loop-block : goal.invariant-loop-block
invariant-loop-block l = record {
  swept : HasSweptOf l.fn.space (λ c. c < l.block) l.space;
  freed : l.freed ≡ freed_below l.fn.space l.block;
  few : l.freed ≤ 64 * l.block;
}
