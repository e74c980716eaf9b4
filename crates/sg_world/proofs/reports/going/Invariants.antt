use Rattle.std.proofs.Common.{◌≡◌, filter, slice_get}
use Rattle.sg_graph.specs.Epoch.{numbers_below}
use Rattle.sg_world.specs.Telling.{goes_at}
use Rattle.sg_world.proofs.reports.going.Given as goal

-- the numbers so far
abbrev pub invariant-loop-k : goal.invariant-loop-k
invariant-loop-k l = l.numbers.items ≡ filter (λ k. goes_at (slice_get l.mutators k)) (numbers_below l.k)
