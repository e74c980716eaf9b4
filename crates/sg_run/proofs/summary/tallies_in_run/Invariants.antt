use Rattle.std.proofs.Common.{◌≡◌, List, [], ◌-◌}
use Rattle.std.specs.List.{AllByRecursion}
use Rattle.sg_graph.specs.Run.{Phase}
use Rattle.sg_load.specs.Summary.{tallies_of, IsLow}
use Rattle.sg_world.specs.Worlds.{IsBetween}
use Rattle.sg_run.proofs.summary.tallies_in_run.Given as goal

-- the tallies are those of the phases so far
abbrev pub invariant-loop-order : goal.invariant-loop-order
invariant-loop-order l = (phases : List Phase) × IsBetween l.program [] phases l.world l.order × (l.tallies ≡ tallies_of phases) × AllByRecursion IsLow l.tallies

abbrev pub decreases-loop-order : goal.decreases-loop-order
decreases-loop-order l = 1048577 - l.world.number
