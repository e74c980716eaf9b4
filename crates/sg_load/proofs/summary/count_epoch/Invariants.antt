use Rattle.std.proofs.Common.{◌≡◌}
use Rattle.std.specs.List.{AllByRecursion}
use Rattle.sg_load.specs.Summary.{answers_in_parts, IsLow}
use Rattle.sg_load.proofs.Counting.{so_counted}
use Rattle.sg_load.proofs.summary.count_epoch.Given as goal

-- the tallies before k are counted
abbrev pub invariant-loop-k : goal.invariant-loop-k
invariant-loop-k l = (l.tallies ≡ so_counted (λ j. answers_in_parts j l.report.parts) l.initial.tallies l.k) × AllByRecursion IsLow l.tallies
