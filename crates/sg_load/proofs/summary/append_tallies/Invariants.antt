use Rattle.std.proofs.Common.{◌≡◌, ◌++◌, drop}
use Rattle.sg_load.specs.Summary.{tally_lines}
use Rattle.sg_load.proofs.summary.append_tallies.Given as goal

-- what is written and the lines to come make up the whole
abbrev pub invariant-loop-k : goal.invariant-loop-k
invariant-loop-k l = l.out.items ++ tally_lines l.k (drop l.k l.tallies) ≡ l.initial.out.items ++ tally_lines 0 l.tallies
