use Rattle.std.proofs.Common.{◌≡◌, take}
use Rattle.sg_program.specs.Counts.{capped, weight_of_all}
use Rattle.sg_program.proofs.counts.+weigh.Given as goal

abbrev pub invariant-loop-inner : goal.invariant-loop-inner
invariant-loop-inner l = l.sum ≡ capped (weight_of_all l.finals (take l.inner-index l.inner-items))
