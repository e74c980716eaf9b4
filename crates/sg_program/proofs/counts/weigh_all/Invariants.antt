use Rattle.std.proofs.Common.{◌≡◌, take}
use Rattle.sg_program.specs.Counts.{capped, weight_of_all}
use Rattle.sg_program.proofs.counts.weigh_all.Given as goal

abbrev pub invariant-loop-item : goal.invariant-loop-item
invariant-loop-item l = l.sum ≡ capped (weight_of_all l.finals (take l.item-index l.items))
