use Rattle.sg_pins.proofs.Merging.{IsMerged}
use Rattle.sg_pins.proofs.merge.pointed_into.Given as goal

abbrev pub invariant-loop-object : goal.invariant-loop-object
invariant-loop-object l = IsMerged l.words l.objects l.object-index l.index l.pinned.items
