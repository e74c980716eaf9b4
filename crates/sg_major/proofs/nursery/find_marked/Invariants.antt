use Rattle.std.proofs.Common.{◌≡◌, take}
use Rattle.sg_space.specs.Standing.{word}
use Rattle.sg_major.specs.Parts.{marked_among}
use Rattle.sg_major.proofs.nursery.find_marked.Given as goal

abbrev pub invariant-loop-object : goal.invariant-loop-object
invariant-loop-object l = l.standing.items ≡ marked_among (word l.space) (take l.object-index l.told)
