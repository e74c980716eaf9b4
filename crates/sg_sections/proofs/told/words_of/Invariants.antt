use Rattle.std.proofs.Common.{◌≡◌, take}
use Rattle.sg_sections.specs.Parts.{words_together}
use Rattle.sg_sections.proofs.told.words_of.Given as goal

abbrev pub invariant-loop-object : goal.invariant-loop-object
invariant-loop-object l = l.words ≡ words_together (take l.object-index l.told)
