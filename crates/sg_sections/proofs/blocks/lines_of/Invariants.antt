use Rattle.sg_sections.specs.Parts.{AreLines}
use Rattle.sg_sections.proofs.blocks.lines_of.Given as goal

abbrev pub invariant-loop-b : goal.invariant-loop-b
invariant-loop-b l = AreLines l.space l.b l.lines.items
