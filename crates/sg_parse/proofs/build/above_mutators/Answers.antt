use Rattle.std.proofs.Common.{below_more}
use Rattle.sg_text.specs.declared.line.Line.TheVariants.{Head}
use Rattle.sg_parse.proofs.BuildLemmas.{mutator_only}
use Rattle.sg_parse.proofs.build.above_mutators.Goals as goal

pub loop-at-preserved : goal.loop-at-preserved
loop-at-preserved c = below_more _ _ c.loop-at.invariant (mutator_only c.args.lines.now c.loop-at.at Head c.loop-at-test.true c.in_default.not-Mutator)
