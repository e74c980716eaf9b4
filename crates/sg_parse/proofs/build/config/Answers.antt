use Rattle.std.proofs.Common.{map}
use Rattle.sg_text.specs.declared.line.Line.TheVariants.{Head}
use Rattle.sg_text.specs.Reading.{sentence_of}
use Rattle.sg_parse.proofs.Taken.{read_at}
use Rattle.sg_parse.proofs.Bodies.{small_at}
use Rattle.sg_parse.proofs.BuildLemmas.{config_more}
use Rattle.sg_parse.proofs.build.config.Goals as goal

pub config_with-config-requires : goal.config_with-config-requires
config_with-config-requires c = small_at (map sentence_of c.args.lines.now) c.loop-line.line-index _ c.requires (read_at sentence_of c.args.lines.now c.loop-line.line-index Head c.loop-line-test.true)

pub loop-line-preserved : goal.loop-line-preserved
loop-line-preserved c = config_more (map sentence_of c.args.lines.now) c.loop-line.line-index _ _ _ (read_at sentence_of c.args.lines.now c.loop-line.line-index Head c.loop-line-test.true) c.loop-line.invariant c.config_with-config.ensures
