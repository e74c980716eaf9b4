use Rattle.sg_text.specs.declared.line.Line.TheVariants.{Head}
use Rattle.sg_parse.proofs.LaterLemmas.{later_stop, later_more, later_end}
use Rattle.sg_parse.proofs.later.later.Goals as goal

pub returns-then-is_later-clause-found : goal.returns-then-is_later-clause-found
returns-then-is_later-clause-found c = later_stop c.args.lines.now _ Head _ _ c.requires.names c.requires.named c.loop-index.invariant c.loop-index-test.true c.is_later.ensures c.if-is_later.true

pub loop-index-preserved : goal.loop-index-preserved
loop-index-preserved c = later_more c.args.lines.now _ Head _ _ c.requires.names c.loop-index.invariant c.loop-index-test.true c.is_later.ensures c.if-is_later.false

pub returns-clause-none : goal.returns-clause-none
returns-clause-none c = later_end _ _ c.loop-index.invariant c.loop-index-test.false
