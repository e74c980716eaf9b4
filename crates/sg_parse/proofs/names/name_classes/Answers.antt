use Rattle.sg_text.specs.declared.line.Line.TheVariants.{Head}
use Rattle.sg_parse.proofs.Firsts.{name_stop, name_more, name_class, name_end}
use Rattle.sg_parse.proofs.names.name_classes.Goals as goal

pub returns-then-misnames : goal.returns-then-misnames
returns-then-misnames c = name_stop c.args.lines.now _ Head _ c.loop-index.invariant.classes c.loop-index.invariant.none c.loop-index-test.true (c.misnames.ensures.wrong c.if-misnames.true)

pub loop-index-preserved : goal.loop-index-preserved
loop-index-preserved c = record {
  classes = name_class c.args.lines.now _ Head _ _ c.loop-index.invariant.classes c.loop-index-test.true c.in_ok-note.ensures;
  none = name_more c.args.lines.now _ Head _ c.loop-index.invariant.classes c.loop-index.invariant.none c.loop-index-test.true (c.misnames.ensures.right c.if-misnames.false);
}

pub returns : goal.returns
returns c = name_end _ _ _ c.loop-index.invariant.classes c.loop-index.invariant.none c.loop-index-test.false
