use Rattle.std.proofs.Common.{◌≡◌, ◌<◌, suc, length, subst, sym, ◌∙◌}
use Rattle.sg_grammar.specs.Text.{CanGoOn, IsPrefix}
use Rattle.sg_grammar.proofs.Ordered.{said_by, goes_on, depth_after, misplaced, whole_read, part_read}
use Rattle.sg_grammar.proofs.order.order_of.Goals as goal

pub returns-in-None-clause-misplaced : goal.returns-in-None-clause-misplaced
returns-in-None-clause-misplaced c =
    λ i e.
    let lines = c.args.lines.now in
    let same : c.loop-index.index ≡ i = cc in
    subst (λ k. (k < length lines) × IsPrefix (said_by lines k) × ¬ CanGoOn (said_by lines (suc k))) same
    (misplaced lines c.loop-index.index _ c.loop-index.place c.loop-index-test.true c.loop-index.invariant.read (sym c.step.ensures ∙ c.in-None.is))

pub loop-index-preserved : goal.loop-index-preserved
loop-index-preserved c = record {
  read = goes_on c.args.lines.now c.loop-index.index _ c.loop-index.place c.in-Some.next c.loop-index-test.true c.loop-index.invariant.read (sym c.step.ensures ∙ c.in-Some.is);
  depth = depth_after c.loop-index.place c.in-Some.next _ c.loop-index.index (sym c.step.ensures ∙ c.in-Some.is) c.loop-index.invariant.depth;
}

pub returns-then-may_end-clause-whole : goal.returns-then-may_end-clause-whole
returns-then-may_end-clause-whole c =
    λ e. whole_read c.args.lines.now c.loop-index.index c.loop-index.place c.loop-index-test.false c.loop-index.invariant.read (sym c.may_end.ensures ∙ c.if-may_end.true)

pub returns-clause-unfinished : goal.returns-clause-unfinished
returns-clause-unfinished c =
    λ e. part_read c.args.lines.now c.loop-index.index c.loop-index.place c.loop-index-test.false c.loop-index.invariant.read (sym c.may_end.ensures ∙ c.if-may_end.false)
