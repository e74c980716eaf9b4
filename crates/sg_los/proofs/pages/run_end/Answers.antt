use Rattle.std.proofs.Common.{ap, ◌∙◌, arith}
use Rattle.sg_words.specs.declared.layout.Layout.{Layout}
use Rattle.sg_los.proofs.Runs.{not_past, not_before, run_at}
use Rattle.sg_los.proofs.pages.run_end.Goals as goal

pub returns-then-page-first : goal.returns-then-page-first
returns-then-page-first c =
    let s = c.args.space.now in
    let q = c.args.first in
    let e = c.requires.0 in
    let run = c.requires.1 in
    let p = c.loop-page.page in
    let low = not_past s q e run p c.loop-page.auto.page c.loop-page.invariant in
    let high = not_before s q e run p c.loop-page.auto.page c.loop-page.invariant (λ same. c.if-page-first.true (c.page.ensures ∙ same)) in
    run_at s q e run p c.loop-page.auto.page c.loop-page.invariant (omega (arith, low, high))

pub returns : goal.returns
returns c =
    let s = c.args.space.now in
    let q = c.args.first in
    let e = c.requires.0 in
    let run = c.requires.1 in
    let p = c.loop-page.page in
    let pages = ap (λ (z : Layout). z.pages) c.layout-pages.ensures.layout in
    let some = run.some in
    let within = run.within in
    let to = c.loop-page.auto.page-end (omega (arith, pages, some, within)) in
    let end = c.loop-page-test.false in
    let low = not_past s q e run p c.loop-page.auto.page c.loop-page.invariant in
    run_at s q e run c.layout-pages.result.pages (omega (arith, pages, some, within)) (λ j from below. c.loop-page.invariant j from (omega (arith, below, end)))
    (omega (arith, low, to, end, pages, within))
