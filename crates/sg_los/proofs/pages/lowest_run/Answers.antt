use Rattle.std.proofs.Common.{◌≡◌, ◌≢◌, ◌<◌, ◌+◌, ◌⊎◌, inl, inr, ap, arith}
use Rattle.sg_words.specs.declared.layout.Layout.{Layout}
use Rattle.sg_los.proofs.Scanned.{counted_none, counted_next, past_more, lowest_found, no_run}
use Rattle.sg_los.proofs.pages.lowest_run.Goals.{then-page-eq0, else-page-eq0}
use Rattle.sg_los.proofs.pages.lowest_run.Goals as goal

pub loop-page-init : goal.loop-page-init
loop-page-init c = let some = c.requires in record { few = omega arith; counted = counted_none c.args.space.now; past = λ k run. omega arith }

pub returns-then-free-n : goal.returns-then-free-n
returns-then-free-n c =
    let s = c.args.space.now in
    let p = c.loop-page.page in
    let after = c.if-page-eq0.free in
    let cases : ((c.page.result ≡ 0) × (after ≡ c.loop-page.free + 1)) ⊎ ((c.page.result ≢ 0) × (after ≡ 0)) =
    elim c.if-page-eq0.branch [ then-page-eq0 w ↦ inl (w.if-page-eq0.true, w.free-is) | else-page-eq0 w ↦ inr (w.if-page-eq0.false, w.free-is) ] in
    let counted = counted_next s p c.loop-page.free c.page.result after c.page.ensures c.loop-page.invariant.counted cases in
    let pages = ap (λ (z : Layout). z.pages) c.layout-pages.ensures.layout in
    let there = c.loop-page-test.true in
    lowest_found s c.args.n p after counted c.loop-page.invariant.past c.if-free-n.true (omega (arith, pages, there))

pub loop-page-preserved : goal.loop-page-preserved
loop-page-preserved c =
    let s = c.args.space.now in
    let p = c.loop-page.page in
    let after = c.if-page-eq0.free in
    let few = c.loop-page.invariant.few in
    let other = c.if-free-n.false in
    let some = c.requires in
    let cases : ((c.page.result ≡ 0) × (after ≡ c.loop-page.free + 1)) ⊎ ((c.page.result ≢ 0) × (after ≡ 0)) =
    elim c.if-page-eq0.branch [ then-page-eq0 w ↦ inl (w.if-page-eq0.true, w.free-is) | else-page-eq0 w ↦ inr (w.if-page-eq0.false, w.free-is) ] in
    let counted = counted_next s p c.loop-page.free c.page.result after c.page.ensures c.loop-page.invariant.counted cases in
    let less : after < c.args.n = elim cases [ inl free ↦ let e = free.1 in omega (arith, e, few, other) | inr used ↦ let e = used.1 in omega (arith, e, some) ] in
    record {
      few = less;
      counted = counted;
      past = past_more s c.args.n p after counted c.loop-page.invariant.past less;
    }

pub returns : goal.returns
returns c =
    let pages = ap (λ (z : Layout). z.pages) c.layout-pages.ensures.layout in
    let end = c.loop-page-test.false in
    no_run c.args.space.now c.args.n c.loop-page.page (omega (arith, pages, end)) c.loop-page.invariant.past
