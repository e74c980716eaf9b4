use Rattle.std.proofs.Common.{◌+◌, length, sym, subst, ap, arith}
use Rattle.std.proofs.lemmas.List.{length-set}
use Rattle.sg_space.specs.Space.{Contents}
use Rattle.sg_los.specs.Pages.{SetsPages}
use Rattle.sg_los.proofs.Runs.{sets_none, sets_more}
use Rattle.sg_los.proofs.pages.set_pages.Goals as goal

pub loop-page-init : goal.loop-page-init
loop-page-init c = record { within = c.requires.within; sets = sets_none c.args.space.now c.args.from c.args.word }

pub loop-page-preserved : goal.loop-page-preserved
loop-page-preserved c =
    let old = c.loop-page.space in
    let p = c.loop-page.page in
    let there = c.loop-page-test.true in
    let within = c.loop-page.invariant.within in
    let is = c.set_page.ensures in
    let count = length-set old.pages p c.args.word in
    let same = ap (λ (z : Contents). length z.pages) is in
    record {
      within = omega (arith, within, count, same);
      sets = subst (λ (z : Contents). SetsPages c.args.space.now c.args.from (p + 1) c.args.word z) (sym is)
          (sets_more c.args.space.now old c.args.from p c.args.word c.loop-page.invariant.sets c.loop-page.auto.page (omega (arith, there, within)));
    }
