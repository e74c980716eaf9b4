use Rattle.std.proofs.Common.{◌≡◌, ◌*◌, min, rules, ap, sym, ◌∙◌}
use Rattle.std.proofs.lemmas.List.{take_all}
use Rattle.sg_program.specs.declared.program.Item.{out-Item}
use Rattle.sg_program.specs.declared.program.Item.TheOpen.{Repeat}
use Rattle.sg_program.specs.declared.program.Item.TheViews.{the_lemmas}
use Rattle.sg_program.specs.Counts.{capped, weight_of_all}
use Rattle.sg_program.proofs.Weights.{weight_more, weight-repeat, held_product}
use Rattle.sg_program.proofs.counts.+weigh.Goals as goal

pub loop-inner-preserved : goal.loop-inner-preserved
loop-inner-preserved t c = weight_more c.args.finals c.as_slice-inner-items.result.now c.loop-inner.inner-index c.inner-item.result c.loop-inner.sum c.weigh.result c.saturating_add-sum.result
    c.loop-inner-test.true c.inner-item.is c.loop-inner.invariant c.weigh.ensures c.saturating_add-sum.ensures

pub returns-after-loop-inner : goal.returns-after-loop-inner
returns-after-loop-inner t c =
    let whole : c.loop-inner.sum ≡ capped (weight_of_all c.args.finals c.as_slice-inner-items.result.now) =
    c.loop-inner.invariant ∙ ap (λ items. capped (weight_of_all c.args.finals items)) (take_all c.loop-inner.inner-index c.as_slice-inner-items.result.now c.loop-inner-test.false) in
    let opened : out-Item c.args.item.now ≡ Repeat c.in-Repeat.times c.as_slice-inner-items.result.now = search (rules, the_lemmas) in
    c.saturating_mul.ensures ∙ ap (λ x. min (x * c.from-in-Repeat.result) 18446744073709551615) whole
    ∙ ap (λ x. min (capped (weight_of_all c.args.finals c.as_slice-inner-items.result.now) * x) 18446744073709551615) c.from-in-Repeat.ensures
    ∙ held_product _ (weight_of_all c.args.finals c.as_slice-inner-items.result.now) c.in-Repeat.times
    ∙ ap capped (sym (weight-repeat c.args.finals c.args.item.now c.in-Repeat.times c.as_slice-inner-items.result.now opened))
