use Rattle.std.proofs.Common.{◌≡◌, ◌<◌, length, ap, sym, refl, subst, arith}
use Rattle.sg_finish.specs.Finishing.{HasSweptOf, IsSweepable, freed_below}
use Rattle.sg_finish.proofs.Going.{swept_nothing, swept_more, swept_all, next_block, next_freed}
use Rattle.sg_finish.proofs.finish.Goals as goal

pub loop-block-init : goal.loop-block-init
loop-block-init c = record { swept = swept_nothing c.args.space.now; freed = refl; few = omega arith }

pub sweep_at-freed-requires-clause-there : goal.sweep_at-freed-requires-clause-there
sweep_at-freed-requires-clause-there c =
    let same = c.loop-block.invariant.swept.blocks in
    let whole = c.layout-block-end.ensures.contents.blocks in
    let layout = ap (λ layout. layout.blocks) c.layout-block-end.ensures.layout in
    let there = c.loop-block-test.true in
    omega arith

pub sweep_at-freed-requires-clause-sweepable : goal.sweep_at-freed-requires-clause-sweepable
sweep_at-freed-requires-clause-sweepable c =
    let whole = c.layout-block-end.ensures.contents.blocks in
    let layout = ap (λ layout. layout.blocks) c.layout-block-end.ensures.layout in
    let there = c.loop-block-test.true in
    subst IsSweepable (sym (next_block c.args.space.now c.loop-block.space c.loop-block.block c.loop-block.invariant.swept).0)
    (c.requires c.loop-block.block (omega arith))

pub loop-block-preserved : goal.loop-block-preserved
loop-block-preserved c = record {
  swept = swept_more c.args.space.now c.loop-block.space c.sweep_at-freed.new.space c.loop-block.block c.loop-block.invariant.swept c.sweep_at-freed.ensures.swept;
  freed = next_freed c.args.space.now c.loop-block.space c.loop-block.block c.loop-block.invariant.swept c.loop-block.freed c.sweep_at-freed.result
      c.loop-block.invariant.freed c.sweep_at-freed.ensures.freed;
  few = let most = c.loop-block.invariant.few in let few = c.sweep_at-freed.ensures.few in omega arith;
}

pub returns-clause-swept : goal.returns-clause-swept
returns-clause-swept c =
    let whole = c.layout-block-end.ensures.contents.blocks in
    let layout = ap (λ layout. layout.blocks) c.layout-block-end.ensures.layout in
    let over = c.loop-block-test.false in
    let most = c.loop-block.auto.block-end in
    let end : c.loop-block.block ≡ length c.args.space.now.blocks = omega arith in
    swept_all c.args.space.now c.loop-block.space c.layout-block-end.ensures.contents
    (subst (λ n. HasSweptOf c.args.space.now (λ c. c < n) c.loop-block.space) end c.loop-block.invariant.swept)

pub returns-clause-freed : goal.returns-clause-freed
returns-clause-freed c =
    let whole = c.layout-block-end.ensures.contents.blocks in
    let layout = ap (λ layout. layout.blocks) c.layout-block-end.ensures.layout in
    let over = c.loop-block-test.false in
    let most = c.loop-block.auto.block-end in
    let end : c.loop-block.block ≡ length c.args.space.now.blocks = omega arith in
    subst (λ n. c.loop-block.freed ≡ freed_below c.args.space.now n) end c.loop-block.invariant.freed
