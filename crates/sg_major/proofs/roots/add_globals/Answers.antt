use Rattle.std.proofs.Common.{arith}
use Rattle.sg_major.specs.Parts.{HoldsAt, IsGlobal}
use Rattle.sg_major.proofs.Rooting.{SortBelow, below_none, below_more, adds_as}
use Rattle.sg_major.proofs.roots.add_globals.Goals as goal

pub loop-x-init : goal.loop-x-init
loop-x-init c = below_none (λ x. HoldsAt c.args.space.now x) c.args.roots.now.items

pub loop-x-preserved : goal.loop-x-preserved
loop-x-preserved c = below_more (λ x. HoldsAt c.args.space.now x) c.loop-x.x c.args.roots.now.items c.loop-x.roots.items c.add_global.new.roots.items
    c.loop-x.invariant c.in_ok-add_global.ensures

pub returns : goal.returns
returns c =
    let s = c.args.space.now in
    adds_as (SortBelow (λ x. HoldsAt s x) c.loop-x.x) (IsGlobal s) c.args.roots.now.items c.loop-x.roots.items
    (λ a q. let l = q.1 in let end = c.loop-x.auto.x-end in (q.0, omega arith, q.2))
    (λ a q. let l = q.1 in let end = c.loop-x-test.false in (q.0, omega arith, q.2)) c.loop-x.invariant
