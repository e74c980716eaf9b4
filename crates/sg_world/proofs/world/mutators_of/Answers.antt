use Rattle.std.proofs.Common.{◌+◌, sym, subst}
use Rattle.sg_actor.specs.State.{Mutating}
use Rattle.std.proofs.Common.{List}
use Rattle.sg_world.specs.Starting.{AreNew}
use Rattle.sg_world.proofs.Begins.{new_more}
use Rattle.sg_world.proofs.world.mutators_of.Goals as goal

pub loop-k-preserved : goal.loop-k-preserved
loop-k-preserved c =
    let n = c.in_ok-new.ensures in
    subst (λ (ms : List Mutating). AreNew c.args.program.now (c.loop-k.k + 1) ms) (sym c.in_ok-push.ensures.items)
    (new_more c.args.program.now c.loop-k.k c.loop-k.mutators.items c.in_ok-new.field-0 c.loop-k.invariant
    (record { actor = n.fresh; first = n.first; stage = n.stage; program = n.program; number = n.number }))
