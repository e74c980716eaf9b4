use Rattle.std.proofs.Common.{List, sym, subst}
use Rattle.std.proofs.lemmas.Result.{IfOk-weaker}
use Rattle.sg_space.specs.declared.objects.Object.{Object}
use Rattle.sg_space.specs.Standing.{TellsYoung}
use Rattle.sg_pins.proofs.queue.pin_queue.Goals as goal

pub pinned_among-requires : goal.pinned_among-requires
pinned_among-requires c =
    let tells = c.in_ok-told.ensures c.requires.0 c.requires.1 in
    rw c.as_slice.ensures tells.in_order

pub returns : goal.returns
returns c = IfOk-weaker c.pinned_among.result _ _
    (λ _ pinned owner sound. pinned c.args.space.now owner sound
    (subst (λ (objects : List Object). TellsYoung c.args.space.now owner objects) (sym c.as_slice.ensures) (c.in_ok-told.ensures owner sound)))
    c.pinned_among.ensures.pinned
