use Rattle.std.proofs.Common.{sym, subst, refl}
use Rattle.sg_cells.specs.Made.{Makes}
use Rattle.sg_slots.specs.Looks.{IsFull, IsLowest}
use Rattle.sg_actor.specs.Searching.{looks_within, IsLook, SeesFree, SeesSlot, SeesFull, SeesOther, SeesOwed, SeesSweep}
use Rattle.sg_actor.proofs.searching.look_at.Goals as goal

pub returns-in-Free : goal.returns-in-Free
returns-in-Free g c = (_, (_, c.in-Free.ensures.led, c.in-Free.ensures.seen, refl), SeesFree)

pub returns-in-Need : goal.returns-in-Need
returns-in-Need g c = (_, (_, c.in-Need.ensures.led, c.in-Need.ensures.seen, refl), SeesOwed c.in-Need.size)

pub returns-in-Sweeping : goal.returns-in-Sweeping
returns-in-Sweeping g c = (_, (_, c.in-Sweeping.ensures.led, c.in-Sweeping.ensures.seen, refl), SeesSweep _)

pub returns-else-found-size : goal.returns-else-found-size
returns-else-found-size g c = (_, (_, c.in-Swept.ensures.led, c.in-Swept.ensures.seen, refl), SeesOther c.in-Swept.found c.if-found-size.false)

pub returns-in_ok-slot-in-Swept : goal.returns-in_ok-slot-in-Swept
returns-in_ok-slot-in-Swept g c =
    let both : Makes g.P.Port.leads g.P.Port.sees c.args.port.now (looks_within c.args.size c.args.block c.used.result) c.used.new.self =
    subst (λ z. Makes g.P.Port.leads g.P.Port.sees c.args.port.now (looks_within z c.args.block c.used.result) c.used.new.self) c.if-found-size.true
    (_, c.in-Swept.ensures.led, c.in-Swept.ensures.seen, (_, c.used.ensures.led, c.used.ensures.seen, refl)) in
    let low = subst (λ n. IsLowest c.used.result n c.in_ok-slot-in-Swept.slot) c.slots.ensures (c.in_ok-slot-in-Swept.ensures) in
    (_, both, SeesSlot c.used.result c.in_ok-slot-in-Swept.slot low)

pub returns-in_err-slot-in-Swept : goal.returns-in_err-slot-in-Swept
returns-in_err-slot-in-Swept g c =
    let both : Makes g.P.Port.leads g.P.Port.sees c.args.port.now (looks_within c.args.size c.args.block c.used.result) c.used.new.self =
    subst (λ z. Makes g.P.Port.leads g.P.Port.sees c.args.port.now (looks_within z c.args.block c.used.result) c.used.new.self) c.if-found-size.true
    (_, c.in-Swept.ensures.led, c.in-Swept.ensures.seen, (_, c.used.ensures.led, c.used.ensures.seen, refl)) in
    let full = subst (λ n. IsFull c.used.result n) c.slots.ensures (c.in_err-slot-in-Swept.ensures) in (
      _,
      both,
      subst (IsLook c.args.statement c.args.size c.args.block (looks_within c.args.size c.args.block c.used.result)) (sym c.from_residual.ensures)
          (SeesFull c.used.result full),
    )
