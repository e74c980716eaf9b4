use Rattle.std.proofs.Common.{[], sym, subst}
use Rattle.sg_words.specs.Schedule.{Schedule}
use Rattle.sg_world.specs.Worlds.{IsBetween}
use Rattle.sg_world.proofs.Behind.{stops_next}
use Rattle.sg_world.proofs.tests.go_twice.Goals as goal

pub epoch-requires : goal.epoch-requires
epoch-requires c =
    let p = c.args.program.now in
    (p, [], [], subst (λ (s : Schedule). IsBetween p [] [] c.in_ok-world.world s) (sym c.in_ok-order.ensures) (c.in_ok-world.ensures []))

pub stop-requires : goal.stop-requires
stop-requires c =
    let p = c.args.program.now in
    let b = subst (λ (s : Schedule). IsBetween p [] [] c.in_ok-world.world s) (sym c.in_ok-order.ensures) (c.in_ok-world.ensures []) in
    let comes = c.in_ok-world-2.ensures.comes p [] [] b in (
      p,
      [],
      [],
      c.in_ok-world-2.first,
      comes.0,
      comes.1,
      c.epoch.new.order,
      stops_next p [] [] c.in_ok-world-2.first c.in_ok-world-2.world c.epoch.new.order
          comes c.if-first.false,
    )

pub epoch-requires-2 : goal.epoch-requires-2
epoch-requires-2 c =
    let p = c.args.program.now in
    let b = subst (λ (s : Schedule). IsBetween p [] [] c.in_ok-world.world s) (sym c.in_ok-order.ensures) (c.in_ok-world.ensures []) in
    let comes = c.in_ok-world-2.ensures.comes p [] [] b in
    let stops = stops_next p [] [] c.in_ok-world-2.first c.in_ok-world-2.world c.epoch.new.order comes c.if-first.false in
    (p, [], _, c.in_ok-world-3.ensures.between p [] [] c.in_ok-world-2.first comes.0 comes.1 c.epoch.new.order stops)
