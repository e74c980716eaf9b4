use Rattle.sg_copy.proofs.RoundRun.{begins, ends-so}
use Rattle.sg_copy.proofs.RoundMidst.{is-on, goes-on, less}
use Rattle.sg_copy.proofs.round.give_turns.Goals as goal

pub loop-copier-init : goal.loop-copier-init
loop-copier-init c = λ slots wholes ready. begins c.args.port.now slots wholes c.args.copier.now ready c.requires.empty

pub turn_on-requires-clause-on : goal.turn_on-requires-clause-on
turn_on-requires-clause-on c =
    let r = c.requires.ready in
    is-on c.tells_so_far.ensures c.bounded.ensures c.goes_always.ensures c.args.port.now r.2.can.contents r.0 r.1 r.2.items r.2.can.zone c.loop-copier.port
    c.loop-copier.copier (c.loop-copier.invariant r.0 r.1 r.2)

pub turn_on-requires-clause-rests : goal.turn_on-requires-clause-rests
turn_on-requires-clause-rests c = let r = c.requires.ready in (c.loop-copier.invariant r.0 r.1 r.2).rests

pub loop-copier-smaller : goal.loop-copier-smaller
loop-copier-smaller c =
    let r = c.requires.ready in
    less c.tells_so_far.ensures c.bounded.ensures c.goes_always.ensures c.args.port.now r.2.can.contents r.0 r.1 r.2.items r.2.can.zone c.loop-copier.port
    c.loop-copier.copier (c.loop-copier.invariant r.0 r.1 r.2) c.turn_on.new.port c.turn_on.new.self c.turn_on.ensures.turned c.turn_on.ensures.same

pub loop-copier-preserved : goal.loop-copier-preserved
loop-copier-preserved c = λ slots wholes ready.
    goes-on c.tells_so_far.ensures c.bounded.ensures c.goes_always.ensures c.args.port.now ready.can.contents slots wholes ready.items ready.can.zone
    c.loop-copier.port
    c.loop-copier.copier (c.loop-copier.invariant slots wholes ready) c.turn_on.new.port c.turn_on.new.self c.turn_on.ensures.turned c.turn_on.ensures.same

pub returns-clause-same : goal.returns-clause-same
returns-clause-same c = let r = c.requires.ready in (c.loop-copier.invariant r.0 r.1 r.2).same

pub returns-clause-run : goal.returns-clause-run
returns-clause-run c = λ slots wholes ready.
    ends-so c.args.port.now slots wholes c.one_worker.ensures c.args.copier.now ready c.loop-copier.port c.loop-copier.copier
    (c.loop-copier.invariant slots wholes ready) (c.ended.ensures.0 c.loop-copier-test.false)
