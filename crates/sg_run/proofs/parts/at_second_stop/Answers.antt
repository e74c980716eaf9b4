use Rattle.std.proofs.Common.{[], sym, subst}
use Rattle.sg_words.specs.Schedule.{Schedule}
use Rattle.sg_graph.specs.Book.{swept_out}
use Rattle.sg_space.specs.Space.{Contents}
use Rattle.sg_heap.specs.Holding.{HoldsHeap}
use Rattle.sg_world.specs.Worlds.{IsBetween}
use Rattle.sg_run.proofs.Texts.{at_stop_of}
use Rattle.sg_run.proofs.parts.at_second_stop.Goals as goal

pub epoch-requires : goal.epoch-requires
epoch-requires c =
    let p = c.args.program.now in
    (p, [], [], subst (λ (s : Schedule). IsBetween p [] [] c.in_ok-world.world s) (sym c.in_ok-order.ensures) (c.in_ok-world.ensures []))

pub stop-requires : goal.stop-requires
stop-requires c =
    let p = c.args.program.now in
    let b = subst (λ (s : Schedule). IsBetween p [] [] c.in_ok-world.world s) (sym c.in_ok-order.ensures) (c.in_ok-world.ensures []) in
    let comes = c.in_ok-world-2.ensures.comes p [] [] b in
    (p, [], [], c.in_ok-world-2.first, comes.0, comes.1, c.epoch.new.order, at_stop_of p [] [] c.in_ok-world-2.first c.in_ok-world-2.world c.epoch.new.order comes c.if-first.false)

pub epoch-requires-2 : goal.epoch-requires-2
epoch-requires-2 c =
    let p = c.args.program.now in
    let b = subst (λ (s : Schedule). IsBetween p [] [] c.in_ok-world.world s) (sym c.in_ok-order.ensures) (c.in_ok-world.ensures []) in
    let comes = c.in_ok-world-2.ensures.comes p [] [] b in
    let stops = at_stop_of p [] [] c.in_ok-world-2.first c.in_ok-world-2.world c.epoch.new.order comes c.if-first.false in
    (p, [], _, c.in_ok-world-3.ensures.between p [] [] c.in_ok-world-2.first comes.0 comes.1 c.epoch.new.order stops)

pub finish-requires : goal.finish-requires
finish-requires c j l =
    let p = c.args.program.now in
    let b = subst (λ (s : Schedule). IsBetween p [] [] c.in_ok-world.world s) (sym c.in_ok-order.ensures) (c.in_ok-world.ensures []) in
    let comes = c.in_ok-world-2.ensures.comes p [] [] b in
    let stops = at_stop_of p [] [] c.in_ok-world-2.first c.in_ok-world-2.world c.epoch.new.order comes c.if-first.false in
    let more = c.in_ok-world-3.ensures.between p [] [] c.in_ok-world-2.first comes.0 comes.1 c.epoch.new.order stops in
    let next = c.in_ok-world-4.ensures.comes p [] _ more in
    let t = at_stop_of p [] _ c.in_ok-world-4.second c.in_ok-world-4.world c.epoch-2.new.order next c.if-second.false in
    let heap = subst (λ (s : Contents). HoldsHeap p s t.graph t.book) (sym c.into_space-space.ensures) t.holds in
    record {
      settled = λ z e. c.sweep_law.ensures.settled p c.into_space-space.result t.graph t.book heap c.layout.ensures.contents j z l e;
      sized = λ z e. c.sweep_law.ensures.sized p c.into_space-space.result t.graph t.book heap c.layout.ensures.contents j z l e;
    }

pub returns : goal.returns
returns c =
    let p = c.args.program.now in
    let b = subst (λ (s : Schedule). IsBetween p [] [] c.in_ok-world.world s) (sym c.in_ok-order.ensures) (c.in_ok-world.ensures []) in
    let comes = c.in_ok-world-2.ensures.comes p [] [] b in
    let stops = at_stop_of p [] [] c.in_ok-world-2.first c.in_ok-world-2.world c.epoch.new.order comes c.if-first.false in
    let more = c.in_ok-world-3.ensures.between p [] [] c.in_ok-world-2.first comes.0 comes.1 c.epoch.new.order stops in
    let next = c.in_ok-world-4.ensures.comes p [] _ more in
    let t = at_stop_of p [] _ c.in_ok-world-4.second c.in_ok-world-4.world c.epoch-2.new.order next c.if-second.false in
    let heap = subst (λ (s : Contents). HoldsHeap p s t.graph t.book) (sym c.into_space-space.ensures) t.holds in
    let swept = c.sweep_law.ensures.swept p c.into_space-space.result c.finish.new.space t.graph t.book c.layout.ensures.contents heap c.finish.ensures.swept in
    (p, t.graph, swept_out t.book, swept.0, swept.2, t.plain)
