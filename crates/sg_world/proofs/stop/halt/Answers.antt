use Rattle.std.proofs.Common.{Bool, sym, ◌∙◌, subst, refl}
use Rattle.sg_graph.specs.Book.{swept_out}
use Rattle.sg_space.specs.Space.{Contents}
use Rattle.sg_heap.specs.Holding.{HoldsHeap}
use Rattle.sg_world.specs.Steps.{HasMadeRoom}
use Rattle.sg_world.proofs.Steps.{wanted_classes, halted_by}
use Rattle.sg_world.proofs.stop.halt.Goals as goal

pub begin-requires : goal.begin-requires
begin-requires c =
    let held = c.requires.some in
    record {
      some = (
        held.0,
        held.1,
        held.2,
        subst (λ (s : Contents). HoldsHeap held.0 s held.1 held.2) (sym c.set_stopping.ensures)
            (c.sweep_law.ensures.stops held.0 c.args.space held.1 held.2 0 held.4),
        held.8,
      );
    }

pub minor_pause-requires : goal.minor_pause-requires
minor_pause-requires c =
    let held = c.requires.some in
    let begun = c.begin.ensures.swept held.0 held.1 held.2
    (subst (λ (s : Contents). HoldsHeap held.0 s held.1 held.2) (sym c.set_stopping.ensures)
    (c.sweep_law.ensures.stops held.0 c.args.space held.1 held.2 0 held.4)) held.8 in
    record {
      some = (held.0, held.1, swept_out held.2, begun, (λ j l. refl), held.5);
      classes = wanted_classes held.0 held.1 held.3 c.args.wants.now held.6 held.7;
    }

pub major_pause-requires : goal.major_pause-requires
major_pause-requires c =
    let held = c.requires.some in
    let begun = c.begin.ensures.swept held.0 held.1 held.2
    (subst (λ (s : Contents). HoldsHeap held.0 s held.1 held.2) (sym c.set_stopping.ensures)
    (c.sweep_law.ensures.stops held.0 c.args.space held.1 held.2 0 held.4)) held.8 in
    let made = c.in_ok-space.ensures.made held.0 held.1 (swept_out held.2) held.3 begun (λ j l. refl) held.5 held.6 held.7 in
    record {
      some = (held.0, held.1, made.book, made.heap, made.owes, held.5, made.emptied);
      classes = wanted_classes held.0 held.1 held.3 c.args.wants.now held.6 held.7;
    }

pub make_room-requires : goal.make_room-requires
make_room-requires c =
    let held = c.requires.some in
    let begun = c.begin.ensures.swept held.0 held.1 held.2
    (subst (λ (s : Contents). HoldsHeap held.0 s held.1 held.2) (sym c.set_stopping.ensures)
    (c.sweep_law.ensures.stops held.0 c.args.space held.1 held.2 0 held.4)) held.8 in
    let made = c.in_ok-space.ensures.made held.0 held.1 (swept_out held.2) held.3 begun (λ j l. refl) held.5 held.6 held.7 in
    let more = c.in_ok-space-2.ensures.made held.0 held.1 made.book held.3 made.heap made.owes held.5 made.emptied held.6 held.7 in
    record {
      some = (held.0, held.1, more.book, more.heap);
      classes = wanted_classes held.0 held.1 held.3 c.args.wants.now held.6 held.7;
    }

pub returns-clause-halted : goal.returns-clause-halted
returns-clause-halted c p g b requests holds unowed plain asking are =
    let begun = c.begin.ensures.swept p g b
    (subst (λ (s : Contents). HoldsHeap p s g b) (sym c.set_stopping.ensures) (c.sweep_law.ensures.stops p c.args.space g b 0 holds)) unowed in
    let made = c.in_ok-space.ensures.made p g (swept_out b) requests begun (λ j l. refl) plain asking are in
    let more = c.in_ok-space-2.ensures.made p g made.book requests made.heap made.owes plain made.emptied asking are in
    let last = c.in_ok-room.ensures.made p g more.book requests more.heap (λ e. more.owes (sym c.is_some.ensures ∙ e)) asking are in
    halted_by p g b c.args.words.now requests c.in_ok-space.minor c.in_ok-space-2.major c.in_ok-room.room c.begin.new.space c.in_ok-space.space
    c.in_ok-space-2.space c.make_room.new.space begun made more
    (subst (λ (major : Bool). HasMadeRoom p g more.book requests major c.in_ok-room.room c.make_room.new.space) c.is_some.ensures last)
