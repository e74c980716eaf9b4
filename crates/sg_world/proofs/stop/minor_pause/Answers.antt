use Rattle.sg_world.proofs.Steps.{LacksRoom, told_by_room, never, no_minor, some_minor}
use Rattle.sg_world.proofs.stop.minor_pause.Goals as goal

pub returns-then-not-branch-clause-made : goal.returns-then-not-branch-clause-made
returns-then-not-branch-clause-made c p g b requests holds owes plain asking are =
    no_minor p g b requests c.args.wants.now are (LacksRoom p b c.args.space c.args.wants.now)
    (told_by_room c.places_by_room.ensures p g b c.args.space requests c.args.wants.now asking are holds owes) c.args.space holds c.args.words.now owes
    (never c.in_ok-is_wanted.field-0 _ c.if-not-branch.true (c.in_ok-is_wanted.ensures p g b holds))

pub returns-clause-made : goal.returns-clause-made
returns-clause-made c p g b requests holds owes plain asking are =
    some_minor p g b requests c.args.wants.now are (LacksRoom p b c.args.space c.args.wants.now)
    (told_by_room c.places_by_room.ensures p g b c.args.space requests c.args.wants.now asking are holds owes) c.args.space holds c.args.words.now owes
    ((c.in_ok-is_wanted.ensures p g b holds).0 c.if-not-branch.false) c.in_ok-space.space c.in_ok-space.report
    (c.in_ok-space.ensures.paused p g b holds owes plain)
