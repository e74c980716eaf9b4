use Rattle.std.proofs.Common.{Some, None, sym, subst}
use Rattle.sg_graph.specs.declared.reports.MinorReport.{MinorReport}
use Rattle.std.specs.Prelude.{Option}
use Rattle.sg_world.specs.Steps.{HasMadeMajor}
use Rattle.sg_world.proofs.Steps.{LacksRoom, told_by_room, never, no_major, some_major}
use Rattle.sg_world.proofs.stop.major_pause.Goals as goal

pub returns-then-not-branch-clause-made : goal.returns-then-not-branch-clause-made
returns-then-not-branch-clause-made c p g b requests holds owes plain empty asking are =
    subst (λ (minor : Option MinorReport). HasMadeMajor p g b c.args.words.now requests minor None c.args.space) (sym c.in-Some.is)
    (no_major p g b requests c.args.wants.now are (LacksRoom p b c.args.space c.args.wants.now)
    (told_by_room c.places_by_room.ensures p g b c.args.space requests c.args.wants.now asking are holds owes) c.args.space holds
    c.args.words.now owes c.in-Some.minor
    c.has_cause-given.result c.has_cause-given.ensures (never c.in_ok-is_wanted.field-0 _ c.if-not-branch.true (c.in_ok-is_wanted.ensures p g b holds)))

pub major-requires : goal.major-requires
major-requires c =
    let held = c.requires.some in
    record { some = (held.0, held.1, held.2, held.3, held.5, held.4, held.6 c.in-Some.minor c.in-Some.is) }

pub returns-clause-made : goal.returns-clause-made
returns-clause-made c p g b requests holds owes plain empty asking are =
    subst (λ (minor : Option MinorReport). HasMadeMajor p g b c.args.words.now requests minor (Some c.in_ok-space.report) c.in_ok-space.space)
    (sym c.in-Some.is)
    (some_major p g b requests c.args.wants.now are (LacksRoom p b c.args.space c.args.wants.now)
    (told_by_room c.places_by_room.ensures p g b c.args.space requests c.args.wants.now asking are holds owes) c.args.space holds
    c.args.words.now c.in-Some.minor
    c.has_cause-given.result c.has_cause-given.ensures ((c.in_ok-is_wanted.ensures p g b holds).0 c.if-not-branch.false)
    c.in_ok-space.space c.in_ok-space.report
    (c.in_ok-space.ensures.collected p g b holds plain owes (empty c.in-Some.minor c.in-Some.is)))
