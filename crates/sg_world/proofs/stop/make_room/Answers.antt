use Rattle.sg_graph.specs.Stop.{InFragments, LacksOne}
use Rattle.std.proofs.Common.{Bool, [], sym, subst}
use Rattle.sg_placing.specs.declared.placing.Room.TheVariants.{Fragments, SlotsToo}
use Rattle.sg_world.specs.Steps.{HasMadeRoom}
use Rattle.sg_world.proofs.Steps.{told_by_words, never, room_without, room_in_fragments, room_in_slots}
use Rattle.sg_world.proofs.stop.make_room.Goals as goal

pub returns-then-not-major-clause-made : goal.returns-then-not-major-clause-made
returns-then-not-major-clause-made c p g b requests holds owes asking are =
    subst (λ (major : Bool). HasMadeRoom p g b requests major Fragments c.args.space.now) (sym c.if-not-major.true)
    (room_without p g b requests c.args.wants.now are (LacksOne p InFragments g b requests) ((λ l. l), (λ l. l)) c.args.space.now holds []
    (owes c.if-not-major.true))

pub returns-then-not-branch-clause-made : goal.returns-then-not-branch-clause-made
returns-then-not-branch-clause-made c p g b requests holds owes asking are =
    subst (λ (major : Bool). HasMadeRoom p g b requests major Fragments c.args.space.now) (sym c.if-not-major.false)
    (room_in_fragments p g b requests c.args.wants.now are (LacksOne p InFragments g b requests) ((λ l. l), (λ l. l)) c.args.space.now holds []
    (let told = told_by_words c.places_by_words.ensures p g b c.args.space.now requests c.args.wants.now asking are in
    λ w. never c.in_ok-is_wanted.field-0 _ c.if-not-branch.true (c.in_ok-is_wanted.ensures p g b holds) (told.1 w)))

pub returns-clause-made : goal.returns-clause-made
returns-clause-made c p g b requests holds owes asking are =
    subst (λ (major : Bool). HasMadeRoom p g b requests major SlotsToo c.sweep_out.new.space) (sym c.if-not-major.false)
    (room_in_slots p g b requests c.args.wants.now are (LacksOne p InFragments g b requests) ((λ l. l), (λ l. l)) c.args.space.now holds []
    ((told_by_words c.places_by_words.ensures p g b c.args.space.now requests c.args.wants.now asking are).0
    ((c.in_ok-is_wanted.ensures p g b holds).0 c.if-not-branch.false)) c.sweep_out.new.space (c.sweep_out.ensures.swept p g b holds))
