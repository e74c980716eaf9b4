use Rattle.std.proofs.Common.{map, length, ap, sym, ◌∙◌, subst, List}
use Rattle.sg_words.specs.declared.layout.Layout.{Layout}
use Rattle.sg_program.specs.declared.program.Class.{Class}
use Rattle.sg_space.specs.Space.{AreShapes, clear_space}
use Rattle.sg_actor.specs.State.{Mutating}
use Rattle.sg_world.specs.Starting.{AreNew}
use Rattle.sg_world.proofs.Begins.{shapes_fit, begins}
use Rattle.sg_world.proofs.world.World.start.Goals as goal

pub new-requires-clause-shapes : goal.new-requires-clause-shapes
new-requires-clause-shapes c =
    subst AreShapes (sym (c.deref.ensures.value ∙ c.in_ok-shapes.ensures ∙ ap (map (λ (class : Class). class.shape)) c.as_slice.ensures))
    (shapes_fit c.args.program.now c.requires.limits)

pub returns : goal.returns
returns c turns =
    let p = c.args.program.now in
    begins c.first_opening.ensures p c.requires c.deref.result.now
    (c.deref.ensures.value ∙ c.in_ok-shapes.ensures ∙ ap (map (λ (class : Class). class.shape)) c.as_slice.ensures) c.in_ok-new.field-0
    (c.in_ok-new.ensures.clear ∙ ap (λ (layout : Layout). clear_space layout c.deref.result.now) c.layout_of.ensures) c.in_ok-new.ensures.contents
    c.from_vec.result (subst (λ (ms : List Mutating). AreNew p (length p.mutators) ms) (sym c.from_vec.ensures) c.in_ok-mutators_of.ensures) turns
