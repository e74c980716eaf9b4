use Rattle.std.proofs.Common.{◌≡◌, refl, sym, subst, arith}
use Rattle.sg_words.specs.Sections.{IsLayout}
use Rattle.sg_words.specs.declared.layout.Layout.{Layout}
use Rattle.sg_desc.specs.declared.shapes.Shape.{Shape}
use Rattle.sg_desc.specs.declared.shapes.Descriptor.TheVariants.{VectorRefs}
use Rattle.sg_space.specs.Space.{Contents, AreShapes}
use Rattle.sg_space.specs.Standing.{IsSound}
use Rattle.sg_cards.specs.Seeds.{AreCarded}
use Rattle.sg_cards.proofs.Vector.{vector_space, vector_made, vector_is_sound, vector_is_carded}
use Rattle.sg_cards.proofs.tests.of_vector.Goals.{After-set_dirty-2}
use Rattle.sg_cards.proofs.tests.of_vector.Goals as goal

abbrev layout : Layout
layout = record { nursery = 256; blocks = 1; pages = 0 }

abbrev shape : Shape
shape = record { fields = 0; kind = VectorRefs }

made : (c : After-set_dirty-2) → c.set_dirty-2.new.self ≡ vector_space layout c.as_slice.result.now
made c = vector_made layout c.as_slice.result.now c.in_ok-space.space c.set_block.new.self c.set_used.new.self c.write.new.self c.write-2.new.self
    c.write-3.new.self c.set_dirty.new.self c.set_dirty-2.new.self c.at_word.result c.at_word-2.result c.at_word-3.result
    (omega (arith, c.at_word.ensures)) (omega (arith, c.at_word-2.ensures)) (omega (arith, c.at_word-3.ensures))
    c.in_ok-space.ensures.clear c.set_block.ensures c.set_used.ensures c.write.ensures c.write-2.ensures c.write-3.ensures c.set_dirty.ensures
    c.set_dirty-2.ensures

is_layout : (c : After-set_dirty-2) → IsLayout layout
is_layout c = subst (λ (t : Contents). IsLayout t.layout) c.in_ok-space.ensures.clear c.in_ok-space.ensures.contents.layout

are_shapes : (c : After-set_dirty-2) → AreShapes c.as_slice.result.now
are_shapes c = subst (λ (t : Contents). AreShapes t.shapes) c.in_ok-space.ensures.clear c.in_ok-space.ensures.contents.shapes

pub returns-clause-sound : goal.returns-clause-sound
returns-clause-sound c = subst IsSound (sym (made c))
    (vector_is_sound layout c.as_slice.result.now (is_layout c) (are_shapes c) refl refl shape (rw c.as_slice.ensures refl) refl)

pub returns-clause-carded : goal.returns-clause-carded
returns-clause-carded c = subst AreCarded (sym (made c))
    (vector_is_carded layout c.as_slice.result.now (is_layout c) (are_shapes c) refl refl shape (rw c.as_slice.ensures refl) refl)
