use Rattle.std.proofs.Common.{subst, refl, arith}
use Rattle.sg_desc.specs.declared.shapes.Descriptor.TheVariants.{PtrFree}
use Rattle.sg_words.specs.Sections.{IsLayout}
use Rattle.sg_space.specs.Space.{Contents, AreShapes}
use Rattle.sg_space.proofs.Pair.{pair_is_sound}
use Rattle.sg_space.proofs.tests.two_objects.Goals as goal

pub look-requires : goal.look-requires
look-requires g c =
    let clear = c.in_ok-space.ensures.clear in
    let contents = c.in_ok-space.ensures.contents in
    pair_is_sound (record { nursery = 256; blocks = 1; pages = 0 }) c.as_slice.result.now
    (subst (λ (t : Contents). IsLayout t.layout) clear contents.layout)
    (subst (λ (t : Contents). AreShapes t.shapes) clear contents.shapes)
    (record { fields = 2; kind = PtrFree }) (rw c.as_slice.ensures refl) refl
    c.in_ok-space.space c.set_next.new.self c.write.new.self c.write-2.new.self c.write-3.new.self c.write-4.new.self
    c.at_word-first.result c.at_word-second.result c.plus.result c.plus-2.result
    (omega (arith, c.at_word-first.ensures)) (omega (arith, c.at_word-second.ensures)) (omega (arith, c.at_word-first.ensures, c.plus.ensures)) (omega (arith, c.at_word-second.ensures, c.plus-2.ensures))
    clear c.set_next.ensures c.write.ensures c.write-2.ensures c.write-3.ensures c.write-4.ensures
