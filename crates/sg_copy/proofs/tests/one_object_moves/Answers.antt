use Rattle.std.proofs.Common.{◌≡◌, ◌*◌, List, [], map, ℕ, refl, sym, subst, arith}
use Rattle.sg_words.specs.Address.{word_at}
use Rattle.sg_desc.specs.declared.shapes.Descriptor.TheVariants.{PtrFree}
use Rattle.sg_copy.specs.Copying.{CanCopy}
use Rattle.sg_copy.proofs.One.{one_written}
use Rattle.sg_copy.proofs.tests.one_object_moves.Goals as goal

pub copy_one-requires : goal.copy_one-requires
copy_one-requires g c =
    let object : c.at_word-object.result ≡ 8 * 512 = c.at_word-object.ensures in
    let one = one_written (record { nursery = 256; blocks = 1; pages = 0 }) c.as_slice.result.now (record { fields = 1; kind = PtrFree })
    c.in_ok-space.space c.write.new.self c.write-2.new.self c.write-3.new.self c.at_word-object.result c.plus.result c.global-slot.result
    (rw c.as_slice.ensures refl) refl c.in_ok-space.ensures.contents c.in_ok-space.ensures.clear
    (omega (arith, object)) (omega (arith, object, c.plus.ensures)) (omega (arith, c.global-slot.ensures)) c.write.ensures c.write-2.ensures c.write-3.ensures in
    subst (λ (wholes : List ℕ). CanCopy c.write-3.new.self (map word_at c.as_slice-2.result.now) (map word_at wholes)) (sym c.as_slice-3.ensures)
    (subst (λ (slots : List ℕ). CanCopy c.write-3.new.self (map word_at slots) []) (sym c.as_slice-2.ensures) one)
