-- The law of a space that holds a graph by a book.
use Rattle.sg_heap.specs.Laws.{FrontLaw}
use Rattle.sg_heap.proofs.Names.{named_front}
use Rattle.sg_heap.proofs.Sound.{nursery_is, blocks_is, length_is, class_is, owns, owned, owns_first, one_owner, shape_is, few_fields, few_classes, young_inside, old_inside, young_there, old_there, is_owned, sound_by}
use Rattle.sg_heap.proofs.Refers.{reference, refers, rows, target_held, held_target, old_front}

pub front_law : FrontLaw
front_law = record {
  fronted = λ p s g b owner is heap settled contents. record {
    sound = sound_by p s g b is owner heap contents settled;
    refers = refers p s g b is owner heap contents;
    rows = rows p s g b is owner heap contents;
    nursery_is = nursery_is p s g b is owner heap contents;
    blocks_is = blocks_is p s g b is owner heap contents;
    owns = owns p s g b is owner heap contents;
    owns_first = owns_first p s g b is owner heap contents;
    owned = owned p s g b is owner heap contents;
    one_owner = one_owner p s g b is owner heap contents;
    is_owned = is_owned p s g b is owner heap contents;
    named_front = λ x h e. named_front b.address (owner x) h e;
    old_front = old_front p s g b is owner heap contents settled;
    class_is = class_is p s g b is owner heap contents;
    length_is = length_is p s g b is owner heap contents;
    shape_is = shape_is p s g b is owner heap contents;
    few_fields = few_fields p s g b is owner heap contents;
    few_classes = few_classes p s g b is owner heap contents;
    young_inside = young_inside p s g b is owner heap contents;
    old_inside = old_inside p s g b is owner heap contents;
    young_there = young_there p s g b is owner heap contents;
    old_there = old_there p s g b is owner heap contents;
    reference = reference p s g b is owner heap contents;
    target_held = target_held p s g b is owner heap contents;
    held_target = held_target p s g b is owner heap contents;
  };
}
