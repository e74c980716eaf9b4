use Rattle.std.proofs.Common.{map, sym, ap, ◌∙◌}
use Rattle.std.proofs.lemmas.List.{map_push}
use Rattle.sg_words.specs.Address.{word_at}
use Rattle.sg_space.specs.Standing.{word}
use Rattle.sg_copy.specs.Copying.{area_of}
use Rattle.sg_minor.specs.Joined.{holds_young, is_young_word}
use Rattle.sg_minor.proofs.Added.{adds-one, adds-not, tests-young}
use Rattle.sg_minor.proofs.slots.add_slot.Goals as goal

pub returns-in_ok-push : goal.returns-in_ok-push
returns-in_ok-push c =
    let s = c.args.space.now in
    adds-one (holds_young (area_of s) (word s)) (map word_at c.args.slots.now.items) _ (word_at c.args.slot)
    (ap (λ v. is_young_word (area_of s) v) (sym c.read.ensures.value) ∙ tests-young (area_of s) c.read.result c.is_young.result c.is_young.ensures ∙
    c.if-is_young.true)
    (ap (map word_at) c.in_ok-push.ensures.items ∙ map_push word_at c.args.slots.now.items c.args.slot)

pub returns-else-is_young : goal.returns-else-is_young
returns-else-is_young c =
    let s = c.args.space.now in
    adds-not (holds_young (area_of s) (word s)) (map word_at c.args.slots.now.items) (word_at c.args.slot)
    (ap (λ v. is_young_word (area_of s) v) (sym c.read.ensures.value) ∙ tests-young (area_of s) c.read.result c.is_young.result c.is_young.ensures ∙
    c.if-is_young.false)
