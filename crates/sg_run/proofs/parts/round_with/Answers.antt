use Rattle.std.proofs.Common.{List, ℕ, map, ◌∙◌, ap, sym, subst}
use Rattle.std.specs.List.Sorted.{IsStrictlyIncreasing}
use Rattle.sg_words.specs.Address.{word_at}
use Rattle.sg_cards.specs.declared.found.Seed.{Seed}
use Rattle.sg_space.specs.Standing.{word}
use Rattle.sg_nursery.specs.Parts.{HasTagged, ArePlain}
use Rattle.sg_copy.specs.Copying.{CanCopy}
use Rattle.sg_minor.specs.Joined.{slots_from}
use Rattle.sg_run.proofs.parts.round_with.Goals as goal

pub tag-requires-clause-in_order : goal.tag-requires-clause-in_order
tag-requires-clause-in_order c =
    let sound = c.is_sound.ensures in
    subst IsStrictlyIncreasing (sym c.as_slice.ensures) (c.in_ok-pins.ensures sound.0 sound.1).in_order

pub tag-requires-clause-plain : goal.tag-requires-clause-plain
tag-requires-clause-plain c =
    let h = c.requires in
    subst (ArePlain c.args.space) (sym c.as_slice.ensures)
    (c.heap_law.ensures.plain h.0 c.args.space h.1 h.2 h.3 c.layout.ensures.contents c.args.ambiguous.now c.in_ok-pins.pins c.in_ok-pins.ensures)

pub copy_one-requires : goal.copy_one-requires
copy_one-requires c =
    let h = c.requires in
    let s = c.args.space in
    let tagged = c.tag.new.space in
    let pins = c.in_ok-pins.pins in
    let found = c.in_ok-found.found in
    let slots = c.in_ok-slots.slots.items in
    subst (λ (z : List ℕ). CanCopy tagged (map word_at z) (map word_at c.as_slice-2.result.now)) (sym c.deref.ensures.value)
    (subst (λ (z : List ℕ). CanCopy tagged (map word_at slots) (map word_at z)) (sym c.as_slice-2.ensures)
    (subst (λ (z : List ℕ). CanCopy tagged z (map word_at pins)) (sym (c.in_ok-slots.ensures ∙ ap (λ (seeds : List Seed). slots_from s seeds) c.all.ensures))
    (c.heap_law.ensures.copies h.0 s h.1 h.2 h.3 h.4 c.layout.ensures.contents c.args.ambiguous.now pins c.in_ok-pins.ensures found c.in_ok-found.ensures tagged
    c.tag.ensures.still (subst (λ (z : List ℕ). HasTagged (word s) (map word_at z) (word tagged)) c.as_slice.ensures c.tag.ensures.tagged))))
