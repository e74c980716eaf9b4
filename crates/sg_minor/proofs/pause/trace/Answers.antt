use Rattle.std.proofs.Common.{ℕ, List, map, sym, subst}
use Rattle.std.specs.List.Sorted.{IsStrictlyIncreasing}
use Rattle.sg_words.specs.Address.{word_at}
use Rattle.sg_space.specs.declared.objects.Object.{Object}
use Rattle.sg_space.specs.Standing.{word}
use Rattle.sg_copy.specs.Copying.{CanCopy, HasCopiedTo}
use Rattle.sg_nursery.specs.Parts.{HasTagged, ArePlain}
use Rattle.sg_minor.proofs.Sown.{sound_heap}
use Rattle.sg_minor.proofs.Whole.{plain_pins, can_copy, pins_told}
use Rattle.sg_minor.proofs.pause.trace.Goals as goal

pub walk_nursery-requires : goal.walk_nursery-requires
walk_nursery-requires c =
    let h = c.requires.some in
    let heap = sound_heap c.front_law.ensures h.0 c.args.space h.1 h.2 h.3 c.layout-layout.ensures.contents in
    (heap.owner, heap.sound)

pub pinned_among-requires : goal.pinned_among-requires
pinned_among-requires c =
    let h = c.requires.some in
    let heap = sound_heap c.front_law.ensures h.0 c.args.space h.1 h.2 h.3 c.layout-layout.ensures.contents in
    subst (λ (told : List Object). IsStrictlyIncreasing (map (λ (o : Object). o.at) told)) (sym c.as_slice.ensures)
    (c.in_ok-told.ensures heap.owner heap.sound).in_order

pub tag-requires-clause-in_order : goal.tag-requires-clause-in_order
tag-requires-clause-in_order c =
    let h = c.requires.some in
    let heap = sound_heap c.front_law.ensures h.0 c.args.space h.1 h.2 h.3 c.layout-layout.ensures.contents in
    subst IsStrictlyIncreasing (sym c.as_slice-2.ensures)
    (pins_told c.args.space c.in_ok-told.told _ c.args.ambiguous.now c.in_ok-pins.pins c.as_slice.ensures c.in_ok-told.ensures c.in_ok-pins.ensures.pinned
    heap.owner heap.sound).in_order

pub tag-requires-clause-plain : goal.tag-requires-clause-plain
tag-requires-clause-plain c =
    let h = c.requires.some in
    subst (ArePlain c.args.space) (sym c.as_slice-2.ensures)
    (plain_pins c.front_law.ensures h.0 c.args.space h.1 h.2 h.3 c.layout-layout.ensures.contents c.args.ambiguous.now c.in_ok-pins.pins
    (pins_told c.args.space c.in_ok-told.told _ c.args.ambiguous.now c.in_ok-pins.pins c.as_slice.ensures c.in_ok-told.ensures c.in_ok-pins.ensures.pinned))

pub copy_one-requires : goal.copy_one-requires
copy_one-requires c =
    let h = c.requires.some in
    let s = c.args.space in
    let tagged = c.tag.new.space in
    let bytes = c.in_ok-pins.pins in
    let tags = subst (λ (z : List ℕ). HasTagged (word s) (map word_at z) (word tagged)) c.as_slice-2.ensures c.tag.ensures.tagged in
    subst (λ (z : List ℕ). CanCopy tagged (map word_at z) (map word_at c.as_slice-3.result.now)) (sym c.deref.ensures.value)
    (subst (λ (z : List ℕ). CanCopy tagged (map word_at c.in_ok-slots.slots.items) (map word_at z)) (sym c.as_slice-3.ensures)
    (subst (λ (z : List ℕ). CanCopy tagged z (map word_at bytes)) (sym c.in_ok-slots.ensures)
    (can_copy c.front_law.ensures h.0 s h.1 h.2 h.3 c.layout-layout.ensures.contents c.args.ambiguous.now bytes
    (pins_told s c.in_ok-told.told _ c.args.ambiguous.now bytes c.as_slice.ensures c.in_ok-told.ensures c.in_ok-pins.ensures.pinned) h.4
    c.args.seeds.now c.requires.found tagged c.tag.ensures.still tags c.join_law.ensures)))

pub returns : goal.returns
returns c =
    let s = c.args.space in
    let tagged = c.tag.new.space in
    let bytes = c.in_ok-pins.pins in
    let round = c.in_ok-round.round in
    record {
      traced = record {
        tells = c.in_ok-told.ensures;
        pinned = pins_told s c.in_ok-told.told _ c.args.ambiguous.now bytes c.as_slice.ensures c.in_ok-told.ensures c.in_ok-pins.ensures.pinned;
        tagged = tagged;
        still = c.tag.ensures.still;
        tags = subst (λ (z : List ℕ). HasTagged (word s) (map word_at z) (word tagged)) c.as_slice-2.ensures c.tag.ensures.tagged;
        moves = round.moves.items;
        fails = round.fails.items;
        copied = subst (λ (z : List ℕ). HasCopiedTo tagged z (map word_at bytes) round.space round.moves.items round.fails.items) c.in_ok-slots.ensures
            (subst (λ (z : List ℕ). HasCopiedTo tagged (map word_at z) (map word_at bytes) round.space round.moves.items round.fails.items)
            c.deref.ensures.value
            (subst (λ (z : List ℕ). HasCopiedTo tagged (map word_at c.deref.result.now) (map word_at z) round.space round.moves.items round.fails.items)
            c.as_slice-3.ensures
            c.in_ok-round.ensures.copied));
      };
      before = c.layout-layout.ensures.contents;
    }
