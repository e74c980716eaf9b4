use Rattle.std.proofs.Common.{◌∙◌, sym}
use Rattle.sg_words.specs.Address.{word_at}
use Rattle.sg_space.specs.Standing.{word}
use Rattle.sg_space.specs.Changes.{still_on}
use Rattle.sg_nursery.proofs.Tagged.{pin_fresh, tagged_next}
use Rattle.sg_nursery.proofs.tag.tag.Goals as goal

pub tag_one-requires-clause-plain : goal.tag_one-requires-clause-plain
tag_one-requires-clause-plain c =
    let pin = c.pin-item.result in
    let plain = c.requires.plain.plain pin (c.loop-pin.pin-index, c.loop-pin-test.true, sym c.pin-item.is) in
    let fresh = pin_fresh c.args.pins.now c.loop-pin.pin-index pin c.requires.in_order c.requires.plain.whole c.loop-pin-test.true c.pin-item.is in
    (plain.0, plain.1, c.loop-pin.invariant.tagged.same (word_at pin) fresh ∙ plain.2)

pub loop-pin-preserved : goal.loop-pin-preserved
loop-pin-preserved c = record {
  still = still_on c.args.space.now c.loop-pin.space c.tag_one.new.space c.loop-pin.invariant.still c.tag_one.ensures.still;
  tagged = tagged_next (word c.args.space.now) (word c.loop-pin.space) (word c.tag_one.new.space) c.args.pins.now c.loop-pin.pin-index c.pin-item.result
      c.requires.in_order c.requires.plain.whole c.loop-pin-test.true c.pin-item.is c.loop-pin.invariant.tagged c.tag_one.ensures.tagged;
}
