use Rattle.std.proofs.Common.{◌≡◌, ◌+◌, ◌-◌, ◌/◌, ◌%◌, arith}
use Rattle.sg_words.specs.Sections.{old_base}
use Rattle.sg_nursery.specs.Pieces.{IsGrown, first_word, word_behind}
use Rattle.sg_nursery.proofs.Walk.{IsMet, walked_more, walked_all, walked_to, regrown}
use Rattle.sg_nursery.proofs.pieces.gaps.Goals as goal

pub loop-object-preserved : goal.loop-object-preserved
loop-object-preserved c =
    let layout = c.args.layout in
    let standing = c.args.standing.now in
    let i = c.loop-object.object-index in
    let f = c.loop-object.front / 8 in
    let o = c.object-item.result in
    let after = c.add_gap.new.pieces.items in
    let at : c.get-at.result ≡ o.at = c.get-at.ensures.value in
    let address = c.get-at.ensures.address in
    let even : o.at % 8 ≡ 0 = address.2 in
    let met : IsMet layout standing i o = record { apart = c.requires.standing; there = omega arith; is = c.object-item.is } in
    let grows : IsGrown c.loop-object.pieces.items f (first_word o - f) after = regrown c.loop-object.pieces.items after _ f _ (first_word o - f) c.in_ok-add_gap.ensures (omega arith) (omega arith) in
    record {
      bytes = omega arith;
      walked = walked_to layout standing (i + 1) (word_behind o) _ after (walked_more layout standing i f c.loop-object.pieces.items after o c.loop-object.invariant.walked met grows) (omega arith);
    }

pub returns : goal.returns
returns c =
    let layout = c.args.layout in
    let f = c.loop-object.front / 8 in
    let after = c.add_gap-2.new.pieces.items in
    let grows : IsGrown c.loop-object.pieces.items f (old_base layout - f) after = regrown c.loop-object.pieces.items after _ f _ (old_base layout - f) c.in_ok-add_gap-2.ensures (omega arith) (omega arith) in
    walked_all layout c.args.standing.now c.loop-object.object-index f c.loop-object.pieces.items after (omega arith) c.loop-object.invariant.walked grows
