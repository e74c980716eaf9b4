use Rattle.std.proofs.Common.{ap, arith}
use Rattle.std.proofs.lemmas.List.{ext_get_or}
use Rattle.sg_words.specs.declared.layout.Layout.{Layout}
use Rattle.sg_words.specs.declared.steps.BlockWord.TheVariants.{Free}
use Rattle.sg_room.proofs.slots.block_words.Goals as goal

pub returns-clause-words : goal.returns-clause-words
returns-clause-words c =
    let blocks = ap (λ (l : Layout). l.blocks) c.layout-block-end.ensures.layout in
    let all = c.layout-block-end.ensures.contents.blocks in
    let many = c.loop-block.invariant.as_many in
    let least = c.loop-block.auto.block-end in
    let most = c.loop-block-test.false in
    ext_get_or Free c.loop-block.words.items c.args.space.now.blocks (omega arith) (λ i l. c.loop-block.invariant.same i (omega arith))
