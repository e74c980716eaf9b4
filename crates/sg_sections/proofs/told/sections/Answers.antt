use Rattle.std.proofs.Common.{length, sym, ap, ◌∙◌, subst, arith}
use Rattle.sg_sections.specs.Parts.{words_together, AreLines}
use Rattle.sg_sections.proofs.Whole.{is_sound, few, tells_sections}
use Rattle.sg_sections.proofs.told.sections.Goals as goal

pub walk_nursery-requires : goal.walk_nursery-requires
walk_nursery-requires c = is_sound c.front_law.ensures c.args.space.now c.in_ok-blocks.ensures.contents c.requires.some

pub overflow_cast-result : goal.overflow_cast-result
overflow_cast-result c =
    let most = few c.front_law.ensures c.args.space.now c.in_ok-blocks.ensures.contents c.in_ok-told.told c.in_ok-told.ensures c.requires.some in
    let same = ap length c.as_slice.ensures in
    record { fits = omega arith }

pub words_of-requires : goal.words_of-requires
words_of-requires c =
    let most = few c.front_law.ensures c.args.space.now c.in_ok-blocks.ensures.contents c.in_ok-told.told c.in_ok-told.ensures c.requires.some in
    let same = ap words_together c.as_slice-2.ensures in
    omega arith

pub returns : goal.returns
returns c = record {
  told = λ p g b holds nothing. tells_sections c.front_law.ensures c.args.space.now c.in_ok-blocks.ensures.contents c.in_ok-told.told c.in_ok-told.ensures p g b holds nothing _
      (ap length c.as_slice.ensures) (c.words_of.ensures ∙ ap words_together c.as_slice-2.ensures)
      (subst (AreLines c.args.space.now c.args.space.now.layout.blocks) (sym c.from_vec.ensures) c.in_ok-blocks.ensures.lines);
}
