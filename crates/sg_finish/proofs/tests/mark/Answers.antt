use Rattle.std.proofs.Common.{◌≡◌, ℕ, ◌+◌, ◌*◌, ◌/◌, ◌<◌, ap, sym, refl, rules, arith, subst}
use Rattle.sg_words.specs.Address.{word_at}
use Rattle.sg_words.specs.Blocks.{IsSizeClass, slots, slot_base, IsOf}
use Rattle.sg_words.specs.Sections.{old_base}
use Rattle.sg_words.specs.declared.steps.BlockWord.{BlockWord}
use Rattle.sg_words.specs.declared.steps.BlockWord.TheVariants.{Need}
use Rattle.sg_space.specs.Space.{Contents}
use Rattle.sg_space.specs.Standing.{block_in}
use Rattle.sg_space.specs.Marks.{HasMark, InSlot}
use Rattle.sg_finish.proofs.tests.mark.Goals as goal

has_mark : (s : Contents) (b z i x : ℕ) → b < s.layout.blocks → block_in s b ≡ Need z → IsSizeClass z → i < slots z → x ≡ slot_base s.layout b z i →
    HasMark s x
has_mark s b z i x there is class fits front = InSlot b z i (record {
  there = there;
  sized = subst (λ (w : BlockWord). IsOf w z) (sym is) refl;
  class = class;
  fits = fits;
  front = front;
})

pub set_marked-requires : goal.set_marked-requires
set_marked-requires c =
    let s = c.args.space.now in
    let blocks = ap (λ layout. layout.blocks) c.layout.ensures.layout in
    let base = ap old_base c.layout-2.ensures.layout in
    let there = c.if-block-layout.false in
    let is : block_in s c.args.block ≡ Need c.args.size = search rules in
    let class : IsSizeClass c.args.size = search rules in
    let at : word_at c.at_word.result ≡ slot_base s.layout c.args.block c.args.size c.args.slot = omega (arith, c.at_word.ensures, c.old_word.ensures) in
    has_mark s c.args.block c.args.size c.args.slot (word_at c.at_word.result) (omega arith) is class c.if-slot-size.false at
