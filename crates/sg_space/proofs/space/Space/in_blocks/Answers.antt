use Rattle.std.proofs.Common.{◌≡◌, ◌-◌, ◌/◌, sym, ap, ◌∙◌, arith}
use Rattle.sg_words.specs.Sections.{old_base}
use Rattle.sg_space.proofs.Slots.{block_free}
use Rattle.sg_space.proofs.space.Space.in_blocks.Goals as goal

pub returns-in-Free : goal.returns-in-Free
returns-in-Free c =
    let e : c.old_word.result ≡ old_base c.args.self.now.layout = c.old_word.ensures ∙ ap old_base c.layout.ensures.layout in
    let from = c.requires.old.0 in
    let to = c.requires.old.1 in
    block_free c.args.self.now ((c.args.x - c.old_word.result) / 256) c.args.x (omega arith) (sym c.block.ensures ∙ c.in-Free.is) (omega arith) (omega arith)
