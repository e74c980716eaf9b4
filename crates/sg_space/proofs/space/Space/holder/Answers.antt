use Rattle.std.proofs.Common.{◌/◌, inl, inr, ap, ◌∙◌, arith}
use Rattle.sg_words.specs.Sections.{globals_base}
use Rattle.sg_space.proofs.Reached.{free_outside}
use Rattle.sg_space.proofs.space.Space.holder.Goals as goal

pub returns-then-word-lt-FIRST_WORD : goal.returns-then-word-lt-FIRST_WORD
returns-then-word-lt-FIRST_WORD c = free_outside c.args.self.now (c.args.v / 8) (inl c.if-word-lt-FIRST_WORD.true)

pub returns-else-word-globals_word : goal.returns-else-word-globals_word
returns-else-word-globals_word c =
    let e = c.globals_word.ensures ∙ ap globals_base c.layout-layout.ensures.layout in
    free_outside c.args.self.now (c.args.v / 8) (inr (let l = c.if-word-globals_word.false in omega arith))
