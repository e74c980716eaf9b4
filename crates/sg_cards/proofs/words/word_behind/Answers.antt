use Rattle.std.proofs.Common.{ℕ, ◌-◌, ◌/◌, ◌%◌, ◌<◌, ◌≤◌, sym, ap, ◌∙◌, subst}
use Rattle.sg_space.specs.Standing.{page_in}
use Rattle.sg_cards.specs.Numbering.{blocks_from, pages_from, of_block}
use Rattle.sg_cards.proofs.Numbers.{numbered_block, numbered_page}
use Rattle.sg_cards.proofs.words.word_behind.Goals as goal

pub returns-then-i-pages : goal.returns-then-i-pages
returns-then-i-pages c =
    let s = c.args.space.now in
    let blocks = c.blocks_number.ensures ∙ ap blocks_from c.requires.layout in
    let pages = c.pages_number-pages.ensures ∙ ap pages_from c.requires.layout in
    c.part_of.ensures ∙ ap (λ (n : ℕ). of_block s ((c.args.i - n) / 3) ((c.args.i - n) % 3)) blocks ∙
    sym (numbered_block s c.args.i c.requires.from (subst (λ (n : ℕ). c.args.i < n) pages c.if-i-pages.true))

pub returns-else-i-pages : goal.returns-else-i-pages
returns-else-i-pages c =
    let s = c.args.space.now in
    let pages = c.pages_number-pages.ensures ∙ ap pages_from c.requires.layout in
    c.page.ensures ∙ ap (λ (n : ℕ). page_in s (c.args.i - n)) pages ∙ sym (numbered_page s c.args.i (subst (λ (n : ℕ). n ≤ c.args.i) pages c.if-i-pages.false))
