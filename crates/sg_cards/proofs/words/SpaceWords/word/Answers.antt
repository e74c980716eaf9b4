use Rattle.std.proofs.Common.{◌≡◌, ℕ, ◌+◌, ◌-◌, ◌<◌, ◌≤◌, Bool, true, false, refl, slice_index, sym, ap, ◌∙◌, subst, arith}
use mir.Val.{bool_byte}
use Rattle.sg_words.specs.Address.{word_at}
use Rattle.sg_words.specs.Sections.{nursery_base}
use Rattle.sg_space.specs.Standing.{word}
use Rattle.sg_cards.specs.Numbering.{cards_from, blocks_from}
use Rattle.sg_cards.proofs.Numbers.{numbered_word, numbered_card}
use Rattle.sg_cards.proofs.words.SpaceWords.word.Goals as goal

pub returns-then-i-first-clause-value : goal.returns-then-i-first-clause-value
returns-then-i-first-clause-value g c =
    let s = c.args.self.now in
    let first = c.cards_number-first.ensures ∙ ap cards_from c.layout-layout.ensures.layout in
    let at : word_at c.at_word.result ≡ nursery_base + c.args.i = omega (arith, c.at_word.ensures) in
    c.read.ensures.value ∙ ap (word s) at ∙ sym (numbered_word s c.args.i (subst (λ (n : ℕ). c.args.i < n) first c.if-i-first.true))

as_number : (b : Bool) (v : ℕ) → (b ≡ true → v ≡ 1) → (b ≡ false → v ≡ 0) → bool_byte b ≡ v
as_number true v one none = sym (one refl)
as_number false v one none = sym (none refl)

pub returns-then-i-behind-clause-value : goal.returns-then-i-behind-clause-value
returns-then-i-behind-clause-value g c =
    let s = c.args.self.now in
    let first = c.cards_number-first.ensures ∙ ap cards_from c.layout-layout.ensures.layout in
    let behind = c.blocks_number-behind.ensures ∙ ap blocks_from c.layout-layout.ensures.layout in
    as_number c.dirty.result _ c.dirty.ensures.dirty c.dirty.ensures.clean ∙ ap (λ (n : ℕ). slice_index s.cards (c.args.i - n)) first ∙
    sym (numbered_card s c.args.i (subst (λ (n : ℕ). n ≤ c.args.i) first c.if-i-first.false) (subst (λ (n : ℕ). c.args.i < n) behind c.if-i-behind.true))
