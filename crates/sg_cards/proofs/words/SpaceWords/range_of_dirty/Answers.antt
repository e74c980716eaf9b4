use Rattle.std.proofs.Common.{◌≡◌, ℕ, ◌+◌, ◌-◌, ap, ◌∙◌, arith, slice_index}
use Rattle.sg_space.specs.Space.{cards_in}
use Rattle.sg_cards.specs.Numbering.{cards_from, numbered}
use Rattle.sg_cards.proofs.Numbers.{numbered_card}
use Rattle.sg_cards.proofs.words.SpaceWords.range_of_dirty.Goals as goal

pub returns-then-cards-cards_of-clause-clean : goal.returns-then-cards-cards_of-clause-clean
returns-then-cards-cards_of-clause-clean g c = λ k there out.
    let s = c.args.self.now in
    let first : c.args.first ≡ cards_from s.layout = c.if-first-cards_number.true ∙ c.cards_number.ensures ∙ ap cards_from c.layout-layout.ensures.layout in
    let many : c.args.cards ≡ cards_in s.layout = c.if-cards-cards_of.true ∙ c.cards_of.ensures ∙ ap cards_in c.layout-layout.ensures.layout in
    let back : (cards_from s.layout + k) - cards_from s.layout ≡ k = omega arith in
    ap (λ (n : ℕ). numbered s (n + k)) first ∙ numbered_card s (cards_from s.layout + k) (omega arith) (omega arith) ∙
    ap (slice_index s.cards) back ∙ c.dirty_range.ensures.clean k out
