use Rattle.std.proofs.Common.{◌≡◌, ℕ, ◌+◌, subst, arith}
use Rattle.sg_cards.specs.Scanned.{card_base, AreSeedsTo}
use Rattle.sg_cards.proofs.search.add_four.Goals as goal

pub returns : goal.returns
returns g c = λ s are carded h.
    let card = c.args.card in
    let third : card + 1 + 1 ≡ card + 2 = omega arith in
    let fourth : card + 2 + 1 ≡ card + 3 = omega arith in
    let end : card + 3 + 1 ≡ card + 4 = omega arith in
    let two = c.in_ok-add_dirty-2.ensures.seeds s are carded (c.in_ok-add_dirty.ensures.seeds s are carded h) in
    let three = c.in_ok-add_dirty-3.ensures.seeds s are carded
    (subst (λ (n : ℕ). AreSeedsTo s c.add_dirty-2.new.items.items (card_base c.args.layout.now n)) third two) in
    let four = c.in_ok-add_dirty-4.ensures.seeds s are carded
    (subst (λ (n : ℕ). AreSeedsTo s c.add_dirty-3.new.items.items (card_base c.args.layout.now n)) fourth three) in
    subst (λ (n : ℕ). AreSeedsTo s c.add_dirty-4.new.items.items (card_base c.args.layout.now n)) end four
