use Rattle.std.proofs.Common.{◌≡◌, ℕ, ◌+◌, ◌*◌, ◌<◌, ◌≤◌, ◌⊎◌, inl, inr, List, [], sym, ap, ◌∙◌, subst, arith}
use Rattle.std.proofs.lemmas.Bool.{cases_lt}
use Rattle.sg_words.specs.declared.layout.Layout.{Layout}
use Rattle.sg_space.specs.Space.{cards_in}
use Rattle.sg_cards.specs.declared.found.Seed.{Seed}
use Rattle.sg_cards.specs.Seeds.{AreSeeds}
use Rattle.sg_cards.specs.Scanned.{card_base, AreSeedsTo}
use Rattle.sg_cards.specs.Numbering.{cards_from}
use Rattle.sg_cards.proofs.Seeding.{seeds_none, seeds_on_to, seeds_all, seed_below}
use Rattle.sg_cards.proofs.search.seeds.Goals as goal

pub loop-block-init : goal.loop-block-init
loop-block-init g c = record {
  clean = λ clean. let step = c.range_of_dirty-from.ensures.step in omega arith;
  seeds = λ s are carded.
      let f = g.W.Words.word_of c.args.words.now in
      let clean : (k : ℕ) → k < cards_in c.args.layout.now → k < c.range_of_dirty-from.result.0 → f (cards_from c.args.layout.now + k) ≡ 0 = λ k there low.
      let many = c.cards_of-cards.ensures in
      ap (λ (n : ℕ). f (n + k)) (sym c.cards_number.ensures) ∙ c.range_of_dirty-from.ensures.clean k (omega arith) (inl low) in
      let many = c.cards_of-cards.ensures in
      let least = c.min-first_block.ensures in
      let within = c.range_of_dirty-from.ensures.within in
      let order = c.range_of_dirty-from.ensures.order in
      let start = subst (λ (l : Layout). AreSeedsTo s [] (card_base l 0)) are.words.layout_is (subst (λ (n : ℕ). AreSeedsTo s [] n) (omega arith) (seeds_none s)) in
      let base = seeds_on_to c.args.layout.now c.args.shapes.now (g.W.Words.count c.args.words.now) f s are carded [] 0 (4 * c.min-first_block.result) (omega arith) (omega arith)
      (λ k low high. clean k (omega arith) (omega arith)) start in
      subst (λ (xs : List Seed). AreSeedsTo s xs (card_base c.args.layout.now (4 * c.min-first_block.result))) (sym c.new-items.ensures.items) base;
}

pub loop-card-init : goal.loop-card-init
loop-card-init g c = record {
  clean = λ clean.
      let before = c.loop-block.invariant.clean clean in
      let to_block = c.min-end_block.ensures in
      let from_block = c.min-first_block.ensures in
      let order = c.range_of_dirty-from.ensures.order in
      let ordered : c.min-first_block.result ≤ c.min-end_block.result = omega arith in
      let most = c.loop-block.auto.block-end ordered in
      let first = c.max-first.ensures in
      omega arith;
  seeds = λ s are carded.
      let f = g.W.Words.word_of c.args.words.now in
      let many = c.cards_of-cards.ensures in
      let clean : (k : ℕ) → k < cards_in c.args.layout.now → (k < c.range_of_dirty-from.result.0) ⊎ (c.range_of_dirty-from.result.1 ≤ k) → f (cards_from c.args.layout.now + k) ≡ 0 = λ k there out.
      ap (λ (n : ℕ). f (n + k)) (sym c.cards_number.ensures) ∙ c.range_of_dirty-from.ensures.clean k (omega arith) out in
      let within = c.range_of_dirty-from.ensures.within in
      let order = c.range_of_dirty-from.ensures.order in
      let from_block = c.min-first_block.ensures in
      let to_block = c.min-end_block.ensures in
      let first = c.max-first.ensures in
      let least = c.loop-block-test.false in
      let ordered : c.min-first_block.result ≤ c.min-end_block.result = omega arith in
      let most = c.loop-block.auto.block-end ordered in
      seeds_on_to c.args.layout.now c.args.shapes.now (g.W.Words.count c.args.words.now) f s are carded c.loop-block.items.items (4 * c.loop-block.block) c.max-first.result
      (omega arith) (omega arith)
      (λ k low high. elim (cases_lt k c.range_of_dirty-from.result.0) [
        | inl before ↦ clean k (omega arith) (inl before)
        | inr from ↦ clean k (omega arith) (inr (omega arith))
      ])
      (c.loop-block.invariant.seeds s are carded);
}

pub loop-block-preserved : goal.loop-block-preserved
loop-block-preserved g c = record {
  seeds = λ s are carded. c.in_ok-add_block.ensures.seeds s are carded (c.loop-block.invariant.seeds s are carded);
  clean = λ clean. let before = c.loop-block.invariant.clean clean in let here = c.in_ok-add_block.ensures.clean clean in omega arith;
}

pub loop-card-preserved : goal.loop-card-preserved
loop-card-preserved g c = record {
  seeds = λ s are carded. c.in_ok-add_dirty.ensures.seeds s are carded (c.loop-card.invariant.seeds s are carded);
  clean = λ clean.
      let test = c.loop-card-test.true in
      let within = c.range_of_dirty-from.ensures.within in
      let order = c.range_of_dirty-from.ensures.order in
      let many = c.cards_of-cards.ensures in
      let last = c.max-end.ensures in
      let first = c.max-first.ensures in
      let least = c.loop-card.auto.card in
      let there : c.loop-card.card < cards_in c.args.layout.now = omega arith in
      let number = c.cards_number-in-loop-card.ensures in
      let here : c.cards_number-in-loop-card.result + c.loop-card.card ≡ cards_from c.args.layout.now + c.loop-card.card = omega arith in
      let zero = c.word-word.ensures.value ∙ ap (g.W.Words.word_of c.args.words.now) here ∙ clean c.loop-card.card there in
      let before = c.loop-card.invariant.clean clean in
      let kept = c.in_ok-add_dirty.ensures.clean zero in
      let step = c.word-word.ensures.step in
      omega arith;
}

pub returns-clause-clean : goal.returns-clause-clean
returns-clause-clean g c = λ clean.
    let within = c.range_of_dirty-from.ensures.within in
    let many = c.cards_of-cards.ensures in
    let first = c.max-first.ensures in
    let end = c.max-end.ensures in
    let order = c.range_of_dirty-from.ensures.order in
    let ordered : c.max-first.result ≤ c.max-end.result = omega arith in
    let most = c.loop-card.auto.card-end ordered in
    let all = c.loop-card.invariant.clean clean in
    omega arith

pub returns-clause-exact : goal.returns-clause-exact
returns-clause-exact g c = λ s owner are carded sound.
    let f = g.W.Words.word_of c.args.words.now in
    let many = c.cards_of-cards.ensures in
    let within = c.range_of_dirty-from.ensures.within in
    let order = c.range_of_dirty-from.ensures.order in
    let first = c.max-first.ensures in
    let end = c.max-end.ensures in
    let least = c.loop-card-test.false in
    let ordered : c.max-first.result ≤ c.max-end.result = omega arith in
    let most = c.loop-card.auto.card-end ordered in
    let all = seeds_on_to c.args.layout.now c.args.shapes.now (g.W.Words.count c.args.words.now) f s are carded c.loop-card.items.items c.loop-card.card (cards_in c.args.layout.now)
    (omega arith) (omega arith)
    (λ k low high. ap (λ (n : ℕ). f (n + k)) (sym c.cards_number.ensures) ∙ c.range_of_dirty-from.ensures.clean k (omega arith) (inr (omega arith)))
    (c.loop-card.invariant.seeds s are carded) in
    let here = subst (λ (l : Layout). AreSeedsTo s c.loop-card.items.items (card_base l (cards_in l))) (sym are.words.layout_is) all in
    subst (λ (xs : List Seed). AreSeeds s owner xs) (sym c.of.ensures)
    (seeds_all s owner c.loop-card.items.items (card_base s.layout (cards_in s.layout)) (here.has owner sound) (λ z q. seed_below s owner sound z q))
