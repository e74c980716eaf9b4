use Rattle.std.proofs.Common.{ℕ, ◌∷◌, [], ◌++◌, List, map, take, sym, ap, ◌∙◌}
use Rattle.std.proofs.lemmas.List.{append_assoc, append-nil, map-append, map_push, take_more, take_all}
use Rattle.sg_words.specs.Address.{word_at}
use Rattle.sg_cards.specs.declared.found.Seed.{Seed}
use Rattle.sg_minor.proofs.slots.add_seeds.Goals as goal

pub loop-seed-init : goal.loop-seed-init
loop-seed-init c = sym (append-nil (map word_at c.args.slots.now.items))

pub loop-seed-preserved : goal.loop-seed-preserved
loop-seed-preserved c =
    let seeds = c.args.seeds.now in
    let i = c.loop-seed.seed-index in
    let seed = c.seed-item.result in
    let slot = λ (s : Seed). word_at s.slot in
    let before = map word_at c.args.slots.now.items in
    ap (map word_at) c.in_ok-push.ensures.items ∙ map_push word_at c.loop-seed.slots.items seed.slot
    ∙ ap (λ (l : List ℕ). l ++ slot seed ∷ []) c.loop-seed.invariant
    ∙ append_assoc before (map slot (take i seeds)) (slot seed ∷ [])
    ∙ ap (λ (l : List ℕ). before ++ l) (sym (map-append slot (take i seeds) (seed ∷ [])))
    ∙ ap (λ (l : List Seed). before ++ map slot l) (ap (λ (s : Seed). take i seeds ++ s ∷ []) c.seed-item.is ∙ sym
    (take_more seeds i seed c.loop-seed-test.true))

pub returns : goal.returns
returns c =
    ap (λ (l : List ℕ). l) c.loop-seed.invariant
    ∙ ap (λ (l : List Seed). map word_at c.args.slots.now.items ++ map (λ (seed : Seed). word_at seed.slot) l)
    (take_all c.loop-seed.seed-index c.args.seeds.now c.loop-seed-test.false)
