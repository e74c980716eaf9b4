use Rattle.std.proofs.Common.{◌≡◌, ◌++◌, map, take}
use Rattle.sg_words.specs.Address.{word_at}
use Rattle.sg_cards.specs.declared.found.Seed.{Seed}
use Rattle.sg_minor.proofs.slots.add_seeds.Given as goal

abbrev pub invariant-loop-seed : goal.invariant-loop-seed
invariant-loop-seed l = map word_at l.slots.items ≡ map word_at l.fn.slots.items ++ map (λ (seed : Seed). word_at seed.slot) (take l.seed-index l.seeds)
