use Rattle.std.proofs.Common.{◌≡◌, ℕ, ◌<◌, length}
use Rattle.sg_room.specs.Slots.{word_in}
use Rattle.sg_room.proofs.slots.block_words.Given as goal

-- the blocks so far
abbrev pub invariant-loop-block : goal.invariant-loop-block
invariant-loop-block l = record {
  as_many : length l.words.items ≡ l.block;
  same : (c : ℕ) → c < l.block → word_in l.words.items c ≡ word_in l.space.blocks c;
}
