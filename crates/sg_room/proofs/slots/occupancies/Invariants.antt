use Rattle.std.proofs.Common.{◌≡◌, ℕ, ◌<◌, length, slice_index}
use Rattle.sg_room.proofs.slots.occupancies.Given as goal

-- the blocks so far
abbrev pub invariant-loop-block : goal.invariant-loop-block
invariant-loop-block l = record {
  as_many : length l.used.items ≡ l.block;
  same : (c : ℕ) → c < l.block → slice_index l.used.items c ≡ slice_index l.space.used c;
}
