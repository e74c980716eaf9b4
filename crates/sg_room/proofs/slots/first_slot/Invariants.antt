use Rattle.std.proofs.Common.{ℕ, ◌<◌, slice_index}
use Rattle.sg_graph.specs.Laws.{HasNoClear}
use Rattle.sg_room.specs.Slots.{word_in}
use Rattle.sg_room.proofs.slots.first_slot.Given as goal

-- no block so far has a clear slot
abbrev pub invariant-loop-block : goal.invariant-loop-block
invariant-loop-block l = (c : ℕ) → c < l.block → HasNoClear (word_in l.words c) (slice_index l.used c) l.size
