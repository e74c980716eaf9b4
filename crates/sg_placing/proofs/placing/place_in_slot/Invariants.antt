use Rattle.std.proofs.Common.{◌≡◌, ℕ, ◌<◌}
use Rattle.sg_graph.specs.Book.{slot_words}
use Rattle.sg_placing.specs.Placing.{LacksClearSlot}
use Rattle.sg_placing.proofs.placing.place_in_slot.Given as goal

-- no block so far has a clear slot, and nothing has changed
abbrev pub invariant-loop-block : goal.invariant-loop-block
invariant-loop-block l = record {
  passed : (c : ℕ) → c < l.block → LacksClearSlot l.fn.space (slot_words l.fn.fields) c;
  same : l.space ≡ l.fn.space;
}
