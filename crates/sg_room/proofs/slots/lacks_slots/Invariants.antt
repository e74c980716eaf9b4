use Rattle.std.proofs.Common.{◌≡◌, ◌↔◌, length, drop}
use Rattle.sg_room.proofs.Slotting.{Lacks}
use Rattle.sg_room.proofs.slots.lacks_slots.Given as goal

-- each size so far had a slot, and the others find one as they did before
abbrev pub invariant-loop-size : goal.invariant-loop-size
invariant-loop-size l = record {
  as_many : length l.words.items ≡ length l.used.items;
  lacks : Lacks l.space.blocks l.space.used l.sizes ↔ Lacks l.words.items l.used.items (drop l.size-index l.sizes);
}
