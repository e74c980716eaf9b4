use Rattle.std.proofs.Common.{◌≡◌, ◌↔◌, length, slice_index, drop}
use Rattle.sg_room.specs.Room.{next_word}
use Rattle.sg_room.proofs.Lacking.{Lacks}
use Rattle.sg_room.proofs.words.lacks_words.Given as goal

-- each number so far had room, and the others find room as they did before
abbrev pub invariant-loop-need : goal.invariant-loop-need
invariant-loop-need l = record {
  as_many : length l.next.items ≡ length l.space.ends;
  lacks : Lacks l.space (next_word l.space) l.needs ↔ Lacks l.space (λ f. slice_index l.next.items f) (drop l.need-index l.needs);
}
