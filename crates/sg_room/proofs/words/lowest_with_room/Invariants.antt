use Rattle.std.proofs.Common.{ℕ, ◌+◌, ◌<◌, slice_index}
use Rattle.sg_room.specs.Room.{end_word}
use Rattle.sg_room.proofs.words.lowest_with_room.Given as goal

-- no fragment so far has room
abbrev pub invariant-loop-fragment : goal.invariant-loop-fragment
invariant-loop-fragment l = (f : ℕ) → f < l.fragment → end_word l.space f < slice_index l.next f + l.words
