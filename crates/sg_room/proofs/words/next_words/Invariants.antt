use Rattle.std.proofs.Common.{◌≡◌, ℕ, ◌<◌, length, slice_index}
use Rattle.sg_room.specs.Room.{next_word}
use Rattle.sg_room.proofs.words.next_words.Given as goal

-- the fragments so far
abbrev pub invariant-loop-fragment : goal.invariant-loop-fragment
invariant-loop-fragment l = record {
  as_many : length l.next.items ≡ l.fragment;
  same : (f : ℕ) → f < l.fragment → slice_index l.next.items f ≡ next_word l.space f;
}
