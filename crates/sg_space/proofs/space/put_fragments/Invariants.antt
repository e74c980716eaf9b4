-- What was put, and what the pieces ahead add to it, are the fragments of all pieces.
use Rattle.std.proofs.Common.{◌≡◌, ◌≤◌, ◌++◌, length, drop, vec_capacity}
use Rattle.sg_words.specs.Pieces.{fronts_of, ends_of}
use Rattle.sg_space.proofs.space.put_fragments.Given as goal

abbrev pub invariant-loop-piece : goal.invariant-loop-piece
invariant-loop-piece l = record {
  fronts : l.next.items ++ fronts_of (drop l.piece-index l.pieces) ≡ fronts_of l.pieces;
  ends : l.ends.items ++ ends_of (drop l.piece-index l.pieces) ≡ ends_of l.pieces;
  same : length l.next.items ≡ length l.ends.items;
  room : vec_capacity l.fn.next ≤ vec_capacity l.next;
  room_of_ends : vec_capacity l.fn.ends ≤ vec_capacity l.ends;
}
