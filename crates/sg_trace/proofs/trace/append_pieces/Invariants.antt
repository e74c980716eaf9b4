use Rattle.std.proofs.Common.{◌≡◌, ◌++◌, take}
use Rattle.std.specs.List.{flat_map}
use Rattle.sg_trace.specs.Trace.{piece_line}
use Rattle.sg_trace.proofs.trace.append_pieces.Given as goal

-- the lines so far have been written
abbrev pub invariant-loop-piece : goal.invariant-loop-piece
invariant-loop-piece l = l.out.items ≡ l.initial.out.items ++ flat_map piece_line (take l.piece-index l.pieces)
