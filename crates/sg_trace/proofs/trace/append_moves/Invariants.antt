use Rattle.std.proofs.Common.{◌≡◌, ◌++◌, take}
use Rattle.std.specs.List.{flat_map}
use Rattle.sg_trace.specs.Trace.{move_line}
use Rattle.sg_trace.proofs.trace.append_moves.Given as goal

-- the lines so far have been written
abbrev pub invariant-loop-moved : goal.invariant-loop-moved
invariant-loop-moved l = l.out.items ≡ l.initial.out.items ++ flat_map move_line (take l.moved-index l.moves)
