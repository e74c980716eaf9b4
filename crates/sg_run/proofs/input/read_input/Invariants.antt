use Rattle.std.proofs.Common.{◌-◌, ◌≤◌, length}
use Rattle.std.specs.Io.KnownBytes.{Consumes}
use Rattle.sg_run.proofs.input.read_input.Given as goal

-- the bytes left the source, and its count of faults didn't fall
abbrev pub invariant-loop-piece : goal.invariant-loop-piece
invariant-loop-piece g l = record {
  read : Consumes (g.S.Source.left l.initial.source) (g.S.Source.left l.source) l.bytes.items;
  counted : g.S.Source.faults l.initial.source ≤ g.S.Source.faults l.source;
}

-- each turn takes a byte, ends or fails
abbrev pub decreases-loop-piece : goal.decreases-loop-piece
decreases-loop-piece g l = 1048577 - length l.bytes.items
