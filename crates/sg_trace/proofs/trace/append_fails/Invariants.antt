use Rattle.std.proofs.Common.{◌≡◌, ◌++◌, take}
use Rattle.std.specs.List.{flat_map}
use Rattle.sg_trace.specs.Trace.{fail_line}
use Rattle.sg_trace.proofs.trace.append_fails.Given as goal

-- the lines so far have been written
abbrev pub invariant-loop-failed : goal.invariant-loop-failed
invariant-loop-failed l = l.out.items ≡ l.initial.out.items ++ flat_map fail_line (take l.failed-index l.fails)
