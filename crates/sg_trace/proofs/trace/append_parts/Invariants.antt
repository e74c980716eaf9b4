use Rattle.std.proofs.Common.{◌≡◌, ◌++◌, take}
use Rattle.std.specs.List.{flat_map}
use Rattle.sg_trace.specs.Trace.{part_text}
use Rattle.sg_trace.proofs.trace.append_parts.Given as goal

-- the parts so far have been written
abbrev pub invariant-loop-part : goal.invariant-loop-part
invariant-loop-part l = l.out.items ≡ l.initial.out.items ++ flat_map part_text (take l.part-index l.parts)
