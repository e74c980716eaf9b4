use Rattle.std.proofs.Common.{◌≡◌, ◌++◌, take}
use Rattle.std.specs.List.{flat_map}
use Rattle.sg_trace.specs.Trace.{pin_line}
use Rattle.sg_trace.proofs.trace.append_pins.Given as goal

-- the lines so far have been written
abbrev pub invariant-loop-pin : goal.invariant-loop-pin
invariant-loop-pin l = l.out.items ≡ l.initial.out.items ++ flat_map pin_line (take l.pin-index l.pins)
