use Rattle.std.proofs.Common.{◌≡◌, ◌++◌, take}
use Rattle.std.specs.List.{flat_map}
use Rattle.sg_trace.specs.Trace.{service_text}
use Rattle.sg_trace.proofs.trace.append_services.Given as goal

-- the lines so far have been written
abbrev pub invariant-loop-service : goal.invariant-loop-service
invariant-loop-service l = l.out.items ≡ l.initial.out.items ++ flat_map service_text (take l.service-index l.served)
