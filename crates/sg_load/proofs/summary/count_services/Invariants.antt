use Rattle.std.proofs.Common.{◌≡◌, take}
use Rattle.sg_load.specs.Summary.{answers_in_services, counted, IsLow}
use Rattle.sg_load.proofs.summary.count_services.Given as goal

-- those of the served so far are counted
abbrev pub invariant-loop-service : goal.invariant-loop-service
invariant-loop-service l = (l.so_far ≡ counted l.fn.tally (answers_in_services l.k (take l.service-index l.served))) × IsLow l.so_far
