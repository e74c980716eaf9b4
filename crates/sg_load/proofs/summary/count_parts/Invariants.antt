use Rattle.std.proofs.Common.{◌≡◌, take}
use Rattle.sg_load.specs.Summary.{answers_in_parts, counted, IsLow}
use Rattle.sg_load.proofs.summary.count_parts.Given as goal

-- those of the parts so far are counted
abbrev pub invariant-loop-part : goal.invariant-loop-part
invariant-loop-part l = (l.so_far ≡ counted l.fn.tally (answers_in_parts l.k (take l.part-index l.parts))) × IsLow l.so_far
