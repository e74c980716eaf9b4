use Rattle.std.proofs.Common.{◌≡◌, ◌≤◌, ◌*◌}
use Rattle.sg_space.specs.Standing.{marks_in}
use Rattle.sg_major.specs.Parts.{bits_in}
use Rattle.sg_major.proofs.counts.marked_slots.Given as goal

abbrev pub invariant-loop-b : goal.invariant-loop-b
invariant-loop-b l = record {
  counted : l.count ≡ bits_in (marks_in l.space) l.b;
  few : l.count ≤ 64 * l.b;
}
