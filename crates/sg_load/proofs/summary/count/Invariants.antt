use Rattle.std.proofs.Common.{◌≡◌, ◌+◌, ◌*◌, ◌^◌, ◌≤◌, take}
use Rattle.std.specs.List.{sum_by}
use Rattle.sg_load.specs.Summary.{number_in}
use Rattle.sg_load.proofs.summary.count.Given as goal

-- the sum with the answers so far, and its bound
abbrev pub invariant-loop-answer : goal.invariant-loop-answer
invariant-loop-answer l = (l.sum ≡ l.fn.tally.sum + sum_by number_in (take l.answer-index l.answers)) × (l.sum ≤ (l.fn.tally.statements + l.answer-index) * 2 ^ 64)
