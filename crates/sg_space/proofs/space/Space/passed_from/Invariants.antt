-- each block from the first one on to this one is passed over
use Rattle.std.specs.Prelude.{ℕ, ◌≤◌, ◌<◌}
use Rattle.sg_space.specs.Passed.{IsPassedIn}
use Rattle.sg_space.proofs.space.Space.passed_from.Given as goal

abbrev pub invariant-loop-at : goal.invariant-loop-at
invariant-loop-at l = record { passed : (c : ℕ) → l.fn.from ≤ c → c < l.at → IsPassedIn l.fn.self l.fn.size c }
