-- Each block that was looked at may be swept.
use Rattle.std.proofs.Common.{ℕ, ◌<◌}
use Rattle.sg_space.specs.Standing.{block_in}
use Rattle.sg_finish.specs.Finishing.{IsSweepable}
use Rattle.sg_finish.proofs.tests.are_sweepable.Given as goal

abbrev pub invariant-loop-block : goal.invariant-loop-block
invariant-loop-block l = (c : ℕ) → c < l.block → IsSweepable (block_in l.space c)
