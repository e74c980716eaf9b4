use Rattle.std.proofs.Common.{◌≡◌, ℕ, ◌+◌, ◌<◌, ◌≤◌}
use Rattle.sg_space.specs.Standing.{page_in}
use Rattle.sg_los.proofs.pages.run_end.Given as goal

abbrev pub invariant-loop-page : goal.invariant-loop-page
invariant-loop-page l = (j : ℕ) → l.first ≤ j → j < l.page → page_in l.space j ≡ l.first + 1
