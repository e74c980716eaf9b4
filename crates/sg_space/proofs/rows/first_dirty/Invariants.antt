-- Each card that was looked at is clean.
use Rattle.std.proofs.Common.{◌≡◌, ℕ, ◌<◌, ◌≤◌, get_or}
use Rattle.sg_space.proofs.rows.first_dirty.Given as goal

abbrev pub invariant-loop-card : goal.invariant-loop-card
invariant-loop-card l = (c : ℕ) → l.from ≤ c → c < l.card → get_or l.cards c 0 ≡ 0
