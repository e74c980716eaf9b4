-- Each card that was looked at is clean.
use Rattle.std.proofs.Common.{◌≡◌, ℕ, ◌<◌, ◌≤◌, get_or}
use Rattle.sg_space.proofs.rows.last_dirty.Given as goal

abbrev pub invariant-loop-card : goal.invariant-loop-card
invariant-loop-card l = (c : ℕ) → l.card ≤ c → c < l.to → get_or l.cards c 0 ≡ 0
