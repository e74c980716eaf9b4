use Rattle.std.proofs.Common.{ℕ, ◌-◌, ◌<◌, ◌≤◌, length, drop}
use Rattle.sg_words.specs.Schedule.{Schedule, Gives}
use Rattle.sg_cells.specs.Ended.{HasEnded}
use Rattle.sg_cells.proofs.schedule.ScheduleDriver.next_actor.Given as goal

-- the place is in the list, and what is given from here on is given
abbrev pub invariant-loop-self : goal.invariant-loop-self
invariant-loop-self l = (l.self-inside.at ≤ length l.self-inside.turns.items) × (l.self-inside.next < 17)
    × ((k : ℕ) (t : Schedule) → Gives l.actors (HasEnded l.ended) (record { left = drop l.self-inside.at l.self-inside.turns.items; next = l.self-inside.next }) k t → Gives l.actors (HasEnded l.ended) l.fn.self k t)

abbrev pub decreases-loop-self : goal.decreases-loop-self
decreases-loop-self l = length l.self-inside.turns.items - l.self-inside.at
