-- No object below the word that the walk reached ends above it, and the object with the word that is looked for is ahead.
use Rattle.std.proofs.Common.{◌+◌, ◌-◌, ◌≤◌}
use Rattle.sg_words.specs.Sections.{nursery_base}
use Rattle.sg_space.specs.Standing.{IsClearAt}
use Rattle.sg_space.proofs.Reached.{IsAhead}
use Rattle.sg_space.proofs.space.Space.find.Given as goal

abbrev pub invariant-loop-x : goal.invariant-loop-x
invariant-loop-x l = record {
  clear : IsClearAt l.self l.x;
  ahead : IsAhead l.self l.word l.x;
  above : nursery_base ≤ l.x;
}

abbrev pub decreases-loop-x : goal.decreases-loop-x
decreases-loop-x l = l.word + 1 - l.x
