-- What was told is exactly what begins in the nursery below the word that the walk reached, and ends there.
use Rattle.std.proofs.Common.{◌-◌, ◌≤◌, length}
use Rattle.sg_words.specs.Sections.{nursery_base}
use Rattle.sg_space.specs.Standing.{IsClearAt}
use Rattle.sg_space.proofs.Told.{HasTold}
use Rattle.sg_space.proofs.space.Space.walk_nursery.Given as goal

abbrev pub invariant-loop-x : goal.invariant-loop-x
invariant-loop-x l = record {
  clear : IsClearAt l.self l.x;
  told : HasTold l.self l.x l.told.items;
  above : nursery_base ≤ l.x;
  below : l.x ≤ l.end;
  fragment : l.fragment ≤ length l.self.ends;
}

abbrev pub decreases-loop-x : goal.decreases-loop-x
decreases-loop-x l = l.end - l.x
