use Rattle.std.proofs.Common.{ℕ, ◌≤◌, ◌<◌, length, take, slice_index_or}
use Rattle.sg_words.specs.Sections.{nursery_base, old_base}
use Rattle.sg_space.specs.declared.objects.Object.{Object}
use Rattle.sg_space.specs.Space.{IsContents}
use Rattle.sg_space.specs.Standing.{word}
use Rattle.sg_space.specs.Changes.{IsStill}
use Rattle.sg_nursery.specs.Pieces.{first_word}
use Rattle.sg_nursery.specs.Parts.{AreCleaned, blank}
use Rattle.sg_nursery.proofs.sweep.clean.Given as goal

abbrev pub invariant-loop-object : goal.invariant-loop-object
invariant-loop-object l = record {
  contents : IsContents l.space;
  from : nursery_base ≤ l.run.from;
  order : l.run.from ≤ l.run.to;
  within : l.run.to ≤ old_base l.space.layout;
  below : (k : ℕ) (d : Object) → l.object-index ≤ k → k < length l.told → l.run.to ≤ first_word (slice_index_or l.told k d);
  cleaned : AreCleaned (take l.object-index l.told) (word l.fn.space) (blank l.run.from l.run.to (word l.space));
  still : IsStill l.fn.space l.space;
}
