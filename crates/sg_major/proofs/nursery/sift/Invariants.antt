use Rattle.std.proofs.Common.{take}
use Rattle.sg_space.specs.Space.{IsContents}
use Rattle.sg_space.specs.Standing.{word}
use Rattle.sg_space.specs.Changes.{IsStill}
use Rattle.sg_major.specs.Parts.{AreSifted}
use Rattle.sg_major.proofs.nursery.sift.Given as goal

abbrev pub invariant-loop-object : goal.invariant-loop-object
invariant-loop-object l = record {
  contents : IsContents l.space;
  sifted : AreSifted (take l.object-index l.told) (word l.fn.space) (word l.space);
  still : IsStill l.fn.space l.space;
}
