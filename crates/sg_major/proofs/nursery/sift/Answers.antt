use Rattle.std.proofs.Common.{sym}
use Rattle.sg_space.specs.Standing.{word}
use Rattle.sg_space.specs.Changes.{still_on, contents_still}
use Rattle.sg_major.proofs.Sifting.{sifted_next}
use Rattle.sg_major.proofs.nursery.sift.Goals as goal

pub sift_one-requires-clause-some : goal.sift_one-requires-clause-some
sift_one-requires-clause-some c = (c.requires.standing.each c.object-item.result (c.loop-object.object-index, c.loop-object-test.true, sym c.object-item.is)).0

pub loop-object-preserved : goal.loop-object-preserved
loop-object-preserved c = record {
  contents = contents_still c.loop-object.space c.sift_one.new.space c.sift_one.ensures.still c.loop-object.invariant.contents;
  sifted = sifted_next c.args.space.now.layout c.args.told.now c.loop-object.object-index c.object-item.result (word c.args.space.now) (word c.loop-object.space)
      (word c.sift_one.new.space) c.requires.standing c.loop-object-test.true c.object-item.is c.loop-object.invariant.sifted c.sift_one.ensures.sifted;
  still = still_on c.args.space.now c.loop-object.space c.sift_one.new.space c.loop-object.invariant.still c.sift_one.ensures.still;
}
