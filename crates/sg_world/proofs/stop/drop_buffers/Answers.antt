use Rattle.sg_actor.specs.State.{DropsBuffer}
use Rattle.sg_world.proofs.Lists.{pairwise_more, rest_more}
use Rattle.sg_world.proofs.stop.drop_buffers.Goals as goal
use Rattle.std.proofs.Common.{◌≡◌, ◌<◌, length, arith}

pub loop-k-preserved : goal.loop-k-preserved
loop-k-preserved c =
    let old = c.args.mutators.now in
    let cur = c.loop-k.mutators in
    let same : length cur ≡ length old = c.loop-k.auto.mutators in
    let there : c.loop-k.k < length cur = let l = c.loop-k-test.true in omega arith in
    record {
      front = pairwise_more old cur c.loop-k.k c.drop_buffer.new.self c.index-mutators-k.result there same c.loop-k.invariant.rest DropsBuffer
          c.loop-k.invariant.front c.drop_buffer.ensures;
      rest = rest_more old cur c.loop-k.k c.drop_buffer.new.self c.index-mutators-k.result there same c.loop-k.invariant.rest;
    }
