use Rattle.std.proofs.Common.{◌≡◌, take, drop}
use Rattle.sg_words.specs.Lists.{Pairwise}
use Rattle.sg_actor.specs.State.{DropsBuffer}
use Rattle.sg_world.proofs.stop.drop_buffers.Given as goal

-- those so far have none, and the rest is as it was
abbrev pub invariant-loop-k : goal.invariant-loop-k
invariant-loop-k l = record {
  front : Pairwise DropsBuffer (take l.k l.fn.mutators) (take l.k l.mutators);
  rest : drop l.k l.mutators ≡ drop l.k l.fn.mutators;
}
