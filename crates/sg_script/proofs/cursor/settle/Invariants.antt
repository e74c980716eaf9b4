use Rattle.std.proofs.Common.{◌≡◌, ◌+◌, ◌≤◌, cond, false, vec_capacity}
use Rattle.sg_script.specs.Left.{left, AreNested, Stands, cost}
use Rattle.sg_script.proofs.cursor.settle.Given as goal

abbrev pub invariant-loop-more : goal.invariant-loop-more
invariant-loop-more l = record {
  left : left l.frames.items ≡ left l.fn.frames.items;
  nested : AreNested 0 l.frames.items;
  room : 5 ≤ vec_capacity l.frames;
  stands : l.more ≡ false → Stands l.frames.items;
}

abbrev pub decreases-loop-more : goal.decreases-loop-more
decreases-loop-more l = cost l.frames.items + cond l.more 1 0
