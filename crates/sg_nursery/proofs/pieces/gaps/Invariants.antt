use Rattle.std.proofs.Common.{◌≡◌, ◌*◌, ◌/◌}
use Rattle.sg_nursery.proofs.Walk.{IsWalked}
use Rattle.sg_nursery.proofs.pieces.gaps.Given as goal

abbrev pub invariant-loop-object : goal.invariant-loop-object
invariant-loop-object l = record {
  bytes : l.front ≡ 8 * (l.front / 8);
  walked : IsWalked l.layout l.standing l.object-index (l.front / 8) l.pieces.items;
}
