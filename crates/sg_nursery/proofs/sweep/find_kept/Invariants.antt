use Rattle.std.proofs.Common.{take}
use Rattle.sg_space.specs.Standing.{word}
use Rattle.sg_nursery.specs.Parts.{AreKept}
use Rattle.sg_nursery.proofs.Keeping.{IsBetween}
use Rattle.sg_nursery.proofs.sweep.find_kept.Given as goal

abbrev pub invariant-loop-object : goal.invariant-loop-object
invariant-loop-object l = record {
  kept : AreKept l.space.layout (word l.space) (take l.object-index l.told) l.pins l.kept.standing.items l.kept.moves.items l.kept.fails.items;
  between : IsBetween l.told l.pins l.object-index l.index;
}
