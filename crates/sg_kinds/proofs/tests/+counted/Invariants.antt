use Rattle.std.proofs.Common.{◌≡◌, ◌+◌, ◌*◌, ◌≤◌, length, take}
use Rattle.std.specs.List.{AllByRecursion}
use Rattle.sg_program.specs.Scripts.{written}
use Rattle.sg_program.specs.Invariants.{HasOperands}
use Rattle.sg_kinds.proofs.Depths.{depth, depths}
use Rattle.sg_kinds.proofs.tests.+counted.Given as goal

abbrev pub invariant-count-loop-item : goal.invariant-count-loop-item
invariant-count-loop-item l =
    (l.total ≡ length (written (take l.item-index l.items))) × (l.total ≤ 1000) × AllByRecursion HasOperands (written (take l.item-index l.items))

abbrev pub decreases-count : goal.decreases-count
decreases-count l = 2 * depths l.items.now + 1

abbrev pub decreases-count_one : goal.decreases-count_one
decreases-count_one l = 2 * depth l.item.now
