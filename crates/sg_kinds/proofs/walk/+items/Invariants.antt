use Rattle.std.proofs.Common.{◌≡◌, ◌+◌, ◌*◌, length, take}
use Rattle.sg_program.specs.Scripts.{written}
use Rattle.sg_program.specs.Kinds.{Leads}
use Rattle.sg_kinds.specs.Table.{kinds_of}
use Rattle.sg_kinds.proofs.Depths.{depth, depths}
use Rattle.sg_kinds.proofs.walk.+items.Given as goal

abbrev pub invariant-walk-loop-item : goal.invariant-walk-loop-item
invariant-walk-loop-item l =
    (l.count ≡ length (written (take l.item-index l.items))) × Leads (kinds_of l.fn.table) (take l.item-index l.items) (kinds_of l.table)

abbrev pub decreases-walk : goal.decreases-walk
decreases-walk l = 2 * depths l.items.now + 1

abbrev pub decreases-pass : goal.decreases-pass
decreases-pass l = 2 * depth l.item.now
