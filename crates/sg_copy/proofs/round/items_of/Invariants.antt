use Rattle.std.proofs.Common.{◌≡◌, ◌+◌, ◌≤◌, ◌++◌, length, map, take, vec_capacity}
use Rattle.sg_copy.specs.declared.gray.Gray.TheVariants.{Slot, Whole}
use Rattle.sg_copy.proofs.round.items_of.Given as goal

-- the slots so far are items; there is room for all
abbrev pub invariant-loop-slot : goal.invariant-loop-slot
invariant-loop-slot l = (l.items.items ≡ map (λ x. Slot x) (take l.slot-index l.slots)) × (length l.slots + length l.wholes + l.room ≤ vec_capacity l.items)

-- all slots are, and the objects so far
abbrev pub invariant-loop-whole : goal.invariant-loop-whole
invariant-loop-whole l = (l.items.items ≡ map (λ x. Slot x) l.slots ++ map (λ x. Whole x) (take l.whole-index l.wholes))
    × (length l.slots + length l.wholes + l.room ≤ vec_capacity l.items)
