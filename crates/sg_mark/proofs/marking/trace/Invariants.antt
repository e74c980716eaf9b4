-- The objects of the list before this one were scanned.
use Rattle.std.proofs.Common.{◌≡◌, ◌-◌, ◌≤◌, ℕ, Bool, Option, List, length, vec_capacity}
use Rattle.sg_space.specs.Space.{Contents}
use Rattle.sg_mark.specs.Gray.{most_objects, IsTraced, IsTracedTo}
use Rattle.sg_mark.proofs.marking.trace.Given as goal

abbrev pub invariant-loop-next : goal.invariant-loop-next
invariant-loop-next l = record {
  room : vec_capacity l.gray ≡ vec_capacity l.fn.gray;
  layout : l.space.layout ≡ l.fn.space.layout;
  within : l.next ≤ length l.gray.items;
  few : length l.gray.items ≤ most_objects l.fn.space.layout;
  traced : (t : Contents) (owner : ℕ → Option ℕ) (marked : ℕ → Bool) (roots : List ℕ) → IsTraced t owner marked roots l.fn.space l.fn.gray.items →
      IsTracedTo t owner marked roots l.fn.gray.items l.next l.space l.gray.items;
}

abbrev pub decreases-loop-next : goal.decreases-loop-next
decreases-loop-next l = most_objects l.fn.space.layout - l.next
