-- The roots before this one were visited.
use Rattle.std.proofs.Common.{◌≡◌, ℕ, Bool, Option, vec_capacity}
use Rattle.std.specs.List.{Contains}
use Rattle.sg_space.specs.Space.{Contents}
use Rattle.sg_space.specs.Standing.{IsStanding}
use Rattle.sg_mark.specs.Gray.{IsGray, HasVisitedRoots}
use Rattle.sg_mark.proofs.marking.visit_roots.Given as goal

abbrev pub invariant-loop-root : goal.invariant-loop-root
invariant-loop-root l = record {
  room : vec_capacity l.gray ≡ vec_capacity l.fn.gray;
  layout : l.space.layout ≡ l.fn.space.layout;
  visited : (t : Contents) (owner : ℕ → Option ℕ) (marked : ℕ → Bool) → IsGray t owner marked l.fn.space l.fn.gray.items → ((a : ℕ) → Contains l.roots a → IsStanding owner a) →
      HasVisitedRoots t owner marked l.fn.gray.items l.roots l.root-index l.space l.gray.items;
}
