use Rattle.std.proofs.Common.{ℕ, Option, slice_index}
use Rattle.sg_space.specs.Standing.{IsSoundBy}
use Rattle.sg_major.specs.Parts.{AddsThose, IsPointedBehind}
use Rattle.sg_major.proofs.Rooting.{SortBelow}
use Rattle.sg_major.proofs.roots.add_pointed.Given as goal

abbrev pub invariant-loop-v : goal.invariant-loop-v
invariant-loop-v l = (owner : ℕ → Option ℕ) → IsSoundBy l.space owner →
    AddsThose (SortBelow (λ k. IsPointedBehind l.space owner (slice_index l.words k)) l.v-index) l.fn.roots.items l.roots.items
