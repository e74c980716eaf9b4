use Rattle.std.proofs.Common.{◌≡◌, ℕ, ◌<◌, slice_index_or}
use Rattle.sg_kinds.specs.declared.table.Kind.TheVariants.{Ref}
use Rattle.sg_kinds.proofs.places.agree.Given as goal

abbrev pub invariant-loop-k : goal.invariant-loop-k
invariant-loop-k l = (j : ℕ) → j < l.k → slice_index_or l.xs j Ref ≡ slice_index_or l.ys j Ref
