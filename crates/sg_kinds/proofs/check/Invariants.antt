use Rattle.std.proofs.Common.{◌≡◌, ℕ, ◌<◌, Some, slice_get}
use Rattle.sg_program.specs.declared.program.Script.{Script}
use Rattle.sg_program.specs.Kinds.{HasNoMisuse}
use Rattle.sg_kinds.proofs.check.Given as goal

abbrev pub invariant-loop-k : goal.invariant-loop-k
invariant-loop-k l = (j : ℕ) (other : Script) → j < l.k → slice_get l.p.mutators j ≡ Some other → HasNoMisuse other.items
