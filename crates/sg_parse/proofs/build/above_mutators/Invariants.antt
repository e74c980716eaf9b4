use Rattle.std.proofs.Common.{◌≡◌, ℕ, ◌<◌, slice_get, Some, map}
use Rattle.sg_text.specs.Lines.{Begins}
use Rattle.sg_text.specs.Reading.{sentence_of}
use Rattle.sg_parse.proofs.build.above_mutators.Given as goal

abbrev pub invariant-loop-at : goal.invariant-loop-at
invariant-loop-at l = (j : ℕ) → j < l.at → ¬ (slice_get (map sentence_of l.lines) j ≡ Some Begins)
