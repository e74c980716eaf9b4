use Rattle.std.proofs.Common.{◌≡◌, ℕ, ◌<◌}
use Rattle.sg_program.specs.Scripts.{words_for}
use Rattle.sg_placing.specs.Placing.{LacksWords}
use Rattle.sg_placing.proofs.placing.place.Given as goal

-- no fragment so far has room, and nothing has changed
abbrev pub invariant-loop-fragment : goal.invariant-loop-fragment
invariant-loop-fragment l = record {
  passed : (j : ℕ) → j < l.fragment → LacksWords l.fn.space (words_for l.fn.fields) j;
  same : l.space ≡ l.fn.space;
}
