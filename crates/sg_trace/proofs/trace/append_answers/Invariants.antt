use Rattle.std.proofs.Common.{◌≡◌, ◌+◌, ◌++◌, drop}
use Rattle.sg_trace.specs.Trace.{answer_lines, StartsWith}
use Rattle.sg_trace.proofs.trace.append_answers.Given as goal

-- what is written and the lines to come make up the whole, and what stood before stands at the front
abbrev pub invariant-loop-index : goal.invariant-loop-index
invariant-loop-index l =
    (l.out.items ++ answer_lines l.mutator (l.first + l.index) (drop l.index l.answers) ≡ l.initial.out.items ++ answer_lines l.mutator l.first l.answers)
    × StartsWith l.out.items l.initial.out.items
