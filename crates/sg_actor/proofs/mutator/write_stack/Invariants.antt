use Rattle.std.proofs.Common.{◌≡◌, ◌+◌, ◌++◌, length, take}
use Rattle.sg_actor.specs.State.{words_down}
use Rattle.sg_actor.proofs.mutator.write_stack.Given as goal

-- so many words of the stack are written
abbrev pub invariant-loop-i : goal.invariant-loop-i
invariant-loop-i l = record { room : length l.into ≡ 80; so : take (16 + l.i) l.into ≡ take 16 l.initial.into ++ take l.i (words_down l.stack) }
