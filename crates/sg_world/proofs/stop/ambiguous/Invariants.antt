use Rattle.std.proofs.Common.{◌≡◌, ℕ, ◌<◌, true, Some, length, slice_get, take}
use Rattle.sg_actor.specs.State.{Mutating}
use Rattle.sg_world.specs.Telling.{goes}
use Rattle.sg_world.specs.Stopping.{held_in}
use Rattle.sg_world.proofs.stop.ambiguous.Given as goal

-- the words of those so far
abbrev pub invariant-loop-k : goal.invariant-loop-k
invariant-loop-k l = record {
  words : l.words.items ≡ held_in (take l.k l.mutators);
  registers : (j : ℕ) (m : Mutating) → j < l.k → slice_get l.mutators j ≡ Some m → goes m.stage ≡ true → length m.registers ≡ 16;
}
