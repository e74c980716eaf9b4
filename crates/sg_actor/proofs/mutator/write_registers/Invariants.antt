use Rattle.std.proofs.Common.{◌≡◌, length, take}
use Rattle.sg_actor.proofs.mutator.write_registers.Given as goal

-- so many registers are written
abbrev pub invariant-loop-r : goal.invariant-loop-r
invariant-loop-r l = record { room : length l.into ≡ 80; so : take l.r l.into ≡ take l.r l.registers }
