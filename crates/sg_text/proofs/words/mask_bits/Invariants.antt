use Rattle.std.proofs.Common.{◌≡◌, ◌<◌, ◌^◌, ◌-◌, ◌≤◌, length, drop}
use Rattle.sg_text.specs.Words.{mask_bits}
use Rattle.sg_text.proofs.words.mask_bits.Given as goal

abbrev pub invariant-loop-at : goal.invariant-loop-at
invariant-loop-at l = record { value : l.bits ≡ mask_bits (drop l.at l.mask); small : l.bits < 2 ^ (length l.mask - l.at); within : l.at ≤ length l.mask }

abbrev pub decreases-loop-at : goal.decreases-loop-at
decreases-loop-at l = l.at
