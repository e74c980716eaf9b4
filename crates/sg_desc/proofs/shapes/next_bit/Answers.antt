use Rattle.std.proofs.Common.{◌==◌, ℕ, ap, arith}
use Rattle.std.proofs.lemmas.Nat.Bits.{bit_at_above}
use Rattle.sg_desc.proofs.Masks.{next_is_set, none_is_passed, none_is_left, rest_fits}
use Rattle.sg_desc.proofs.shapes.next_bit.Goals as goal

pub returns-then-from-ge64-clause-passed : goal.returns-then-from-ge64-clause-passed
returns-then-from-ge64-clause-passed c = λ i from below. ap (λ (b : ℕ). b == 1) (bit_at_above c.args.bits 64 i c.ranges.bits.fits (omega arith))

pub returns-then-rest-eq0-clause-passed : goal.returns-then-rest-eq0-clause-passed
returns-then-rest-eq0-clause-passed c = λ i from below. ap (λ (b : ℕ). b == 1) (none_is_left c.args.bits c.args.from i c.if-rest-eq0.true from)

pub returns-then-next-len-clause-passed : goal.returns-then-next-len-clause-passed
returns-then-next-len-clause-passed c = λ i from below. ap (λ (b : ℕ). b == 1) (none_is_passed c.args.bits c.args.from i (omega arith) (rest_fits c.args.bits c.args.from c.ranges.bits.fits) from below)

pub returns-then-next-len-clause-strong : goal.returns-then-next-len-clause-strong
returns-then-next-len-clause-strong c = λ within. ap (λ (b : ℕ). b == 1) (next_is_set c.args.bits c.args.from (omega arith) (rest_fits c.args.bits c.args.from c.ranges.bits.fits))

pub returns-else-next-len-clause-passed : goal.returns-else-next-len-clause-passed
returns-else-next-len-clause-passed c = λ i from below. ap (λ (b : ℕ). b == 1) (none_is_passed c.args.bits c.args.from i (omega arith) (rest_fits c.args.bits c.args.from c.ranges.bits.fits) from (omega arith))
