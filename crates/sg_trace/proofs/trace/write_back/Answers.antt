-- A number has at most 20 digits.
use Rattle.std.proofs.Common.{ℕ, ◌-◌, ◌^◌, ◌<◌, ◌≤◌, length, arith, length-set}
use Rattle.std.specs.Fmt.{decimal}
use Rattle.std.proofs.lemmas.Fmt.{length-decimal-le}
use Rattle.sg_trace.proofs.trace.write_back.Goals as goal

short : (n : ℕ) → n < 2 ^ 64 → length (decimal n) ≤ 20
short n fits = length-decimal-le 20 n (omega arith) (omega (arith, fits)) fits

pub write_digits-requires : goal.write_digits-requires
write_digits-requires c =
    let digits = short c.args.number c.ranges.number.fits in
    let same = length-set c.args.line.now (c.args.end - 1) c.args.byte in
    (omega (arith, digits, c.requires.room), omega (arith, same, c.told-line, c.requires.within))

pub returns-clause-short : goal.returns-clause-short
returns-clause-short c =
    let digits = short c.args.number c.ranges.number.fits in
    omega (arith, digits, c.requires.room, c.write_digits.ensures.start)
