use Rattle.sg_major.proofs.Bits.{all_ones}
use Rattle.sg_major.proofs.counts.bits.Goals as goal

pub returns-clause-count : goal.returns-clause-count
returns-clause-count c = all_ones c.args.mask c.ranges.mask.fits
