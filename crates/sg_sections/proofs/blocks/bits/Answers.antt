use Rattle.sg_sections.proofs.Bits.{all_ones}
use Rattle.sg_sections.proofs.blocks.bits.Goals as goal

pub returns : goal.returns
returns c = all_ones c.args.mask c.ranges.mask.fits
