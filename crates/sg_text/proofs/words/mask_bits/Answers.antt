use Rattle.std.proofs.Common.{◌≡◌, ◌-◌, eqb, get_or, length, arith}
use Rattle.sg_text.proofs.WordLemmas.{mask_more, mask_small, mask_fits}
use Rattle.sg_text.proofs.words.mask_bits.Goals as goal

pub loop-at-preserved : goal.loop-at-preserved
loop-at-preserved c = record {
  value = mask_more c.args.mask.now c.loop-at.at c.loop-at.bits c.from.result (omega arith) c.loop-at.invariant.within c.loop-at.invariant.value c.from.ensures;
  small = mask_small (length c.args.mask.now) c.loop-at.at c.loop-at.bits c.from.result (omega arith) c.loop-at.invariant.within (eqb (get_or c.args.mask.now (c.loop-at.at - 1) 0) 114) c.from.ensures c.loop-at.invariant.small;
  within = omega arith;
}

pub returns-clause-small : goal.returns-clause-small
returns-clause-small c =
    let at_zero : length c.args.mask.now - c.loop-at.at ≡ length c.args.mask.now = omega arith in
    mask_fits (length c.args.mask.now) c.loop-at.bits c.requires (rw at_zero at c.loop-at.invariant.small)
