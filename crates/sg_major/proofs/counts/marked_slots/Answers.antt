use Rattle.std.proofs.Common.{ap, ◌∙◌, arith}
use Rattle.sg_space.specs.Standing.{marks_in}
use Rattle.sg_major.specs.Parts.{bits_below}
use Rattle.sg_major.proofs.Bits.{none_in, one_more}
use Rattle.sg_major.proofs.counts.marked_slots.Goals as goal

pub loop-b-init : goal.loop-b-init
loop-b-init c = record { counted = none_in (marks_in c.args.space.now); few = omega arith }

pub loop-b-preserved : goal.loop-b-preserved
loop-b-preserved c =
    let few = c.bits-count.ensures.few in
    record {
      counted = one_more (marks_in c.args.space.now) c.loop-b.b c.loop-b.count c.bits-count.result c.loop-b.invariant.counted
          (c.bits-count.ensures.count ∙ ap (λ z. bits_below z 64) c.marks.ensures);
      few = omega arith;
    }
