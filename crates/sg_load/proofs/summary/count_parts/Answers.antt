use Rattle.std.proofs.Common.{◌≡◌, length, sym, ap, ◌∙◌, arith}
use Rattle.sg_load.specs.Summary.{answers_in_part}
use Rattle.sg_load.proofs.Counting.{answers_of_part, room_for}
use Rattle.sg_load.proofs.summary.count_parts.Goals as goal

pub count-so_far-requires-clause-few : goal.count-so_far-requires-clause-few
count-so_far-requires-clause-few c =
    let own : c.part-item.result.mutator ≡ c.args.k = sym c.from.ensures ∙ c.if-from-k.true in
    let few = room_for (answers_in_part c.args.k) c.args.tally c.loop-part.so_far c.args.parts.now c.loop-part.part-index c.part-item.result c.part-item.result.answers c.loop-part.invariant.0 c.loop-part-test.true
    c.part-item.is (answers_of_part c.args.k c.part-item.result own) c.requires.few in
    let long = ap length c.as_slice.ensures in
    omega (arith, few, long)
