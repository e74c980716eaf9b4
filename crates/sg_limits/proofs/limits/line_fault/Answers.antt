use Rattle.std.proofs.Common.{◌<◌, ◌≤◌, length, map, get_or, sym, ◌∙◌, arith}
use Rattle.std.proofs.lemmas.List.{length-map}
use Rattle.sg_text.specs.declared.line.Line.TheVariants.{Head}
use Rattle.sg_text.specs.Reading.{sentence_of}
use Rattle.sg_limits.proofs.Taken.{read_at}
use Rattle.sg_limits.proofs.LineFaults.{one_more, fault_here, few}
use Rattle.sg_limits.proofs.limits.line_fault.Goals as goal

pub below-above-requires-clause-classes : goal.below-above-requires-clause-classes
below-above-requires-clause-classes c =
    let l = length-map c.args.lines.now sentence_of in
    let m : c.loop-index.index ≤ length (map sentence_of c.args.lines.now) = omega arith in
    let few_here = few (map sentence_of c.args.lines.now) c.loop-index.index c.loop-index.above.classes c.loop-index.above.opened c.loop-index.above.ended
    c.loop-index.above.begun m c.loop-index.invariant in
    omega arith

pub below-above-requires-clause-opened : goal.below-above-requires-clause-opened
below-above-requires-clause-opened c =
    let l = length-map c.args.lines.now sentence_of in
    let m : c.loop-index.index ≤ length (map sentence_of c.args.lines.now) = omega arith in
    let few_here = few (map sentence_of c.args.lines.now) c.loop-index.index c.loop-index.above.classes c.loop-index.above.opened c.loop-index.above.ended
    c.loop-index.above.begun m c.loop-index.invariant in
    omega arith

pub below-above-requires-clause-ended : goal.below-above-requires-clause-ended
below-above-requires-clause-ended c =
    let l = length-map c.args.lines.now sentence_of in
    let m : c.loop-index.index ≤ length (map sentence_of c.args.lines.now) = omega arith in
    let few_here = few (map sentence_of c.args.lines.now) c.loop-index.index c.loop-index.above.classes c.loop-index.above.opened c.loop-index.above.ended
    c.loop-index.above.begun m c.loop-index.invariant in
    omega arith

pub below-above-requires-clause-begun : goal.below-above-requires-clause-begun
below-above-requires-clause-begun c =
    let l = length-map c.args.lines.now sentence_of in
    let m : c.loop-index.index ≤ length (map sentence_of c.args.lines.now) = omega arith in
    let few_here = few (map sentence_of c.args.lines.now) c.loop-index.index c.loop-index.above.classes c.loop-index.above.opened c.loop-index.above.ended
    c.loop-index.above.begun m c.loop-index.invariant in
    omega arith

pub returns-in-Some : goal.returns-in-Some
returns-in-Some c = (
  (
    sentence_of (get_or c.args.lines.now c.loop-index.index Head),
    read_at sentence_of c.args.lines.now c.loop-index.index Head
        c.loop-index-test.true,
    sym (fault_here _ _ _ _ _ _ c.loop-index.invariant (sentence_of (get_or c.args.lines.now c.loop-index.index Head)))
        ∙ sym c.fault.ensures ∙ c.in-Some.is,
  ),
  c.loop-index.invariant.none,
)

pub returns : goal.returns
returns c = λ j line below. c.loop-index.invariant.none j line (let l = length-map c.args.lines.now sentence_of in
    let q : j < c.loop-index.index = omega arith in q)

pub loop-index-preserved : goal.loop-index-preserved
loop-index-preserved c = one_more (map sentence_of c.args.lines.now) c.loop-index.index _ _ _ _ _ _ _ _ _ c.loop-index.invariant
    (read_at sentence_of c.args.lines.now c.loop-index.index Head c.loop-index-test.true)
    (sym c.fault.ensures ∙ c.in_default.is) c.below-above.ensures.classes c.below-above.ensures.opened c.below-above.ensures.ended c.below-above.ensures.begun
