use Rattle.std.proofs.Common.{length, min, ap, sym, ◌∙◌, arith}
use Rattle.sg_program.specs.Scripts.{written_out, script_of}
use Rattle.sg_actor.proofs.Fresh.{script_is, sound_new, fresh_is}
use Rattle.sg_actor.proofs.mutator.Mutator.new.Goals as goal

pub invariant_of-result : goal.invariant_of-result
invariant_of-result c =
    let p = c.args.program.now in
    let is = script_is p c.args.number c.requires.there c.as_slice.result.now c.as_slice.ensures c.index-as_slice-number.result c.index-as_slice-number.is c.as_slice-2.result.now c.as_slice-2.ensures in
    sound_new p c.args.number c.in_ok-new.field-0 c.in_ok-with_capacity.field-0.items c.in_ok-with_capacity-2.field-0.items _ _ c.script_total.result c.requires.there c.requires.limits (c.in_ok-new.ensures ∙ is)
    c.in_ok-with_capacity.ensures.items c.in_ok-with_capacity-2.ensures.items
    (c.script_total.ensures ∙ ap (λ xs. min (length xs) 18446744073709551615) (ap written_out (sym c.as_slice-2.ensures) ∙ is))
    (omega (arith, c.in_ok-with_capacity-2.ensures.capacity)) (omega (arith, c.in_ok-with_capacity.ensures.capacity))

pub returns-clause-fresh : goal.returns-clause-fresh
returns-clause-fresh c =
    let p = c.args.program.now in
    let is = script_is p c.args.number c.requires.there c.as_slice.result.now c.as_slice.ensures c.index-as_slice-number.result c.index-as_slice-number.is c.as_slice-2.result.now c.as_slice-2.ensures in
    fresh_is p c.args.number 0 c.in_ok-new.field-0 c.in_ok-with_capacity.field-0.items c.in_ok-with_capacity-2.field-0.items (script_of p c.args.number) (c.in_ok-new.ensures ∙ is)
    c.in_ok-with_capacity.ensures.items c.in_ok-with_capacity-2.ensures.items
