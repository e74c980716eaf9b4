use Rattle.std.proofs.Common.{◌≡◌, ◌<◌, [], ◌∷◌, ◌++◌, length, take, get_or, sym, ap, ◌∙◌, arith}
use Rattle.std.proofs.Math.ListN.{length-set}
use Rattle.std.proofs.lemmas.List.{take_more_set, take_more, take_all}
use Rattle.sg_actor.proofs.mutator.write_registers.Goals as goal

pub loop-r-preserved : goal.loop-r-preserved
loop-r-preserved c =
    let at = c.loop-r in
    let word = get_or c.args.registers.now at.r 0 in
    let inside : at.r < length at.into = omega (arith, at.invariant.room, c.loop-r-test.true) in
    let there : at.r < length c.args.registers.now = omega (arith, c.told-registers, c.loop-r-test.true) in
    record {
      room = length-set at.into at.r word ∙ at.invariant.room;
      so = take_more_set at.into at.r word inside ∙ ap (λ ys. ys ++ word ∷ []) at.invariant.so ∙ sym (take_more c.args.registers.now at.r 0 there);
    }

pub returns-clause-written : goal.returns-clause-written
returns-clause-written c =
    let at = c.loop-r in
    let all : 16 ≡ at.r = omega (arith, c.loop-r-test.false, at.auto.r-end) in
    ap (λ n. take n at.into) all ∙ at.invariant.so ∙ take_all at.r c.args.registers.now (omega (arith, c.told-registers))
