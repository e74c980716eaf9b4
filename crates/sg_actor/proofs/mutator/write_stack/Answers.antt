use Rattle.std.proofs.Common.{◌≡◌, ◌+◌, ◌-◌, ◌<◌, ◌++◌, length, take, get_or, ap, ◌∙◌, arith}
use Rattle.std.proofs.Math.ListN.{length-set}
use Rattle.std.proofs.lemmas.List.{take_all}
use Rattle.sg_actor.specs.declared.mutator.Held.{Held}
use Rattle.sg_actor.specs.State.{words_down}
use Rattle.sg_actor.proofs.Stacks.{length_of_down, down_more}
use Rattle.sg_actor.proofs.mutator.write_stack.Goals as goal

pub loop-i-preserved : goal.loop-i-preserved
loop-i-preserved c =
    let at = c.loop-i in
    let stack = c.args.stack.now in
    let none : Held = record { word = 0; offset = 0 } in
    let room : 16 + at.i < length at.into = omega (arith, at.invariant.room, c.loop-i-test.true, c.requires) in
    record {
      room = length-set at.into (16 + at.i) (get_or stack (length stack - 1 - at.i) none).word ∙ at.invariant.room;
      so = down_more stack (take 16 c.args.into.now) at.into at.i none at.invariant.so room c.loop-i-test.true;
    }

pub returns : goal.returns
returns c =
    let at = c.loop-i in
    let stack = c.args.stack.now in
    let all : length stack ≡ at.i = omega (arith, c.loop-i-test.false, at.auto.i-end) in
    ap (λ n. take (16 + n) at.into) all ∙ at.invariant.so ∙ ap (λ ys. take 16 c.args.into.now ++ ys) (take_all at.i (words_down stack) (omega (arith, length_of_down stack)))
