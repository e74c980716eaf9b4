use Rattle.std.proofs.Common.{◌≡◌, ◌∙◌, Some, length, slice_get, refl, arith}
use Rattle.std.proofs.lemmas.Option.{slice_get_read, slice_get_within}
use Rattle.sg_world.proofs.Held.{held_more, registers_more}
use Rattle.sg_world.proofs.stop.ambiguous.Goals as goal

pub loop-k-preserved : goal.loop-k-preserved
loop-k-preserved c =
    let ms = c.args.mutators.now in
    let k = c.loop-k.k in
    let m = c.index-mutators-k.result in
    let at : slice_get ms k ≡ Some m = slice_get_read ms (length ms) k m refl c.loop-k-test.true c.index-mutators-k.is in
    record {
      words = c.in_ok-add_words.ensures.words ∙ held_more ms k m c.loop-k-test.true c.index-mutators-k.is c.loop-k.words.items c.loop-k.invariant.words;
      registers = registers_more ms k m c.loop-k-test.true c.index-mutators-k.is at c.loop-k.invariant.registers c.in_ok-add_words.ensures.registers;
    }

pub returns-clause-registers : goal.returns-clause-registers
returns-clause-registers c k m e =
    c.loop-k.invariant.registers k m (let l = slice_get_within c.args.mutators.now k m e in let q = c.loop-k-test.false in omega arith) e
