use Rattle.std.proofs.Common.{◌+◌, sym, subst, arith}
use Rattle.sg_mutate.specs.declared.epochs.Actors.{Actors}
use Rattle.sg_mutate.specs.Going.{AreActorsBelow}
use Rattle.sg_mutate.proofs.Numbered.{one_more, same_ones}
use Rattle.sg_mutate.proofs.epochs.Actors.of.Goals.{then-not-ended, else-not-ended}
use Rattle.sg_mutate.proofs.epochs.Actors.of.Goals as goal

pub loop-k-preserved : goal.loop-k-preserved
loop-k-preserved c =
    let ms = c.args.mutators.now in
    let k = c.loop-k.k in
    let m = c.index-mutators-k.result in
    elim c.if-not-ended.branch [
      | then-not-ended w ↦ subst (λ (a : Actors). AreActorsBelow ms (k + 1) a) (sym w.actors-is)
          (one_more ms k m c.loop-k-test.true c.index-mutators-k.is c.loop-k.actors (let few = c.requires in let l = c.loop-k-test.true in omega arith)
          (λ e. let z = c.ended.ensures.1 e in let y = w.if-not-ended.true in cc) c.loop-k.invariant)
      | else-not-ended w ↦ subst (λ (a : Actors). AreActorsBelow ms (k + 1) a) (sym w.actors-is)
          (same_ones ms k m c.loop-k-test.true c.index-mutators-k.is c.loop-k.actors (c.ended.ensures.0 w.if-not-ended.false) c.loop-k.invariant)
    ]
