use Rattle.std.proofs.Common.{◌≡◌, ◌∙◌, Some, length, slice_get, ap, refl}
use Rattle.std.proofs.lemmas.Option.{slice_get_read}
use Rattle.sg_world.proofs.Going.{pushed, skipped}
use Rattle.sg_world.proofs.reports.going.Goals.{then-not-ended+in_ok-push, else-not-ended}
use Rattle.sg_world.proofs.reports.going.Goals as goal

pub loop-k-preserved : goal.loop-k-preserved
loop-k-preserved c =
    let ms = c.args.mutators.now in
    let k = c.loop-k.k in
    let m = c.index-mutators-k.result in
    let at : slice_get ms k ≡ Some m = slice_get_read ms (length ms) k m refl c.loop-k-test.true c.index-mutators-k.is in
    elim c.if-not-ended.branch [
      | then-not-ended+in_ok-push w ↦ ap (λ v. v.items) w.numbers-is ∙ w.in_ok-push.ensures.items
          ∙ pushed ms k m at c.loop-k.numbers.items c.loop-k.invariant c.ended.result c.ended.ensures w.if-not-ended.true
      | else-not-ended w ↦ ap (λ v. v.items) w.numbers-is ∙ skipped ms k m at c.loop-k.numbers.items c.loop-k.invariant c.ended.result c.ended.ensures
          w.if-not-ended.false
    ]
