use Rattle.std.proofs.Common.{◌≡◌, ◌+◌, ◌++◌, ◌∷◌, [], ℕ, List, Some, length, take, slice_get, get_or, sym, refl, subst}
use Rattle.std.proofs.lemmas.List.{take_more}
use Rattle.std.proofs.lemmas.Option.{slice_get_read, slice_get_within, slice_get-get_or}
use Rattle.sg_words.specs.Lists.{Pairwise}
use Rattle.sg_graph.specs.declared.reports.Part.{Part}
use Rattle.sg_world.specs.Telling.{TellsAt}
use Rattle.sg_world.proofs.Lists.{pairwise_push}
use Rattle.sg_world.proofs.reports.epoch_report.Goals as goal

pub loop-k-preserved : goal.loop-k-preserved
loop-k-preserved c =
    let ms = c.args.mutators.now in
    let ran : List ℕ = c.args.ran.now in
    let i = c.loop-k.k-index in
    let k : ℕ = get_or ran i 0 in
    let m = c.index-mutators-k.result in
    let left = c.requires i k (slice_get-get_or ran i 0 c.loop-k-test.true) in
    let at : slice_get ms k ≡ Some m = slice_get_read ms (length ms) k m refl (slice_get_within ms k left.0 left.1) c.index-mutators-k.is in
    let parts : List Part = c.loop-k.parts.items in
    subst (λ (ps : List Part). Pairwise (TellsAt ms) (take (i + 1) ran) ps) (sym c.in_ok-push.ensures.items)
    (subst (λ (ks : List ℕ). Pairwise (TellsAt ms) ks (parts ++ c.in_ok-part.part ∷ [])) (sym (take_more ran i 0 c.loop-k-test.true))
    (pairwise_push (TellsAt ms) (take i ran) parts k c.in_ok-part.part c.loop-k.invariant (m, at, c.in_ok-part.ensures)))
