use Rattle.std.proofs.Common.{◌≡◌, ℕ, ◌+◌, ◌++◌, List, [], ◌∷◌, sym, subst, arith, ◌∙◌}
use Rattle.std.proofs.lemmas.Bool.{false≢true}
use Rattle.std.proofs.lemmas.Grind.{common_steps}
use Rattle.sg_pins.proofs.Merging.{IsMerged, IsStep, merged_hit, merged_miss}
use Rattle.sg_pins.proofs.merge.pointed_into.Goals as goal
use Rattle.sg_pins.proofs.merge.pointed_into.Goals.{then-is_below+in_ok-push, else-is_below}

pub loop-object-preserved : goal.loop-object-preserved
loop-object-preserved c =
    let words = c.args.words.now in
    let objects = c.args.objects.now in
    let i = c.loop-object.object-index in
    let from = c.loop-object.index in
    let o = c.object-item.result in
    let index = c.skip_below-index.result in
    let at : c.get-at.result ≡ o.at = c.get-at.ensures.value in
    let s : IsStep words objects i from index o = record {
      ascending = c.requires.words;
      rises = c.requires.objects;
      there = omega arith;
      is = c.object-item.is;
      within = c.skip_below-index.ensures.within;
      below = λ k a b. let h = c.skip_below-index.ensures.below k a b in omega arith;
      first = λ l. let h = c.skip_below-index.ensures.first l in omega arith;
    } in
    elim c.if-is_below.branch [
      | then-is_below+in_ok-push w ↦
          let hit = c.is_below.ensures.0 w.if-is_below.true in
          let below = hit.1 in
          let items : c.if-is_below.pinned.items ≡ c.loop-object.pinned.items ++ o.at ∷ [] = grind (arith, common_steps) in
          subst (λ (pinned : List ℕ). IsMerged words objects (i + 1) index pinned) (sym items) (merged_hit words objects i from index c.loop-object.pinned.items o c.loop-object.invariant s hit.0 (omega arith))
      | else-is_below w ↦
          let items : c.if-is_below.pinned.items ≡ c.loop-object.pinned.items = grind arith in
          subst (λ (pinned : List ℕ). IsMerged words objects (i + 1) index pinned) (sym items) (merged_miss words objects i from index c.loop-object.pinned.items o c.loop-object.invariant s (λ l u. false≢true (sym w.if-is_below.false ∙ c.is_below.ensures.1 (l, omega arith))))
    ]
