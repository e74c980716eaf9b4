use Rattle.std.proofs.Common.{◌≡◌, ℕ, ◌+◌, List, ◌∷◌, [], ◌++◌, take, sym, subst, ◌∙◌}
use Rattle.std.specs.List.{Contains}
use Rattle.std.proofs.lemmas.Bool.{false≢true}
use Rattle.std.proofs.lemmas.List.{get_or_default}
use Rattle.sg_words.specs.declared.pieces.Move.{Move}
use Rattle.sg_space.specs.declared.objects.Object.{Object}
use Rattle.sg_space.specs.Standing.{word}
use Rattle.sg_nursery.specs.declared.sweep.Kept.{Kept}
use Rattle.sg_nursery.specs.Parts.{IsStaying, AreKept}
use Rattle.sg_nursery.proofs.Keeping.{IsBetween, IsMet, between_hit, between_miss, no_pin, no_pin_here, kept_pin, kept_fail, kept_move, kept_dead}
use Rattle.sg_nursery.proofs.sweep.find_kept.Goals.{then-stays+in_ok-push+then-is_next, then-stays+in_ok-push+else-is_next+in_ok-push-2, else-stays+in-Some+in_ok-push-3, else-stays+in_default}
use Rattle.sg_nursery.proofs.sweep.find_kept.Goals as goal

pub stays-requires-clause-class : goal.stays-requires-clause-class
stays-requires-clause-class c = (c.requires.rounded.each c.object-item.result (c.loop-object.object-index, c.loop-object-test.true, sym c.object-item.is)).class

pub loop-object-preserved : goal.loop-object-preserved
loop-object-preserved c =
    let s = c.args.space.now in
    let layout = s.layout in
    let w = word s in
    let told = c.args.told.now in
    let pins = c.args.pins.now in
    let i = c.loop-object.object-index in
    let index = c.loop-object.index in
    let o = c.object-item.result in
    let kept = c.loop-object.invariant.kept in
    let old = c.loop-object.kept in
    let met : IsMet layout w told pins i index o = record {
      rounded = c.requires.rounded;
      pinned = c.requires.pins;
      there = c.loop-object-test.true;
      is = c.object-item.is;
      between = c.loop-object.invariant.between;
    } in
    let as_kept : (k : Kept) → AreKept layout w (take (i + 1) told) pins k.standing.items k.moves.items k.fails.items → c.if-stays.kept ≡ k → AreKept layout w (take (i + 1) told) pins c.if-stays.kept.standing.items c.if-stays.kept.moves.items c.if-stays.kept.fails.items =
    λ k f e. subst (λ (z : Kept). AreKept layout w (take (i + 1) told) pins z.standing.items z.moves.items z.fails.items) (sym e) f in
    elim c.if-stays.branch [
      | then-stays+in_ok-push+then-is_next v ↦
          let stays : IsStaying w o = c.stays.ensures.0 v.if-stays.true in
          let next = v.is_next.ensures.0 v.if-is_next.true in
          let pin : Contains pins o.at = (index, next.0, get_or_default pins index o.at 0 next.0 ∙ next.1) in
          record {
            kept = as_kept _ (subst (λ (z : List Object). AreKept layout w (take (i + 1) told) pins z old.moves.items old.fails.items) (sym v.in_ok-push.ensures.items)
                (kept_pin layout w told pins i index o met old.standing.items old.moves.items old.fails.items kept stays pin)) v.kept-is;
            between = subst (IsBetween told pins (i + 1)) (sym v.index-is) (between_hit layout w told pins i index o met next.0 next.1);
          }
      | then-stays+in_ok-push+else-is_next+in_ok-push-2 v ↦
          let stays : IsStaying w o = c.stays.ensures.0 v.if-stays.true in
          let none = no_pin layout w told pins i index o met (λ l e. false≢true (sym v.if-is_next.false ∙ v.is_next.ensures.1 (l, e))) in
          record {
            kept = as_kept _ (subst (λ (z : List Object). AreKept layout w (take (i + 1) told) pins z old.moves.items v.push-else-is_next.new.self.items) (sym v.in_ok-push.ensures.items)
                (subst (λ (z : List ℕ). AreKept layout w (take (i + 1) told) pins (old.standing.items ++ o ∷ []) old.moves.items z) (sym v.in_ok-push-2.ensures.items)
                (kept_fail layout w told pins i index o met old.standing.items old.moves.items old.fails.items kept stays none))) v.kept-is;
            between = subst (IsBetween told pins (i + 1)) (sym v.index-is) (between_miss layout w told pins i index o met none);
          }
      | else-stays+in-Some+in_ok-push-3 v ↦
          let goes : IsStaying w o → ⊥ = λ e. false≢true (sym v.if-stays.false ∙ c.stays.ensures.1 e) in
          record {
            kept = as_kept _ (subst (λ (z : List Move). AreKept layout w (take (i + 1) told) pins old.standing.items z old.fails.items) (sym v.in_ok-push-3.ensures.items)
                (kept_move layout w told pins i index o met old.standing.items old.moves.items old.fails.items kept v.in-Some.to v.in-Some.ensures.some)) v.kept-is;
            between = subst (IsBetween told pins (i + 1)) (sym v.index-is) (between_miss layout w told pins i index o met (no_pin_here layout w told pins i index o met goes));
          }
      | else-stays+in_default v ↦
          let goes : IsStaying w o → ⊥ = λ e. false≢true (sym v.if-stays.false ∙ c.stays.ensures.1 e) in
          record {
            kept = as_kept _ (kept_dead layout w told pins i index o met old.standing.items old.moves.items old.fails.items kept goes v.in_default.ensures.none) v.kept-is;
            between = subst (IsBetween told pins (i + 1)) (sym v.index-is) (between_miss layout w told pins i index o met (no_pin_here layout w told pins i index o met goes));
          }
    ]
