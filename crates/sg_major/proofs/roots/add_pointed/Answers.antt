use Rattle.std.proofs.Common.{arith, slice_index, subst, sym, ◌∙◌}
use Rattle.std.proofs.lemmas.List.{get_or_default}
use Rattle.std.proofs.lemmas.List.Elements.{Contains-get_or}
use Rattle.sg_major.specs.Parts.{ArePointedBehind, IsPointedBehind}
use Rattle.sg_major.proofs.Rooting.{SortBelow, below_none, below_more, adds_as}
use Rattle.sg_major.proofs.roots.add_pointed.Goals as goal

pub loop-v-init : goal.loop-v-init
loop-v-init c = λ owner sound. below_none (λ k. IsPointedBehind c.args.space.now owner (slice_index c.args.words.now k)) c.args.roots.now.items

pub loop-v-preserved : goal.loop-v-preserved
loop-v-preserved c = λ owner sound. below_more (λ k. IsPointedBehind c.args.space.now owner (slice_index c.args.words.now k)) c.loop-v.v-index c.args.roots.now.items
    c.loop-v.roots.items c.add_one.new.roots.items (c.loop-v.invariant owner sound) (c.in_ok-add_one.ensures owner sound)

pub returns : goal.returns
returns c = λ owner sound.
    let s = c.args.space.now in
    let words = c.args.words.now in
    adds_as (SortBelow (λ k. IsPointedBehind s owner (slice_index words k)) c.loop-v.v-index) (ArePointedBehind s owner words) c.args.roots.now.items c.loop-v.roots.items
    (λ a q. let l = q.1 in (slice_index words q.0, Contains-get_or words q.0 0 (omega arith), q.2))
    (λ a q. let l = q.1.1 in (q.1.0, omega arith, subst (λ v. IsPointedBehind s owner v a) (sym (get_or_default words q.1.0 0 q.0 l ∙ q.1.2)) q.2))
    (c.loop-v.invariant owner sound)
