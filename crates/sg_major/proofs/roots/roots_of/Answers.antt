use Rattle.std.proofs.Common.{ℕ, List, subst}
use Rattle.sg_major.specs.Parts.{AddsThose, ArePointedBehind}
use Rattle.sg_major.proofs.Told.{are_roots}
use Rattle.sg_major.proofs.roots.roots_of.Goals as goal

pub pinned_among-requires : goal.pinned_among-requires
pinned_among-requires c = (c.requires.told c.requires.sound.0 c.requires.sound.1).in_order

pub returns : goal.returns
returns c = λ owner sound. are_roots c.args.space.now owner sound c.args.ambiguous.now c.args.told.now (c.requires.told owner sound) c.in_ok-pinned_among.field-0
    c.add_pointed.new.roots.items c.add_globals.new.roots.items c.in_ok-pinned_among.ensures.reached
    (subst (λ (z : List ℕ). AddsThose (ArePointedBehind c.args.space.now owner c.args.ambiguous.now) z c.add_pointed.new.roots.items) c.into_vec-roots.ensures
    (c.in_ok-add_pointed.ensures owner sound))
    c.in_ok-add_globals.ensures
