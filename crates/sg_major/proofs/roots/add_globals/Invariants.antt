use Rattle.sg_major.specs.Parts.{AddsThose, HoldsAt}
use Rattle.sg_major.proofs.Rooting.{SortBelow}
use Rattle.sg_major.proofs.roots.add_globals.Given as goal

abbrev pub invariant-loop-x : goal.invariant-loop-x
invariant-loop-x l = AddsThose (SortBelow (λ x. HoldsAt l.space x) l.x) l.fn.roots.items l.roots.items
