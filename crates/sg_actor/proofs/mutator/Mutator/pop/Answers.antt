use Rattle.std.proofs.Common.{sym, ap, ◌∙◌}
use Rattle.sg_actor.specs.State.{Mutating}
use Rattle.sg_actor.proofs.Setters.{pops}
use Rattle.sg_actor.proofs.mutator.Mutator.pop.Goals as goal

pub returns : goal.returns
returns c =
    pops c.args.self.now _ c.tell_inner.new.self c.args.r c.in-Some.top c.pop.new.self.items
    (ap (λ (m : Mutating). record m { stack = c.pop.new.self.items }) c.self.view_is)
    (ap (λ (m : Mutating). m.stack) (sym c.self.view_is) ∙ c.in-Some.ensures.items) c.tell_inner.ensures
