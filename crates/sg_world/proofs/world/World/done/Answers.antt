use Rattle.std.proofs.Common.{◌≡◌, ◌↔◌, ◌∙◌, true, List, ap, subst}
use Rattle.sg_actor.specs.State.{Mutating}
use Rattle.sg_world.specs.Telling.{HaveEnded}
use Rattle.sg_world.specs.Worlds.{Worldly}
use Rattle.sg_world.proofs.world.World.done.Goals as goal

pub returns : goal.returns
returns c =
    subst (λ (ms : List Mutating). (c.have_ended.result ≡ true) ↔ HaveEnded ms) (c.as_slice.ensures ∙ ap (λ (w : Worldly). w.mutators) c.self.view_is)
    c.have_ended.ensures
