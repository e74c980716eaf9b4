use Rattle.std.proofs.Common.{◌≡◌, [], ◌∷◌, ◌++◌, ap, ◌∙◌, rules}
use Rattle.sg_actor.specs.declared.mutator.Held.{Held}
use Rattle.sg_actor.specs.State.{Mutating}
use Rattle.sg_actor.proofs.Setters.{pushes}
use Rattle.sg_actor.proofs.mutator.Mutator.push.Goals as goal

pub returns : goal.returns
returns c =
    let m = c.args.self.now in
    let held : Held = record { word = c.held.result; offset = c.beside.result } in
    let items : c.push.new.self.items ≡ c.self.inside.stack.items ++ held ∷ [] = search rules in
    pushes m _ c.say.new.self c.args.r held
    (ap (λ (m : Mutating). record m { stack = c.push.new.self.items }) c.self.view_is ∙ ap (λ xs. record m { stack = xs }) (items ∙ ap (λ (m : Mutating). m.stack ++ held ∷ []) c.self.view_is))
    c.held.ensures c.beside.ensures c.say.ensures
