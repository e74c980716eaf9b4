use Rattle.std.proofs.Common.{◌≡◌, length, slice_set, sym, ap, ◌∙◌, arith}
use Rattle.sg_actor.specs.State.{Mutating}
use Rattle.sg_actor.proofs.Setters.{tells}
use Rattle.sg_actor.proofs.mutator.Mutator.tell.Goals as goal

pub returns : goal.returns
returns c =
    let sixteen : length c.args.self.now.registers ≡ 16 = ap (λ (m : Mutating). length m.registers) (sym c.self.view_is) ∙ c.self.told.0 in
    tells c.args.self.now _ c.say.new.self c.args.d c.args.word c.args.answer
    (ap (λ (m : Mutating). record m { registers = slice_set m.registers c.args.d c.args.word }) c.self.view_is) (omega (arith, c.requires.d)) c.say.ensures
