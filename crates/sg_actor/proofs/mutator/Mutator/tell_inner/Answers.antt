use Rattle.std.proofs.Common.{◌≡◌, length, slice_set, sym, ap, ◌∙◌, arith}
use Rattle.sg_actor.specs.State.{Mutating}
use Rattle.sg_actor.proofs.Setters.{tells_inner}
use Rattle.sg_actor.proofs.mutator.Mutator.tell_inner.Goals as goal

pub returns : goal.returns
returns c =
    let sixteen : length c.args.self.now.offsets ≡ 16 = ap (λ (m : Mutating). length m.offsets) (sym c.self.view_is) ∙ c.self.told.1 in
    tells_inner c.args.self.now _ c.tell.new.self c.args.d c.args.word c.args.offset c.args.answer
    (ap (λ (m : Mutating). record m { offsets = slice_set m.offsets c.args.d c.args.offset }) c.self.view_is) (omega (arith, c.requires.d)) c.tell.ensures
