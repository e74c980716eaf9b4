use Rattle.std.proofs.Common.{◌≡◌, ℕ, ◌↔◌, true, sym, subst}
use Rattle.std.specs.Int.{bit_at}
use Rattle.sg_space.specs.Marks.{HasMark, IsMarked}
use Rattle.sg_space.proofs.Marked.{marked_in_slot}
use Rattle.sg_space.proofs.space.Space.marked.Goals as goal

pub slot_of-requires : goal.slot_of-requires
slot_of-requires c = subst (HasMark c.args.self.now) (sym c.word.ensures.value) c.requires

pub returns-in-Some : goal.returns-in-Some
returns-in-Some c =
    let place = c.in-Some.ensures.place in
    subst (λ (h : ℕ). (c.has_bit.result ≡ true) ↔ IsMarked c.args.self.now h) c.word.ensures.value
    (marked_in_slot c.args.self.now c.word.result c.in-Some.block place.0 c.in-Some.slot c.has_bit.result place.1
    (subst (λ (m : ℕ). (c.has_bit.result ≡ true) ↔ (bit_at m c.in-Some.slot ≡ 1)) c.marks.ensures c.has_bit.ensures))
