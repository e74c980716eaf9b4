use Rattle.std.proofs.Common.{ℕ, sym, ap, ◌∙◌, subst, slice_set}
use Rattle.sg_space.specs.Space.{Contents}
use Rattle.sg_space.specs.Marks.{with_bit, HasMark, Marks}
use Rattle.sg_space.proofs.Marked.{marks_in_slot}
use Rattle.sg_space.proofs.space.Space.set_marked.Goals as goal

pub slot_of-requires : goal.slot_of-requires
slot_of-requires c = subst (HasMark c.args.self.now) (sym c.word.ensures.value) c.requires

pub returns-in-Some : goal.returns-in-Some
returns-in-Some c =
    let s = c.args.self.now in
    let place = c.in-Some.ensures.place in
    let mask = c.with_bit.ensures ∙ ap (λ (m : ℕ). with_bit c.args.on m c.in-Some.slot) c.marks.ensures in
    let with : ℕ → Contents = λ m. record s { marks = slice_set s.marks c.in-Some.block m } in
    subst (λ (h : ℕ). Marks s h c.args.on c.set_marks.new.self) c.word.ensures.value
    (marks_in_slot s c.word.result c.args.on c.set_marks.new.self c.in-Some.block place.0 c.in-Some.slot place.1 (c.set_marks.ensures ∙ ap with mask))
