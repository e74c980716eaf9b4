use Rattle.std.proofs.Common.{refl}
use Rattle.std.proofs.lemmas.Bool.{false≢true}
use Rattle.sg_kinds.proofs.Tables.{same, depths, registers_agree, places_agree}
use Rattle.sg_kinds.proofs.table.Table.is_same.Goals as goal

pub returns-then-self-other : goal.returns-then-self-other
returns-then-self-other c =
    let a = c.args.self.now in
    let b = c.args.other.now in
    (λ h. absurd (false≢true h), λ h. absurd (c.if-self-other.true (depths a.registers b.registers a.stack b.stack a.depth b.depth h)))

pub returns-then-not-agree : goal.returns-then-not-agree
returns-then-not-agree c =
    let a = c.args.self.now in
    let b = c.args.other.now in
    (λ h. absurd (false≢true h), λ h. c.if-not-agree.ensures.1 (registers_agree a.registers b.registers a.stack b.stack a.depth b.depth h))

pub returns : goal.returns
returns c =
    let a = c.args.self.now in
    let b = c.args.other.now in (
      λ h. same a.registers b.registers a.stack b.stack a.depth b.depth c.if-self-other.false (c.if-not-agree.ensures.0 refl) (c.agree-2.ensures.0 h),
      λ h. c.agree-2.ensures.1 (places_agree a.registers b.registers a.stack b.stack a.depth b.depth h),
    )
