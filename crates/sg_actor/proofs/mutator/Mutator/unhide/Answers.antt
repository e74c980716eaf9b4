use Rattle.std.proofs.Common.{◌≡◌, ◌≢◌, ◌-◌, inl, inr, sym, ap, ◌∙◌, subst}
use Rattle.sg_words.specs.Address.{IsAddress}
use Rattle.sg_words.specs.Words.{put}
use Rattle.sg_program.specs.declared.program.Statement.TheVariants.{Unhide}
use Rattle.sg_program.specs.Invariants.{IsWithinLimits}
use Rattle.sg_rules.specs.Rules.{over, reference_answer, unhidden}
use Rattle.sg_rules.specs.Rules.Comes.{unhide_sets}
use Rattle.sg_actor.specs.declared.mutator.Stage.TheVariants.{Between}
use Rattle.sg_actor.specs.State.{Mutating, actor_of}
use Rattle.sg_actor.proofs.Facts.{is_address, unhidden_none, unhidden_some}
use Rattle.sg_actor.proofs.Setters.{becomes_as, decides_by}
use Rattle.sg_actor.proofs.mutator.Mutator.unhide.Goals.{then-word-eq0, else-word-eq0}
use Rattle.sg_actor.proofs.mutator.Mutator.unhide.Goals as goal

pub reference-requires : goal.reference-requires
reference-requires c = elim c.if-word-eq0.branch [
  | then-word-eq0 w ↦ inl w.object-is
  | else-word-eq0 w ↦
      let m = c.args.self.now in
      let a = actor_of m in
      let limits = subst (λ (m : Mutating). IsWithinLimits m.program) c.self.view_is c.self.invariant.limits in
      let some : a.reg c.args.s ≢ 0 = λ z. w.if-word-eq0.false (c.held-word.ensures ∙ z) in
      let is : c.if-word-eq0.object ≡ a.reg c.args.s - a.offset c.args.s = w.object-is ∙ ap (λ x. x - w.beside.result) c.held-word.ensures ∙ ap (λ x. a.reg c.args.s - x) w.beside.ensures in
      inr (subst IsAddress (sym is) (is_address m.program (a.reg c.args.s - a.offset c.args.s) limits.settings (c.requires.may.rests some).1))
]

pub returns : goal.returns
returns c =
    let m = c.args.self.now in
    let a = actor_of m in
    let object = c.if-word-eq0.object in
    let is : object ≡ unhidden a c.args.s = elim c.if-word-eq0.branch [
      | then-word-eq0 w ↦ w.object-is ∙ unhidden_none a c.args.s _ c.held-word.ensures w.if-word-eq0.true
      | else-word-eq0 w ↦ w.object-is ∙ unhidden_some a c.args.s _ _ c.held-word.ensures w.beside.ensures w.if-word-eq0.false
    ] in
    decides_by m c.tell.new.self (Unhide c.args.d c.args.s) _
    (becomes_as m c.tell.new.self _ _ Between
    (ap (λ x. over a m.script (put a.reg c.args.d object) x) c.reference.ensures ∙ ap (λ x. over a m.script (put a.reg c.args.d x) (reference_answer x)) is) c.tell.ensures)
    (λ lay. unhide_sets a m.script c.args.d c.args.s)
