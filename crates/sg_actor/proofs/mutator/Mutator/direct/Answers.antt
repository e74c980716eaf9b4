use Rattle.std.proofs.Common.{◌≡◌, ◌==◌, if◌then◌else◌, sym, ap, ◌∙◌, subst}
use Rattle.sg_words.specs.Words.{put}
use Rattle.sg_program.specs.declared.program.Statement.{Statement}
use Rattle.sg_program.specs.declared.program.Statement.TheVariants.{Num, Move, Drop, Same}
use Rattle.sg_program.specs.declared.answers.Answer.TheVariants.{Fine, Yes, No}
use Rattle.sg_rules.specs.Rules.{over, over_with}
use Rattle.sg_rules.specs.Rules.Comes.{num_sets, move_sets, drop_clears, same_tells}
use Rattle.sg_actor.specs.declared.mutator.Stage.TheVariants.{Between}
use Rattle.sg_actor.specs.State.{actor_of}
use Rattle.sg_actor.specs.Turning.{Decides}
use Rattle.sg_actor.proofs.Facts.{same_words, other_words}
use Rattle.sg_actor.proofs.Setters.{becomes_as, decides_by}
use Rattle.sg_actor.proofs.mutator.Mutator.direct.Goals.{then-same, else-same}
use Rattle.sg_actor.proofs.mutator.Mutator.direct.Goals as goal

pub returns-in-Num : goal.returns-in-Num
returns-in-Num c =
    let m = c.args.self.now in
    subst (λ (s : Statement). Decides m s c.tell.new.self) (sym c.in-Num.is)
    (decides_by m c.tell.new.self (Num c.in-Num.d c.in-Num.n) _ c.tell.ensures (λ lay. num_sets (actor_of m) m.script c.in-Num.d c.in-Num.n))

pub returns-in-Move : goal.returns-in-Move
returns-in-Move c =
    let m = c.args.self.now in
    let a = actor_of m in
    let d = c.in-Move.d in
    let s = c.in-Move.s in
    subst (λ (s : Statement). Decides m s c.tell_inner.new.self) (sym c.in-Move.is)
    (decides_by m c.tell_inner.new.self (Move d s) _
    (becomes_as m c.tell_inner.new.self _ _ Between
    (ap (λ x. over_with a m.script (put a.reg d x) (put a.offset d c.beside-offset.result) a.stack Fine) c.held-word.ensures
    ∙ ap (λ x. over_with a m.script (put a.reg d (a.reg s)) (put a.offset d x) a.stack Fine) c.beside-offset.ensures) c.tell_inner.ensures)
    (λ lay. move_sets a m.script d s))

pub returns-in-Drop : goal.returns-in-Drop
returns-in-Drop c =
    let m = c.args.self.now in
    subst (λ (s : Statement). Decides m s c.tell-in-Drop.new.self) (sym c.in-Drop.is)
    (decides_by m c.tell-in-Drop.new.self (Drop c.in-Drop.r) _ c.tell-in-Drop.ensures (λ lay. drop_clears (actor_of m) m.script c.in-Drop.r))

pub returns-after-same : goal.returns-after-same
returns-after-same c =
    let m = c.args.self.now in
    let a = actor_of m in
    let r = c.in-Same.r in
    let s = c.in-Same.s in
    let is : c.if-same.say ≡ (if a.reg r == a.reg s then Yes else No) = elim c.if-same.branch [
      | then-same w ↦ w.say-is ∙ same_words _ _ _ _ c.held.ensures c.held-in-Same.ensures w.if-same.true
      | else-same w ↦ w.say-is ∙ other_words _ _ _ _ c.held.ensures c.held-in-Same.ensures w.if-same.false
    ] in
    subst (λ (s : Statement). Decides m s c.say.new.self) (sym c.in-Same.is)
    (decides_by m c.say.new.self (Same r s) _ (becomes_as m c.say.new.self _ _ Between (ap (λ x. over a m.script a.reg x) is) c.say.ensures) (λ lay. same_tells a m.script r s))
