use Rattle.std.proofs.Common.{◌≡◌, ℕ, ◌+◌, ◌<◌, Some, List, length, slice_index, slice_set, sym, ap, ◌∙◌, subst, arith}
use Rattle.sg_program.specs.declared.program.Statement.{Statement}
use Rattle.sg_rules.specs.Resting.{answered_register as register_of, word_in, with_word}
use Rattle.sg_actor.specs.declared.mutator.Mutator.TheInside.{Inside}
use Rattle.sg_actor.specs.declared.mutator.Stage.{Stage}
use Rattle.sg_actor.specs.declared.mutator.Stage.TheVariants.{Between}
use Rattle.sg_actor.specs.State.{Mutating, actor_of, asking_of, HasServed, IsStageOf}
use Rattle.sg_actor.proofs.Facts.{put_set}
use Rattle.sg_words.specs.Words.{put}
use Rattle.sg_actor.proofs.Setters.{serves}
use Rattle.sg_actor.proofs.mutator.Mutator.serve.Goals.{in-Some, in_default-answered_register}
use Rattle.sg_actor.proofs.mutator.Mutator.serve.Goals as goal

same_statement : {s t : Statement} → Some s ≡ Some t → s ≡ t
same_statement e = cc

-- between two statements, with these fields
abbrev inside : Inside → Mutating
inside j = record {
  program = j.program.now;
  number = j.number;
  first = j.first;
  stage = Between;
  registers = j.registers;
  offsets = j.offsets;
  stack = j.stack.items;
  from = j.from;
  to = j.to;
  script = j.cursor;
  told = j.answers.items;
}

pub returns : goal.returns
returns c statement asked =
    let m = c.args.self.now in
    let i = c.self.inside in
    let st = c.in-Asking.statement in
    let answer = c.args.answer in
    let is : st ≡ statement = same_statement (ap asking_of (sym c.in-Asking.is ∙ ap (λ (v : Mutating). v.stage) c.self.view_is) ∙ asked) in
    let first : i.first + (c.len.result + 1) ≡ m.first + (length m.told + 1) =
    omega (arith, c.len.ensures, i.answers.ok.0, ap (λ (v : Mutating). v.first) c.self.view_is, ap (λ (v : Mutating). length v.told) c.self.view_is) in
    let regs : ◌≡◌ {A = ℕ → ℕ} (λ r. slice_index i.registers r) (actor_of m).reg = ap (λ (v : Mutating). (actor_of v).reg) c.self.view_is in
    let after : List ℕ → Mutating → Mutating = λ xs v. record v { registers = xs; told = c.clear.new.self.items; first = i.first + (c.len.result + 1); stage = Between } in
    subst (λ (s : Statement). HasServed m s answer (inside c.match-answered_register.self-inside)) is
    (elim c.match-answered_register.branch [
      | in-Some w ↦
          let stage = subst (λ (v : Stage). IsStageOf i.program.now v) c.in-Asking.is c.self.invariant.stage_is in
          let register : Some w.in-Some.r ≡ register_of st = w.in-Some.ensures.register in
          let below : w.in-Some.r < length i.registers = omega (arith, stage.1, w.in-Some.ensures.made, c.self.told.0) in
          subst (λ (j : Inside). HasServed m st answer (inside j)) (sym w.self-inside-is)
          (serves m _ st answer (slice_set i.registers w.in-Some.r w.object_word.result) c.clear.new.self.items (i.first + (c.len.result + 1))
          (ap (after (slice_set i.registers w.in-Some.r w.object_word.result)) c.self.view_is) c.clear.ensures.items first
          (put_set i.registers w.in-Some.r w.object_word.result below
          ∙ ap (λ (f : ℕ → ℕ). put f w.in-Some.r w.object_word.result) regs
          ∙ ap (λ v. put (actor_of m).reg w.in-Some.r v) w.object_word.ensures
          ∙ ap (λ r. with_word r (word_in answer) (actor_of m).reg) register))
      | in_default-answered_register w ↦
          subst (λ (j : Inside). HasServed m st answer (inside j)) (sym w.self-inside-is)
          (serves m _ st answer i.registers c.clear.new.self.items (i.first + (c.len.result + 1)) (ap (after i.registers) c.self.view_is) c.clear.ensures.items first
          (regs ∙ ap (λ r. with_word r (word_in answer) (actor_of m).reg) (sym w.in_default-answered_register.is ∙ c.answered_register.ensures.register)))
    ])
