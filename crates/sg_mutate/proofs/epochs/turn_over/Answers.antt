use Rattle.std.proofs.Common.{◌≡◌, List, length, inl, inr}
use Rattle.sg_words.specs.Words.{Saw}
use Rattle.sg_words.specs.declared.steps.Step.{Step}
use Rattle.sg_program.specs.declared.program.Program.{Program}
use Rattle.sg_space.specs.Space.{words_of}
use Rattle.sg_frag.specs.declared.plain.PlainPort.{PlainPort}
use Rattle.sg_frag.specs.Plain.{Led, MayCall}
use Rattle.sg_frag.specs.Leading.{limit_of, marks_of}
use Rattle.sg_words.specs.Sections.{old_base}
use Rattle.sg_rules.specs.Rules.{Constants, Actor}
use Rattle.sg_actor.specs.Turning.{IsOnPort}
use Rattle.sg_mutate.specs.Going.{IsOnSpace}
use Rattle.sg_mutate.proofs.epochs.turn_over.Goals as goal

abbrev Leads : PlainPort → List Step → PlainPort → Type 0
Leads p steps q = (q.space.ghost_name ≡ p.space.ghost_name) × Led p.space.now steps q.space.now

on_port : (p : Program) (lay : Constants) (port : PlainPort) (a : Actor) → IsOnSpace p lay port.space.now a →
    IsOnPort p lay Leads (λ q call. MayCall q.space.now call) (λ q s. Saw (words_of q.space.now) s) (λ q. length q.space.now.ends)
    (λ q. limit_of q.space.now.ends) (λ q. length q.space.now.blocks) (λ q. old_base q.space.now.layout) (λ q. marks_of q.space.now.marks) port a
on_port p lay port a on = record {
  guided = record {
    is_sane = on.guided.is_sane;
    allows = λ steps q b s d led. on.guided.allows steps q.space.now b s d led.1;
    goes = λ steps q b s d t led. on.guided.goes steps q.space.now b s d t led.1;
  };
  fragments_are = on.fragments_are;
  limits_are = on.limits_are;
  blocks_are = on.blocks_are;
  heap_is = on.heap_is;
  marks_are = on.marks_are;
}

pub turn_on-requires-clause-on : goal.turn_on-requires-clause-on
turn_on-requires-clause-on c = (c.requires.on.0, on_port c.args.mutator.now.program c.requires.on.0 c.args.port.now _ c.requires.on.1)

pub returns-clause-same : goal.returns-clause-same
returns-clause-same c =
    elim (c.turn_on.ensures.turned c.requires.on.0 (on_port c.args.mutator.now.program c.requires.on.0 c.args.port.now _ c.requires.on.1)) [
      | inl e ↦ e.led.0
      | inr h ↦ h.1.led.0
    ]

pub returns-clause-turned : goal.returns-clause-turned
returns-clause-turned c = λ lay on.
    elim (c.turn_on.ensures.turned lay (on_port c.args.mutator.now.program lay c.args.port.now _ on)) [
      | inl e ↦ inl (record { between = e.between; none = e.none; ended = e.ended; actor = e.actor; same = e.same; led = e.led.1 })
      | inr h ↦ inr (h.0, record { steps = h.1.steps; led = h.1.led.1; turn = h.1.turn; sane = h.1.sane })
    ]
