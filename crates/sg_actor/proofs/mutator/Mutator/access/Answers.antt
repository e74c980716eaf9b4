use Rattle.std.proofs.Common.{◌≢◌, true, false, inl, sym, ◌∙◌, subst}
use Rattle.sg_program.specs.declared.answers.Answer.TheVariants.{Field}
use Rattle.sg_rules.specs.Rules.{TestTag, Access, within, over, cleared}
use Rattle.sg_rules.specs.Rules.Comes.{test_null, test_begins}
use Rattle.sg_actor.specs.State.{actor_of}
use Rattle.sg_actor.specs.Testing.{as_test}
use Rattle.sg_actor.specs.Turning.{before_this, tested}
use Rattle.sg_actor.proofs.Ports.{Ports, Gone, on_then, gone_to, gone_then}
use Rattle.sg_actor.proofs.Turnings.{ran, ran_at_once}
use Rattle.sg_actor.proofs.mutator.Mutator.access.Given.{Over}
use Rattle.sg_actor.proofs.mutator.Mutator.access.Goals as goal

abbrev ports : (g : Over) → Ports g.row.P.Denot
ports g = record {
  leads = g.P.Port.leads;
  may = g.P.Port.may;
  sees = g.P.Port.sees;
  fragments = g.P.FragPort.fragments;
  limit = g.P.FragPort.limit;
  stays = g.P.Port.stays;
  chains = g.P.Port.chains;
  fixed = g.met.P.FragPort.fixed;
  blocks = g.P.BlockPort.blocks;
  heap = g.P.SweepPort.heap;
  marks = g.P.SweepPort.marks;
  fixed_blocks = g.met.P.BlockPort.fixed_blocks;
  fixed_sweep = g.met.P.SweepPort.fixed_sweep;
}

pub passes-requires-clause-classed : goal.passes-requires-clause-classed
passes-requires-clause-classed g c =
    let o = ports g in
    let m = c.args.self.now in
    let p = m.program in
    let a = actor_of m in
    let s = c.args.statement in
    let t = as_test c.args.test in
    let x = c.args.port.now in
    let some : a.reg t.register ≢ 0 = λ z. c.if-held-eq0.false (c.held.ensures ∙ z) in
    c.requires.classed t c.requires.test some

pub passes-requires-clause-on : goal.passes-requires-clause-on
passes-requires-clause-on g c =
    let o = ports g in
    let m = c.args.self.now in
    let p = m.program in
    let a = actor_of m in
    let s = c.args.statement in
    let t = as_test c.args.test in
    let x = c.args.port.now in
    let some : a.reg t.register ≢ 0 = λ z. c.if-held-eq0.false (c.held.ensures ∙ z) in
    let b = within a m.script (TestTag s t) in
    let lay = c.requires.begun.0 in
    let begun = c.requires.begun.1 in
    let on = begun b (false, inl (test_begins a s m.script t c.requires.test some)) in
    (lay, on)

pub reach-requires-clause-on : goal.reach-requires-clause-on
reach-requires-clause-on g c =
    let o = ports g in
    let m = c.args.self.now in
    let p = m.program in
    let a = actor_of m in
    let s = c.args.statement in
    let t = as_test c.args.test in
    let x = c.args.port.now in
    let some : a.reg t.register ≢ 0 = λ z. c.if-held-eq0.false (c.held.ensures ∙ z) in
    let b = within a m.script (TestTag s t) in
    let lay = c.requires.begun.0 in
    let begun = c.requires.begun.1 in
    let on = begun b (false, inl (test_begins a s m.script t c.requires.test some)) in
    let y = c.passes.new.port in
    let gone : Gone o p lay b x (tested m s true) y = subst (λ r. Gone o p lay b x (tested m s r) y) c.if-passes.true (c.passes.ensures lay on) in
    (lay, on_then o p lay b (within a m.script (Access s)) x y on gone)

pub returns-then-held-eq0-clause-run : goal.returns-then-held-eq0-clause-run
returns-then-held-eq0-clause-run g c lay begun =
    let o = ports g in
    let m = c.args.self.now in
    let p = m.program in
    let a = actor_of m in
    let s = c.args.statement in
    let t = as_test c.args.test in
    let x = c.args.port.now in
    ran_at_once o p lay (before_this m s) _ x begun true (inl (test_null a s m.script t c.requires.test (sym c.held.ensures ∙ c.if-held-eq0.true)))
    (actor_of c.refuse.new.self) c.refuse.ensures.actor

pub returns-then-passes-clause-run : goal.returns-then-passes-clause-run
returns-then-passes-clause-run g c lay begun =
    let o = ports g in
    let m = c.args.self.now in
    let p = m.program in
    let a = actor_of m in
    let s = c.args.statement in
    let t = as_test c.args.test in
    let x = c.args.port.now in
    let some : a.reg t.register ≢ 0 = λ z. c.if-held-eq0.false (c.held.ensures ∙ z) in
    let b = within a m.script (TestTag s t) in
    let on = begun b (false, inl (test_begins a s m.script t c.requires.test some)) in
    let y = c.passes.new.port in
    let gone : Gone o p lay b x (tested m s true) y = subst (λ r. Gone o p lay b x (tested m s r) y) c.if-passes.true (c.passes.ensures lay on) in
    ran o p lay (before_this m s) b x begun false (inl (test_begins a s m.script t c.requires.test some)) (actor_of c.reach.new.self) c.reach.new.port
    (gone_then o p lay b (within a m.script (Access s)) x y on gone (actor_of c.reach.new.self) c.reach.new.port (c.reach.ensures.goes lay (on_then o p lay b (within a m.script (Access s)) x y on gone)))

pub returns-else-passes-clause-run : goal.returns-else-passes-clause-run
returns-else-passes-clause-run g c lay begun =
    let o = ports g in
    let m = c.args.self.now in
    let p = m.program in
    let a = actor_of m in
    let s = c.args.statement in
    let t = as_test c.args.test in
    let x = c.args.port.now in
    let some : a.reg t.register ≢ 0 = λ z. c.if-held-eq0.false (c.held.ensures ∙ z) in
    let b = within a m.script (TestTag s t) in
    let on = begun b (false, inl (test_begins a s m.script t c.requires.test some)) in
    let y = c.passes.new.port in
    let gone : Gone o p lay b x (tested m s false) y = subst (λ r. Gone o p lay b x (tested m s r) y) c.if-passes.false (c.passes.ensures lay on) in
    ran o p lay (before_this m s) b x begun false (inl (test_begins a s m.script t c.requires.test some)) (actor_of c.refuse-else-passes.new.self) y
    (gone_to o p lay b (over a m.script (cleared s a.reg) Field) x y on gone (actor_of c.refuse-else-passes.new.self) c.refuse-else-passes.ensures.actor)
