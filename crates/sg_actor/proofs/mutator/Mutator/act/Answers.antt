use Rattle.std.proofs.Common.{refl, sym, ap, ◌∙◌, subst}
use Rattle.sg_program.specs.declared.program.Statement.{Statement}
use Rattle.sg_rules.specs.Rules.{Constants}
use Rattle.sg_actor.specs.State.{actor_of}
use Rattle.sg_actor.specs.declared.mutator.Stage.{Stage}
use Rattle.sg_actor.specs.Turning.{before_this, IsResting}
use Rattle.sg_actor.specs.Testing.{as_test_option}
use Rattle.sg_actor.proofs.Facts.{is_direct}
use Rattle.sg_actor.proofs.Ports.{Ports}
use Rattle.sg_actor.proofs.Turnings.{Ran, ran_at_once}
use Rattle.sg_actor.proofs.Turnings.{Begun}
use Rattle.sg_actor.proofs.mutator.Mutator.act.Given.{Over}
use Rattle.sg_actor.proofs.mutator.Mutator.act.Goals as goal

abbrev ports : (g : Over) → Ports g.row.P.Denot
ports g = record {
  leads = g.P.Port.leads;
  may = g.P.Port.may;
  sees = g.P.Port.sees;
  fragments = g.P.FragPort.fragments;
  limit = g.P.FragPort.limit;
  stays = g.P.Port.stays;
  chains = g.P.Port.chains;
  fixed = g.met.P.FragPort.fixed;
  blocks = g.P.BlockPort.blocks;
  heap = g.P.SweepPort.heap;
  marks = g.P.SweepPort.marks;
  fixed_blocks = g.met.P.BlockPort.fixed_blocks;
  fixed_sweep = g.met.P.SweepPort.fixed_sweep;
}

pub make-requires-clause-begun : goal.make-requires-clause-begun
make-requires-clause-begun g c =
    let o = ports g in
    let m = c.args.self.now in
    let p = m.program in
    let s = c.args.statement in
    let x = c.args.port.now in
    let is = sym c.making-making.ensures.statement in
    subst (λ (u : Statement). (lay : Constants) × Begun o p lay x (before_this m u)) is c.requires.begun

pub hide-requires-clause-begun : goal.hide-requires-clause-begun
hide-requires-clause-begun g c =
    let o = ports g in
    let m = c.args.self.now in
    let p = m.program in
    let s = c.args.statement in
    let x = c.args.port.now in
    let is = c.in-Hide.is in
    subst (λ (u : Statement). (lay : Constants) × Begun o p lay x (before_this m u)) is c.requires.begun

pub search_all-requires-clause-begun : goal.search_all-requires-clause-begun
search_all-requires-clause-begun g c =
    let o = ports g in
    let m = c.args.self.now in
    let p = m.program in
    let s = c.args.statement in
    let x = c.args.port.now in
    let is = sym c.making-making-in-Mature.ensures.statement in
    subst (λ (u : Statement). (lay : Constants) × Begun o p lay x (before_this m u)) is c.requires.begun

pub returns-in-Mature-clause-run : goal.returns-in-Mature-clause-run
returns-in-Mature-clause-run g c lay begun =
    let o = ports g in
    let m = c.args.self.now in
    let p = m.program in
    let s = c.args.statement in
    let x = c.args.port.now in
    let is = sym c.making-making-in-Mature.ensures.statement in
    subst (λ (u : Statement). Ran o p lay (before_this m u) x (actor_of c.search_all.new.self) c.search_all.new.port) (sym is)
    (c.search_all.ensures.run lay (subst (λ (u : Statement). Begun o p lay x (before_this m u)) is begun))

pub returns-in-New-clause-run : goal.returns-in-New-clause-run
returns-in-New-clause-run g c lay begun =
    let o = ports g in
    let m = c.args.self.now in
    let p = m.program in
    let s = c.args.statement in
    let x = c.args.port.now in
    let is = sym c.making-making.ensures.statement in
    subst (λ (u : Statement). Ran o p lay (before_this m u) x (actor_of c.make.new.self) c.make.new.port) (sym is)
    (c.make.ensures.run lay (subst (λ (u : Statement). Begun o p lay x (before_this m u)) is begun))

pub returns-in-Hide-clause-run : goal.returns-in-Hide-clause-run
returns-in-Hide-clause-run g c lay begun =
    let o = ports g in
    let m = c.args.self.now in
    let p = m.program in
    let s = c.args.statement in
    let x = c.args.port.now in
    let is = c.in-Hide.is in
    subst (λ (u : Statement). Ran o p lay (before_this m u) x (actor_of c.hide.new.self) c.hide.new.port) (sym is)
    (c.hide.ensures.run lay (subst (λ (u : Statement). Begun o p lay x (before_this m u)) is begun))

pub direct-requires : goal.direct-requires
direct-requires g c =
    let s = c.args.statement in
    record {
      within = c.requires.within;
      direct = is_direct c.args.self.now.program s c.requires.may.runnable.run (sym c.object_test.ensures ∙ ap as_test_option c.in_default.is)
          c.in_default-stop_request.ensures c.in_default-statement.not-New c.in_default-statement.not-NewV c.in_default-statement.not-Mature c.in_default-statement.not-Hide
          c.in_default-statement.not-GPut c.in_default-statement.not-GGet;
      may = c.requires.may;
    }

pub returns-in_default-statement : goal.returns-in_default-statement
returns-in_default-statement g c =
    let o = ports g in
    let m = c.args.self.now in
    let p = m.program in
    let s = c.args.statement in
    let x = c.args.port.now in
    let k = actor_of c.direct.new.self in
    record {
      run = λ lay begun. let acts = c.direct.ensures.comes lay in ran_at_once o p lay (before_this m s) k x begun acts.0 acts.1 k refl;
      behind = record { rests = subst (λ (at : Stage). IsResting p at) (sym c.direct.ensures.stage) tt; same = c.direct.ensures.same };
    }
