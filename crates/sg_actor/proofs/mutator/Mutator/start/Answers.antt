use Rattle.std.proofs.Common.{inl, inr, refl, subst}
use Rattle.sg_words.specs.declared.steps.Place.TheVariants.{Stop}
use Rattle.sg_words.specs.declared.steps.Step.TheVariants.{Load}
use Rattle.sg_actor.specs.State.{actor_of}
use Rattle.sg_actor.proofs.Ports.{Ports, Did}
use Rattle.sg_actor.proofs.Setters.{behind_at}
use Rattle.sg_actor.proofs.Starts.{none_left, first_left, not_set, rests_at, classed_begun, may_begun, may_next, begun_on, turn_begun, stop_seen, gives_way, behind_since}
use Rattle.sg_actor.proofs.mutator.Mutator.start.Given.{Over}
use Rattle.sg_actor.proofs.mutator.Mutator.start.Goals as goal

abbrev ports : (g : Over) → Ports g.row.P.Denot
ports g = record {
  leads = g.P.Port.leads;
  may = g.P.Port.may;
  sees = g.P.Port.sees;
  fragments = g.P.FragPort.fragments;
  limit = g.P.FragPort.limit;
  stays = g.P.Port.stays;
  chains = g.P.Port.chains;
  fixed = g.met.P.FragPort.fixed;
  blocks = g.P.BlockPort.blocks;
  heap = g.P.SweepPort.heap;
  marks = g.P.SweepPort.marks;
  fixed_blocks = g.met.P.BlockPort.fixed_blocks;
  fixed_sweep = g.met.P.SweepPort.fixed_sweep;
}

pub returns-then-not-has_more : goal.returns-then-not-has_more
returns-then-not-has_more g c = record {
  turned = λ lay on. inl (record {
    between = c.requires.between;
    none = none_left c.args.self.now.script c.has_more.result c.has_more.ensures c.if-not-has_more.true;
    ended = c.end.ensures.stage;
    actor = c.end.ensures.actor;
    same = c.end.ensures.same;
    led = g.P.Port.stays c.args.port.now;
  });
}

pub stop-requires : goal.stop-requires
stop-requires g c =
    let o = ports g in
    let m = c.args.self.now in
    let x = c.args.port.now in
    let at = c.requires.between in
    let left = first_left m.script (c.has_more.ensures.0 c.if-not-has_more.false) in
    record { may = stop_seen m at left.0 left.1 left.2 o c.requires.on.0 x c.requires.on.1 }

pub returns-then-stop : goal.returns-then-stop
returns-then-stop g c =
    let o = ports g in
    let m = c.args.self.now in
    let x = c.args.port.now in
    let y = c.stop.new.self in
    let at = c.requires.between in
    let left = first_left m.script (c.has_more.ensures.0 c.if-not-has_more.false) in
    let k = c.give_way.new.self in
    record {
      turned = λ lay on. inr (
        behind_at m m k _ _ refl c.give_way.ensures tt,
        gives_way m at left.0 left.1 left.2 o lay x on y c.stop.ensures.0 (actor_of k) (c.stop.ensures.1.0 c.if-stop.true) (c.stop.ensures.3, c.stop.ensures.2) c.give_way.ensures.actor,
      );
    }

pub act-requires-clause-classed : goal.act-requires-clause-classed
act-requires-clause-classed g c =
    let o = ports g in
    let m = c.args.self.now in
    let x = c.args.port.now in
    let y = c.stop.new.self in
    let at = c.requires.between in
    let n = c.begin.new.self in
    let s = c.in-Some.statement in
    let begun = c.in-Some.ensures in
    classed_begun m at s begun.rest begun.script n begun.becomes.actor begun.becomes.same.program (c.requires.classed at s begun.rest begun.script)

pub act-requires-clause-may : goal.act-requires-clause-may
act-requires-clause-may g c =
    let o = ports g in
    let m = c.args.self.now in
    let x = c.args.port.now in
    let y = c.stop.new.self in
    let at = c.requires.between in
    let n = c.begin.new.self in
    let s = c.in-Some.statement in
    let begun = c.in-Some.ensures in
    may_begun m at s begun.rest begun.script n begun.becomes.actor begun.becomes.same.program (may_next m at s begun.rest begun.script c.requires.on.0 c.requires.on.1.guided.is_sane)

pub act-requires-clause-begun : goal.act-requires-clause-begun
act-requires-clause-begun g c =
    let o = ports g in
    let m = c.args.self.now in
    let x = c.args.port.now in
    let y = c.stop.new.self in
    let at = c.requires.between in
    let n = c.begin.new.self in
    let s = c.in-Some.statement in
    let begun = c.in-Some.ensures in
    let lay = c.requires.on.0 in
    let on = c.requires.on.1 in
    let did : Did o m.program lay x (Load Stop 0) y = subst (λ v. Did o m.program lay x (Load Stop v) y) (not_set c.stop.ensures.0 c.stop.result c.stop.ensures.1 c.if-stop.false) (c.stop.ensures.3, c.stop.ensures.2) in
    (lay, begun_on m at s begun.rest begun.script n begun.becomes.actor begun.becomes.same.program o lay x y on did)

pub returns-in-Some : goal.returns-in-Some
returns-in-Some g c =
    let o = ports g in
    let m = c.args.self.now in
    let x = c.args.port.now in
    let y = c.stop.new.self in
    let at = c.requires.between in
    let n = c.begin.new.self in
    let s = c.in-Some.statement in
    let begun = c.in-Some.ensures in
    let k = c.act.new.self in
    let z = c.act.new.port in
    record {
      turned = λ lay on.
          let did : Did o m.program lay x (Load Stop 0) y = subst (λ v. Did o m.program lay x (Load Stop v) y) (not_set c.stop.ensures.0 c.stop.result c.stop.ensures.1 c.if-stop.false) (c.stop.ensures.3, c.stop.ensures.2) in
          inr (
            behind_since m n k begun.becomes.same c.act.ensures.behind,
            turn_begun m at s begun.rest begun.script n begun.becomes.actor begun.becomes.same.program o lay x y on did (actor_of k) z (c.act.ensures.run lay (begun_on m at s begun.rest begun.script n begun.becomes.actor begun.becomes.same.program o lay x y on did)) (rests_at n.program k.stage c.act.ensures.behind.rests),
          );
    }
