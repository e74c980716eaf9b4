use Rattle.std.proofs.Common.{false, inl}
use Rattle.sg_rules.specs.Rules.{Ask, within}
use Rattle.sg_rules.specs.Rules.Comes.{stop_asks}
use Rattle.sg_actor.specs.State.{actor_of}
use Rattle.sg_actor.proofs.Facts.{collects}
use Rattle.sg_actor.proofs.Ports.{Ports, none_yet}
use Rattle.sg_actor.proofs.Turnings.{ran}
use Rattle.sg_actor.proofs.Searches.{stop_may, stop_done}
use Rattle.sg_actor.proofs.mutator.Mutator.request.Given.{Over}
use Rattle.sg_actor.proofs.mutator.Mutator.request.Goals as goal

abbrev ports : (g : Over) → Ports g.row.P.Denot
ports g = record {
  leads = g.P.Port.leads;
  may = g.P.Port.may;
  sees = g.P.Port.sees;
  fragments = g.P.FragPort.fragments;
  limit = g.P.FragPort.limit;
  stays = g.P.Port.stays;
  chains = g.P.Port.chains;
  fixed = g.met.P.FragPort.fixed;
  blocks = g.P.BlockPort.blocks;
  heap = g.P.SweepPort.heap;
  marks = g.P.SweepPort.marks;
  fixed_blocks = g.met.P.BlockPort.fixed_blocks;
  fixed_sweep = g.met.P.SweepPort.fixed_sweep;
}

pub set_stop-requires : goal.set_stop-requires
set_stop-requires g c =
    let o = ports g in
    let m = c.args.self.now in
    let s = c.args.statement in
    let lay = c.requires.begun.0 in
    let a = within (actor_of m) m.script (Ask s) in
    let on = c.requires.begun.1 a (false, inl (stop_asks (actor_of m) s m.script c.args.request c.requires.asks)) in
    record { may = stop_may o m lay s a c.args.port.now c.args.port.now on (none_yet o m.program lay a c.args.port.now on) }

pub returns-clause-run : goal.returns-clause-run
returns-clause-run g c lay begun =
    let o = ports g in
    let m = c.args.self.now in
    let s = c.args.statement in
    let x = c.args.port.now in
    let a = within (actor_of m) m.script (Ask s) in
    let on = begun a (false, inl (stop_asks (actor_of m) s m.script c.args.request c.requires.asks)) in
    ran o m.program lay _ a x begun false (inl (stop_asks (actor_of m) s m.script c.args.request c.requires.asks)) _ _
    (stop_done o m lay s a x x on (none_yet o m.program lay a x on) c.set_stop.new.self _ c.ask.ensures.actor (c.set_stop.ensures.seen, c.set_stop.ensures.led))

pub ask-requires-clause-fits : goal.ask-requires-clause-fits
ask-requires-clause-fits g c = (collects c.args.self.now.program c.args.statement c.args.request c.requires.asks).0

pub ask-requires-clause-register : goal.ask-requires-clause-register
ask-requires-clause-register g c = (collects c.args.self.now.program c.args.statement c.args.request c.requires.asks).1
