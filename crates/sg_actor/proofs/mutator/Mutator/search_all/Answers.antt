use Rattle.std.proofs.Common.{false, inr, arith}
use Rattle.sg_rules.specs.Rules.{Search, onward, within}
use Rattle.sg_rules.specs.Rules.BlockComes.{mature_begins}
use Rattle.sg_actor.specs.State.{actor_of}
use Rattle.sg_actor.specs.Turning.{before_this}
use Rattle.sg_actor.proofs.Ports.{Ports}
use Rattle.sg_actor.proofs.Turnings.{ran}
use Rattle.sg_actor.proofs.mutator.Mutator.search_all.Given.{Over}
use Rattle.sg_actor.proofs.mutator.Mutator.search_all.Goals as goal

abbrev ports : (g : Over) → Ports g.row.P.Denot
ports g = record {
  leads = g.P.Port.leads;
  may = g.P.Port.may;
  sees = g.P.Port.sees;
  fragments = g.P.FragPort.fragments;
  limit = g.P.FragPort.limit;
  stays = g.P.Port.stays;
  chains = g.P.Port.chains;
  fixed = g.met.P.FragPort.fixed;
  blocks = g.P.BlockPort.blocks;
  heap = g.P.SweepPort.heap;
  marks = g.P.SweepPort.marks;
  fixed_blocks = g.met.P.BlockPort.fixed_blocks;
  fixed_sweep = g.met.P.SweepPort.fixed_sweep;
}

pub search-requires-clause-on : goal.search-requires-clause-on
search-requires-clause-on g c =
    let m = c.args.self.now in
    let s = c.args.making.statement in
    let at = within (actor_of m) m.script (onward m.program (Search s) 0) in
    (c.requires.begun.0, omega arith, c.requires.begun.1 at (false, inr (mature_begins (actor_of m) s m.script c.requires.mature)))

pub returns-clause-run : goal.returns-clause-run
returns-clause-run g c lay begun =
    let o = ports g in
    let m = c.args.self.now in
    let s = c.args.making.statement in
    let at = within (actor_of m) m.script (onward m.program (Search s) 0) in
    let begins = mature_begins (actor_of m) s m.script c.requires.mature in
    ran o m.program lay (before_this m s) at c.args.port.now begun false (inr begins) (actor_of c.search.new.self) c.search.new.port
    (c.search.ensures.goes lay (begun at (false, inr begins)))
