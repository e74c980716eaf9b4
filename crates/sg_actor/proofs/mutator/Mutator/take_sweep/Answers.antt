use Rattle.std.proofs.Common.{◌≤◌, ap, ◌∙◌, arith}
use Rattle.sg_rules.specs.Rules.{Search, StoreOccupancy, within}
use Rattle.sg_actor.specs.State.{actor_of}
use Rattle.sg_actor.proofs.Ports.{Ports}
use Rattle.sg_actor.proofs.Starts.{rests_at}
use Rattle.sg_actor.proofs.BlockTurns.{again, led_on, led_turned, led_ends, goes_at, again_on, again_gone, over_there, over_may, won_over, lost_over}
use Rattle.sg_actor.proofs.mutator.Mutator.take_sweep.Given.{Over}
use Rattle.sg_actor.proofs.mutator.Mutator.take_sweep.Goals as goal

abbrev ports : (g : Over) → Ports g.row.P.Denot
ports g = record {
  leads = g.P.Port.leads;
  may = g.P.Port.may;
  sees = g.P.Port.sees;
  fragments = g.P.FragPort.fragments;
  limit = g.P.FragPort.limit;
  stays = g.P.Port.stays;
  chains = g.P.Port.chains;
  fixed = g.met.P.FragPort.fixed;
  blocks = g.P.BlockPort.blocks;
  heap = g.P.SweepPort.heap;
  marks = g.P.SweepPort.marks;
  fixed_blocks = g.met.P.BlockPort.fixed_blocks;
  fixed_sweep = g.met.P.SweepPort.fixed_sweep;
}

pub take_over-requires-clause-may : goal.take_over-requires-clause-may
take_over-requires-clause-may g c =
    let o = ports g in
    let m = c.args.self.now in
    let s = c.args.making.statement in
    let b = c.args.block in
    let x = c.args.port.now in
    over_may o m c.requires.on.0 s b x c.requires.on.1 c.args.size c.requires.stage

pub search-requires-clause-on : goal.search-requires-clause-on
search-requires-clause-on g c =
    let o = ports g in
    let m = c.args.self.now in
    let s = c.args.making.statement in
    let b = c.args.block in
    let x = c.args.port.now in
    let y = c.take_over.new.port in
    let n = c.resume.new.self in
    let program = c.resume.ensures.same.program in
    let lay = c.requires.on.0 in
    let on = c.requires.on.1 in
    let led = lost_over o m lay s b x on c.args.size c.requires.stage y _ c.in-Err.ensures in
    let there : b ≤ n.program.config.blocks =
    let l = over_there o m lay s b x on c.args.size c.requires.stage in let e = ap (λ p. p.config.blocks) program in omega arith in
    (lay, there, again_on m n c.resume.ensures.actor program s b o lay y (led_on o m lay x on (again m s b) y led))

pub returns-in-Ok-clause-turned : goal.returns-in-Ok-clause-turned
returns-in-Ok-clause-turned g c lay on =
    let o = ports g in
    let m = c.args.self.now in
    let s = c.args.making.statement in
    let b = c.args.block in
    let x = c.args.port.now in
    let y = c.take_over.new.port in
    let n = c.resume.new.self in
    let program = c.resume.ensures.same.program in
    let led = won_over o m lay s b x on c.args.size c.requires.stage y c.in-Ok.ensures in
    let mid = StoreOccupancy (Search s) b c.args.size in
    led_ends o m lay x on (within (actor_of m) m.script mid) y led (actor_of c.rest_at.new.self)
    (c.rest_at.ensures.actor ∙ goes_at m n c.resume.ensures.actor program mid) tt

pub returns-in-Err-clause-turned : goal.returns-in-Err-clause-turned
returns-in-Err-clause-turned g c lay on =
    let o = ports g in
    let m = c.args.self.now in
    let s = c.args.making.statement in
    let b = c.args.block in
    let x = c.args.port.now in
    let y = c.take_over.new.port in
    let n = c.resume.new.self in
    let program = c.resume.ensures.same.program in
    let k = c.search.new.self in
    let led = lost_over o m lay s b x on c.args.size c.requires.stage y _ c.in-Err.ensures in
    let at = again_on m n c.resume.ensures.actor program s b o lay y (led_on o m lay x on (again m s b) y led) in
    led_turned o m lay x on (again m s b) y led (actor_of k) c.search.new.port
    (again_gone m n c.resume.ensures.actor program s b o lay y (actor_of k) c.search.new.port (c.search.ensures.goes lay at))
    (rests_at n.program k.stage c.search.ensures.behind.rests)
