use Rattle.std.proofs.Common.{◌≡◌, ◌+◌, ◌<◌, ◌≤◌, true, Some, None, sym, ap, ◌∙◌, subst, arith}
use Rattle.sg_words.specs.Blocks.{slot_size}
use Rattle.sg_program.specs.Invariants.{IsWithinLimits}
use Rattle.sg_program.specs.Scripts.{made_slot}
use Rattle.sg_rules.specs.Rules.{within}
use Rattle.sg_rules.specs.Acting.{RestsAt}
use Rattle.sg_actor.specs.declared.mutator.Stage.{Stage}
use Rattle.sg_actor.specs.declared.mutator.Stage.TheVariants.{BehindSweep}
use Rattle.sg_actor.specs.State.{Mutating, actor_of, mid_of}
use Rattle.sg_actor.proofs.Ports.{Ports, none_yet, gone_to}
use Rattle.sg_actor.proofs.Starts.{rests_at}
use Rattle.sg_actor.proofs.Resting.{on_there, turned_there}
use Rattle.sg_actor.proofs.Slots.{sight_rests, sight_may, sight_on, sight_turned}
use Rattle.sg_actor.proofs.BlockTurns.{goes_at, again_on, again_gone}
use Rattle.sg_actor.proofs.mutator.Mutator.search_behind.Given.{Over}
use Rattle.sg_actor.proofs.mutator.Mutator.search_behind.Goals as goal

abbrev ports : (g : Over) → Ports g.row.P.Denot
ports g = record {
  leads = g.P.Port.leads;
  may = g.P.Port.may;
  sees = g.P.Port.sees;
  fragments = g.P.FragPort.fragments;
  limit = g.P.FragPort.limit;
  stays = g.P.Port.stays;
  chains = g.P.Port.chains;
  fixed = g.met.P.FragPort.fixed;
  blocks = g.P.BlockPort.blocks;
  heap = g.P.SweepPort.heap;
  marks = g.P.SweepPort.marks;
  fixed_blocks = g.met.P.BlockPort.fixed_blocks;
  fixed_sweep = g.met.P.SweepPort.fixed_sweep;
}

pub look_at-requires-clause-may : goal.look_at-requires-clause-may
look_at-requires-clause-may g c =
    let o = ports g in
    let m = c.args.self.now in
    let s = c.args.making.statement in
    let b = c.args.block in
    let x = c.args.port.now in
    let size : c.slot-size.result ≡ made_slot m.program s = c.slot-size.ensures.size ∙ ap (λ k. slot_size (k + 2)) c.requires.made.fields_are in
    let lay = c.requires.on.0 in
    let on = c.requires.on.1 in
    let here = on_there m (BehindSweep s b) c.requires.stage o lay x on in
    sight_may m.program lay (actor_of m) m.script s true b o c.slot-size.result size x here

pub overflow_add-block : goal.overflow_add-block
overflow_add-block g c =
    let o = ports g in
    let m = c.args.self.now in
    let s = c.args.making.statement in
    let b = c.args.block in
    let x = c.args.port.now in
    let lay = c.requires.on.0 in
    let on = c.requires.on.1 in
    let here = on_there m (BehindSweep s b) c.requires.stage o lay x on in
    let there : b < m.program.config.blocks = (here.guided.is_sane tt).there in
    let limits = subst (λ (m : Mutating). IsWithinLimits m.program) c.self.view_is c.self.invariant.limits in
    omega (arith, there, limits.settings.blocks_most)

pub search-requires-clause-on : goal.search-requires-clause-on
search-requires-clause-on g c =
    let o = ports g in
    let m = c.args.self.now in
    let s = c.args.making.statement in
    let b = c.args.block in
    let x = c.args.port.now in
    let n = c.resume.new.self in
    let program = c.resume.ensures.same.program in
    let size : c.slot-size.result ≡ made_slot m.program s = c.slot-size.ensures.size ∙ ap (λ k. slot_size (k + 2)) c.requires.made.fields_are in
    let lay = c.requires.on.0 in
    let on = c.requires.on.1 in
    let y = c.look_at.new.port in
    let here = on_there m (BehindSweep s b) c.requires.stage o lay x on in
    let look = c.in-None.ensures in
    let landing = sight_on m.program lay (actor_of m) m.script s true b o c.slot-size.result size x here look.0 None look.2 y look.1 in
    let there : b + 1 ≤ n.program.config.blocks =
    let l = (here.guided.is_sane tt).there in let e = ap (λ p. p.config.blocks) program in omega (arith, l, e) in
    (lay, there, again_on m n c.resume.ensures.actor program s (b + 1) o lay y landing)

pub returns-in-Some-clause-turned : goal.returns-in-Some-clause-turned
returns-in-Some-clause-turned g c lay on =
    let o = ports g in
    let m = c.args.self.now in
    let s = c.args.making.statement in
    let b = c.args.block in
    let x = c.args.port.now in
    let n = c.resume.new.self in
    let program = c.resume.ensures.same.program in
    let size : c.slot-size.result ≡ made_slot m.program s = c.slot-size.ensures.size ∙ ap (λ k. slot_size (k + 2)) c.requires.made.fields_are in
    let y = c.look_at.new.port in
    let here = on_there m (BehindSweep s b) c.requires.stage o lay x on in
    let look = c.in-Some.ensures in
    let found = Some c.in-Some.stage in
    let landing = sight_on m.program lay (actor_of m) m.script s true b o c.slot-size.result size x here look.0 found look.2 y look.1 in
    let at = within (actor_of m) m.script (mid_of c.in-Some.stage) in
    let k = c.rest_at.new.self in
    turned_there m (BehindSweep s b) c.requires.stage o lay x (actor_of k) y
    (sight_turned m.program lay (actor_of m) m.script s true b o c.slot-size.result size x here look.0 found look.2 y look.1 (actor_of k) y
    (gone_to o m.program lay at at y y landing (none_yet o m.program lay at y landing) (actor_of k)
    (c.rest_at.ensures.actor ∙ goes_at m n c.resume.ensures.actor program (mid_of c.in-Some.stage)))
    (subst (λ (stage : Stage). RestsAt (mid_of stage)) (sym c.rest_at.ensures.stage) (sight_rests s c.slot-size.result b look.0 c.in-Some.stage look.2)))

pub returns-in-None-clause-turned : goal.returns-in-None-clause-turned
returns-in-None-clause-turned g c lay on =
    let o = ports g in
    let m = c.args.self.now in
    let s = c.args.making.statement in
    let b = c.args.block in
    let x = c.args.port.now in
    let n = c.resume.new.self in
    let program = c.resume.ensures.same.program in
    let size : c.slot-size.result ≡ made_slot m.program s = c.slot-size.ensures.size ∙ ap (λ k. slot_size (k + 2)) c.requires.made.fields_are in
    let y = c.look_at.new.port in
    let here = on_there m (BehindSweep s b) c.requires.stage o lay x on in
    let look = c.in-None.ensures in
    let landing = sight_on m.program lay (actor_of m) m.script s true b o c.slot-size.result size x here look.0 None look.2 y look.1 in
    let at = again_on m n c.resume.ensures.actor program s (b + 1) o lay y landing in
    let k = c.search.new.self in
    let z = c.search.new.port in
    turned_there m (BehindSweep s b) c.requires.stage o lay x (actor_of k) z
    (sight_turned m.program lay (actor_of m) m.script s true b o c.slot-size.result size x here look.0 None look.2 y look.1 (actor_of k) z
    (again_gone m n c.resume.ensures.actor program s (b + 1) o lay y (actor_of k) z (c.search.ensures.goes lay at))
    (rests_at n.program k.stage c.search.ensures.behind.rests))
