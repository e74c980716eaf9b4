use Rattle.std.proofs.Common.{◌≡◌, ◌+◌, ◌<◌, ◌≤◌, Some, None, refl, sym, ap, ◌∙◌, subst, arith}
use Rattle.sg_words.specs.Blocks.{slot_size}
use Rattle.sg_program.specs.Scripts.{made_slot}
use Rattle.sg_rules.specs.Rules.{Search, Left, onward, within}
use Rattle.sg_actor.specs.State.{Mutating, actor_of, mid_of}
use Rattle.sg_actor.specs.Searching.{IsLook}
use Rattle.sg_actor.proofs.Ports.{Ports, Gone, none_yet, gone_to}
use Rattle.sg_actor.proofs.Searches.{stop_may, stop_done}
use Rattle.sg_actor.proofs.Slots.{slots_end, look_may, look_gone, pass_gone}
use Rattle.sg_actor.proofs.mutator.Mutator.search.Given.{Over}
use Rattle.sg_actor.proofs.mutator.Mutator.search.Goals as goal

abbrev ports : (g : Over) → Ports g.row.P.Denot
ports g = record {
  leads = g.P.Port.leads;
  may = g.P.Port.may;
  sees = g.P.Port.sees;
  fragments = g.P.FragPort.fragments;
  limit = g.P.FragPort.limit;
  stays = g.P.Port.stays;
  chains = g.P.Port.chains;
  fixed = g.met.P.FragPort.fixed;
  blocks = g.P.BlockPort.blocks;
  heap = g.P.SweepPort.heap;
  marks = g.P.SweepPort.marks;
  fixed_blocks = g.met.P.BlockPort.fixed_blocks;
  fixed_sweep = g.met.P.SweepPort.fixed_sweep;
}

pub loop-block-init : goal.loop-block-init
loop-block-init g c = record {
  self_is = refl;
  gone = λ lay on.
      let o = ports g in
      let m = c.args.self.now in
      let p = m.program in
      let s = c.args.making.statement in
      let x = c.args.port.now in
      let a = within (actor_of m) m.script (onward p (Search s) c.args.first) in
      let size : c.slot-size.result ≡ made_slot p s = c.slot-size.ensures.size ∙ ap (λ n. slot_size (n + 2)) c.requires.made.fields_are in
      let over = c.pass_over-passed.ensures.passed in
      let all = on.blocks_are in
      let few = c.pass_over-passed.ensures.within in
      let come = over.2 in
      let y = c.pass_over-passed.new.self in
      let within_blocks : c.args.first + over.0 ≤ p.config.blocks = omega (arith, all, few, come) in
      subst (λ d. Gone o p lay a x (within (actor_of m) m.script (onward p (Search s) d)) y) (sym come)
      (pass_gone o m lay s a x on c.args.first x (none_yet o p lay a x on) c.slot-size.result size over.0 over.1 y over.3 within_blocks over.4);
}

pub look_at-requires-clause-may : goal.look_at-requires-clause-may
look_at-requires-clause-may g c =
    let o = ports g in
    let m = c.args.self.now in
    let p = m.program in
    let s = c.args.making.statement in
    let x = c.args.port.now in
    let b = c.loop-block.block in
    let lay = c.requires.on.0 in
    let on = c.requires.on.2 in
    let a = within (actor_of m) m.script (onward p (Search s) c.args.first) in
    let size : c.slot-size.result ≡ made_slot p s = c.slot-size.ensures.size ∙ ap (λ n. slot_size (n + 2)) c.requires.made.fields_are in
    let there : b < p.config.blocks = let all = c.blocks-blocks.ensures ∙ on.blocks_are in omega (arith, all, c.loop-block-test.true) in
    look_may o m lay s a x on b c.loop-block.port (c.loop-block.invariant.gone lay on) there c.slot-size.result size

pub returns-in-Some-clause-goes : goal.returns-in-Some-clause-goes
returns-in-Some-clause-goes g c lay on =
    let o = ports g in
    let m = c.args.self.now in
    let p = m.program in
    let s = c.args.making.statement in
    let x = c.args.port.now in
    let b = c.loop-block.block in
    let a = within (actor_of m) m.script (onward p (Search s) c.args.first) in
    let size : c.slot-size.result ≡ made_slot p s = c.slot-size.ensures.size ∙ ap (λ n. slot_size (n + 2)) c.requires.made.fields_are in
    let there : b < p.config.blocks = let all = c.blocks-blocks.ensures ∙ on.blocks_are in omega (arith, all, c.loop-block-test.true) in
    let y = c.loop-block.port in
    let z = c.look_at.new.port in
    let look = c.in-Some.ensures in
    let mid = mid_of c.in-Some.stage in
    let gone = look_gone o m lay s a x on b y (c.loop-block.invariant.gone lay on) there c.slot-size.result size look.0 (Some c.in-Some.stage) z look.2 look.1 in
    gone_to o p lay a (within (actor_of m) m.script mid) x z on gone (actor_of c.rest_at.new.self)
    (c.rest_at.ensures.actor ∙ ap (λ (v : Mutating). within (actor_of v) v.script mid) c.loop-block.invariant.self_is)

pub loop-block-preserved : goal.loop-block-preserved
loop-block-preserved g c = record {
  self_is = c.loop-block.invariant.self_is;
  gone = λ lay on.
      let o = ports g in
      let m = c.args.self.now in
      let p = m.program in
      let s = c.args.making.statement in
      let x = c.args.port.now in
      let b = c.loop-block.block in
      let a = within (actor_of m) m.script (onward p (Search s) c.args.first) in
      let size : c.slot-size.result ≡ made_slot p s = c.slot-size.ensures.size ∙ ap (λ n. slot_size (n + 2)) c.requires.made.fields_are in
      let there : b < p.config.blocks = let all = c.blocks-blocks.ensures ∙ on.blocks_are in omega (arith, all, c.loop-block-test.true) in
      let look = c.look_at.ensures in
      let none = subst (IsLook s c.slot-size.result b look.0) c.in_default.is look.2 in
      look_gone o m lay s a x on b c.loop-block.port (c.loop-block.invariant.gone lay on) there c.slot-size.result size look.0 None c.look_at.new.port none look.1;
}

pub set_stop-requires : goal.set_stop-requires
set_stop-requires g c =
    let o = ports g in
    let m = c.args.self.now in
    let p = m.program in
    let s = c.args.making.statement in
    let x = c.args.port.now in
    let b = c.loop-block.block in
    let lay = c.requires.on.0 in
    let on = c.requires.on.2 in
    let a = within (actor_of m) m.script (onward p (Search s) c.args.first) in
    let past : p.config.blocks ≤ b = let all = c.blocks-blocks.ensures ∙ on.blocks_are in omega (arith, all, c.loop-block-test.false) in
    let asking = slots_end o m lay s a x on b c.loop-block.port (c.loop-block.invariant.gone lay on) past in
    record { may = stop_may o m lay s a x c.loop-block.port on asking }

pub returns-clause-goes : goal.returns-clause-goes
returns-clause-goes g c lay on =
    let o = ports g in
    let m = c.args.self.now in
    let p = m.program in
    let s = c.args.making.statement in
    let x = c.args.port.now in
    let b = c.loop-block.block in
    let a = within (actor_of m) m.script (onward p (Search s) c.args.first) in
    let past : p.config.blocks ≤ b = let all = c.blocks-blocks.ensures ∙ on.blocks_are in omega (arith, all, c.loop-block-test.false) in
    let asking = slots_end o m lay s a x on b c.loop-block.port (c.loop-block.invariant.gone lay on) past in
    stop_done o m lay s a x c.loop-block.port on asking c.set_stop.new.self (actor_of c.ask.new.self)
    (c.ask.ensures.actor ∙ ap (λ (v : Mutating). within (actor_of v) v.script (Left s)) c.loop-block.invariant.self_is) (c.set_stop.ensures.seen, c.set_stop.ensures.led)
