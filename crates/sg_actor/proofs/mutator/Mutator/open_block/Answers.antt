use Rattle.std.proofs.Common.{◌≡◌, ◌+◌, ◌≤◌, ap, ◌∙◌, arith}
use Rattle.sg_words.specs.Blocks.{slot_size}
use Rattle.sg_program.specs.Scripts.{made_slot}
use Rattle.sg_actor.specs.State.{actor_of}
use Rattle.sg_actor.proofs.Ports.{Ports}
use Rattle.sg_actor.proofs.Starts.{rests_at}
use Rattle.sg_actor.proofs.BlockTurns.{again, led_on, led_turned, again_on, again_gone, open_there, open_may, opened}
use Rattle.sg_actor.proofs.mutator.Mutator.open_block.Given.{Over}
use Rattle.sg_actor.proofs.mutator.Mutator.open_block.Goals as goal

abbrev ports : (g : Over) → Ports g.row.P.Denot
ports g = record {
  leads = g.P.Port.leads;
  may = g.P.Port.may;
  sees = g.P.Port.sees;
  fragments = g.P.FragPort.fragments;
  limit = g.P.FragPort.limit;
  stays = g.P.Port.stays;
  chains = g.P.Port.chains;
  fixed = g.met.P.FragPort.fixed;
  blocks = g.P.BlockPort.blocks;
  heap = g.P.SweepPort.heap;
  marks = g.P.SweepPort.marks;
  fixed_blocks = g.met.P.BlockPort.fixed_blocks;
  fixed_sweep = g.met.P.SweepPort.fixed_sweep;
}

pub swap_block-requires : goal.swap_block-requires
swap_block-requires g c =
    let o = ports g in
    let m = c.args.self.now in
    let s = c.args.making.statement in
    let b = c.args.block in
    let x = c.args.port.now in
    let size : c.slot-size.result ≡ made_slot m.program s = c.slot-size.ensures.size ∙ ap (λ n. slot_size (n + 2)) c.requires.made.fields_are in
    record { may = open_may o m c.requires.on.0 s b x c.requires.on.1 c.requires.stage c.slot-size.result size }

pub search-requires-clause-on : goal.search-requires-clause-on
search-requires-clause-on g c =
    let o = ports g in
    let m = c.args.self.now in
    let s = c.args.making.statement in
    let b = c.args.block in
    let x = c.args.port.now in
    let y = c.swap_block.new.self in
    let n = c.resume.new.self in
    let lay = c.requires.on.0 in
    let on = c.requires.on.1 in
    let size : c.slot-size.result ≡ made_slot m.program s = c.slot-size.ensures.size ∙ ap (λ n. slot_size (n + 2)) c.requires.made.fields_are in
    let led = opened o m lay s b x on c.requires.stage c.slot-size.result size y c.swap_block.result c.swap_block.ensures.led c.swap_block.ensures.seen in
    let there : b ≤ n.program.config.blocks =
    let l = open_there o m lay s b x on c.requires.stage c.slot-size.result size in let e = ap (λ p. p.config.blocks) c.resume.ensures.same.program in omega arith in
    (lay, there, again_on m n c.resume.ensures.actor c.resume.ensures.same.program s b o lay y (led_on o m lay x on (again m s b) y led))

pub returns-clause-turned : goal.returns-clause-turned
returns-clause-turned g c lay on =
    let o = ports g in
    let m = c.args.self.now in
    let s = c.args.making.statement in
    let b = c.args.block in
    let x = c.args.port.now in
    let y = c.swap_block.new.self in
    let n = c.resume.new.self in
    let k = c.search.new.self in
    let size : c.slot-size.result ≡ made_slot m.program s = c.slot-size.ensures.size ∙ ap (λ n. slot_size (n + 2)) c.requires.made.fields_are in
    let led = opened o m lay s b x on c.requires.stage c.slot-size.result size y c.swap_block.result c.swap_block.ensures.led c.swap_block.ensures.seen in
    let at = again_on m n c.resume.ensures.actor c.resume.ensures.same.program s b o lay y (led_on o m lay x on (again m s b) y led) in
    led_turned o m lay x on (again m s b) y led (actor_of k) c.search.new.port
    (again_gone m n c.resume.ensures.actor c.resume.ensures.same.program s b o lay y (actor_of k) c.search.new.port (c.search.ensures.goes lay at))
    (rests_at n.program k.stage c.search.ensures.behind.rests)
