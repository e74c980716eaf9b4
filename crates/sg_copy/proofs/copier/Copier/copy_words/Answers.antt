use Rattle.sg_round.specs.Worker.{On, Body}
use Rattle.sg_copy.specs.Telling.{at}
use Rattle.sg_copy.specs.State.{teller_of, seat_of, object_of}
use Rattle.sg_copy.proofs.Ports.{Ports, none_yet, on_then, gone_then}
use Rattle.sg_copy.proofs.Bodies.{read_may, write_may, word_copied}
use Rattle.sg_copy.proofs.copier.Copier.copy_words.Given.{Over}
use Rattle.sg_copy.proofs.copier.Copier.copy_words.Goals as goal

abbrev ports : (g : Over) → Ports g.row.P.Denot
ports g = record {
  leads = g.P.Port.leads;
  may = g.P.Port.may;
  sees = g.P.Port.sees;
  blocks = g.P.BlockPort.blocks;
  stays = g.P.Port.stays;
  chains = g.P.Port.chains;
  fixed = g.met.P.BlockPort.fixed_blocks;
}

pub loop-j-init : goal.loop-j-init
loop-j-init g c = none_yet (ports g) (seat_of c.args.self.now) _ c.args.port.now c.requires

pub load-word-requires-clause-may : goal.load-word-requires-clause-may
load-word-requires-clause-may g c =
    let o = ports g in
    let m = c.args.self.now in
    let x = object_of c.args.job in
    let on = on_then o (seat_of m) (at (teller_of m) (On c.args.job.slot (Body x c.args.to 1)))
    (at (teller_of m) (On c.args.job.slot (Body x c.args.to c.loop-j.j))) c.args.port.now c.loop-j.port
    c.requires c.loop-j.invariant in
    read_may o (seat_of m) (teller_of m) c.args.job.slot x c.args.to c.loop-j.j c.loop-j.port on c.loop-j-test.true

pub store-requires-clause-may : goal.store-requires-clause-may
store-requires-clause-may g c =
    let o = ports g in
    let m = c.args.self.now in
    let x = object_of c.args.job in
    let on = on_then o (seat_of m) (at (teller_of m) (On c.args.job.slot (Body x c.args.to 1)))
    (at (teller_of m) (On c.args.job.slot (Body x c.args.to c.loop-j.j))) c.args.port.now c.loop-j.port
    c.requires c.loop-j.invariant in
    write_may o (seat_of m) (teller_of m) c.args.job.slot x c.args.to c.loop-j.j c.loop-j.port on c.loop-j-test.true c.load-word.result c.load-word.new.self
    c.load-word.ensures.seen c.load-word.ensures.led

pub loop-j-preserved : goal.loop-j-preserved
loop-j-preserved g c =
    let o = ports g in
    let m = c.args.self.now in
    let x = object_of c.args.job in
    let start = at (teller_of m) (On c.args.job.slot (Body x c.args.to 1)) in
    let here = at (teller_of m) (On c.args.job.slot (Body x c.args.to c.loop-j.j)) in
    let on = on_then o (seat_of m) start here c.args.port.now c.loop-j.port c.requires c.loop-j.invariant in
    gone_then o (seat_of m) start here _ c.args.port.now c.loop-j.port c.store.new.self c.loop-j.invariant
    (word_copied o (seat_of m) (teller_of m) c.args.job.slot x c.args.to c.loop-j.j c.loop-j.port on c.loop-j-test.true c.load-word.result c.load-word.new.self
    c.load-word.ensures.seen c.load-word.ensures.led c.store.new.self c.store.ensures.seen c.store.ensures.led)
