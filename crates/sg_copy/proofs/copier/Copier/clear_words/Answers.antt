use Rattle.std.proofs.Common.{◌≡◌, ◌+◌, ◌<◌, ◌≤◌, subst, arith}
use Rattle.sg_words.proofs.Blocks.{slot_size-holds}
use Rattle.sg_round.specs.Worker.{On, Body, size_for}
use Rattle.sg_copy.specs.Telling.{at}
use Rattle.sg_copy.specs.State.{teller_of, seat_of, object_of}
use Rattle.sg_copy.proofs.Ports.{Ports, Gone, none_yet, on_then, gone_then}
use Rattle.sg_copy.proofs.Bodies.{clear_may, word_cleared}
use Rattle.sg_copy.proofs.copier.Copier.clear_words.Given.{Over}
use Rattle.sg_copy.proofs.copier.Copier.clear_words.Goals as goal

abbrev ports : (g : Over) → Ports g.row.P.Denot
ports g = record {
  leads = g.P.Port.leads;
  may = g.P.Port.may;
  sees = g.P.Port.sees;
  blocks = g.P.BlockPort.blocks;
  stays = g.P.Port.stays;
  chains = g.P.Port.chains;
  fixed = g.met.P.BlockPort.fixed_blocks;
}

pub loop-j-init : goal.loop-j-init
loop-j-init g c = none_yet (ports g) (seat_of c.args.self.now) _ c.args.port.now c.requires

pub store-requires-clause-may : goal.store-requires-clause-may
store-requires-clause-may g c =
    let o = ports g in
    let m = c.args.self.now in
    let x = object_of c.args.job in
    let n = c.args.job.fields + 2 in
    let on = on_then o (seat_of m) (at (teller_of m) (On c.args.job.slot (Body x c.args.to n)))
    (at (teller_of m) (On c.args.job.slot (Body x c.args.to c.loop-j.j))) c.args.port.now c.loop-j.port
    c.requires c.loop-j.invariant in
    let size : c.size_of-j-end.result ≡ size_for x = c.size_of-j-end.ensures.size in
    let last : c.loop-j.j < size_for x = omega (arith, c.loop-j-test.true, size) in
    clear_may o (seat_of m) (teller_of m) c.args.job.slot x c.args.to c.loop-j.j c.loop-j.port on c.loop-j.auto.j last

pub loop-j-preserved : goal.loop-j-preserved
loop-j-preserved g c =
    let o = ports g in
    let m = c.args.self.now in
    let x = object_of c.args.job in
    let start = at (teller_of m) (On c.args.job.slot (Body x c.args.to (c.args.job.fields + 2))) in
    let here = at (teller_of m) (On c.args.job.slot (Body x c.args.to c.loop-j.j)) in
    let on = on_then o (seat_of m) start here c.args.port.now c.loop-j.port c.requires c.loop-j.invariant in
    let size : c.size_of-j-end.result ≡ size_for x = c.size_of-j-end.ensures.size in
    let last : c.loop-j.j < size_for x = omega (arith, c.loop-j-test.true, size) in
    gone_then o (seat_of m) start here _ c.args.port.now c.loop-j.port c.store.new.self c.loop-j.invariant
    (word_cleared o (seat_of m) (teller_of m) c.args.job.slot x c.args.to c.loop-j.j c.loop-j.port on c.loop-j.auto.j last c.store.new.self
    c.store.ensures.seen c.store.ensures.led)

pub returns : goal.returns
returns g c =
    let o = ports g in
    let m = c.args.self.now in
    let x = object_of c.args.job in
    let short : c.args.job.fields ≤ 62 = c.requires.guided.is_sane.worker.at.1.0.short in
    let holds : c.args.job.fields + 2 ≤ size_for x = slot_size-holds (c.args.job.fields + 2) (omega arith) in
    let size : c.size_of-j-end.result ≡ size_for x = c.size_of-j-end.ensures.size in
    let above : c.args.job.fields + 2 ≤ c.size_of-j-end.result = omega (arith, size, holds) in
    let last : c.loop-j.j ≡ size_for x = omega (arith, c.loop-j-test.false, c.loop-j.auto.j-end above, size) in
    subst (λ j. Gone o (seat_of m) (at (teller_of m) (On c.args.job.slot (Body x c.args.to (c.args.job.fields + 2)))) c.args.port.now
    (at (teller_of m) (On c.args.job.slot (Body x c.args.to j))) c.loop-j.port)
    last c.loop-j.invariant
