use Rattle.sg_round.specs.Worker.{On as OnSlot, Look, Size, Send, Idle}
use Rattle.sg_copy.specs.Telling.{at}
use Rattle.sg_copy.specs.State.{teller_of, seat_of, staying}
use Rattle.sg_copy.proofs.Ports.{Ports, gone_then}
use Rattle.sg_copy.proofs.Looks.{look_may, plain_seen, forwarded_seen, staying_seen, send_may, sent_on}
use Rattle.sg_copy.proofs.Handled.{handled_idle, handled_then}
use Rattle.sg_copy.proofs.copier.Copier.look.Given.{Over}
use Rattle.sg_copy.proofs.copier.Copier.look.Goals as goal

abbrev ports : (g : Over) → Ports g.row.P.Denot
ports g = record {
  leads = g.P.Port.leads;
  may = g.P.Port.may;
  sees = g.P.Port.sees;
  blocks = g.P.BlockPort.blocks;
  stays = g.P.Port.stays;
  chains = g.P.Port.chains;
  fixed = g.met.P.BlockPort.fixed_blocks;
}

pub load-requires-clause-may : goal.load-requires-clause-may
load-requires-clause-may g c = look_may (ports g) (seat_of c.args.self.now) (teller_of c.args.self.now) c.args.slot c.args.target c.args.port.now c.requires.on

pub store-requires-clause-may : goal.store-requires-clause-may
store-requires-clause-may g c =
    let o = ports g in
    let m = c.args.self.now in
    let seen = forwarded_seen o (seat_of m) (teller_of m) c.args.slot c.args.target c.args.port.now c.requires.on c.load.result c.load.new.self
    c.load.ensures.seen c.load.ensures.led c.in-Forwarded.to c.in-Forwarded.ensures in
    send_may o (seat_of m) (teller_of m) c.args.slot c.in-Forwarded.to c.load.new.self seen.0

pub mark-requires : goal.mark-requires
mark-requires g c =
    let o = ports g in
    let m = c.args.self.now in
    (staying_seen o (seat_of m) (teller_of m) c.args.slot c.args.target c.args.port.now c.requires.on c.load.result c.load.new.self
    c.load.ensures.seen c.load.ensures.led
    c.in-Staying.ensures.0 c.in-Staying.ensures.1).0

pub prepare-requires-clause-on : goal.prepare-requires-clause-on
prepare-requires-clause-on g c =
    let o = ports g in
    let m = c.args.self.now in
    (plain_seen o (seat_of m) (teller_of m) c.args.slot c.args.target c.args.port.now c.requires.on c.load.result c.load.new.self c.load.ensures.seen
    c.load.ensures.led
    c.in-Plain.class c.in-Plain.ensures.1).0

pub returns-in-Forwarded : goal.returns-in-Forwarded
returns-in-Forwarded g c =
    let o = ports g in
    let m = c.args.self.now in
    let p = c.args.port.now in
    let q = c.load.new.self in
    let r = c.store.new.self in
    let seen = forwarded_seen o (seat_of m) (teller_of m) c.args.slot c.args.target p c.requires.on c.load.result q c.load.ensures.seen
    c.load.ensures.led c.in-Forwarded.to c.in-Forwarded.ensures in
    let start = at (teller_of m) (OnSlot c.args.slot (Look c.args.target)) in
    handled_idle o m start p r c.requires.between
    (gone_then o (seat_of m) start (at (teller_of m) (OnSlot c.args.slot (Send c.in-Forwarded.to))) (at (teller_of m) Idle) p q r seen.1
    (sent_on o (seat_of m) (teller_of m) c.args.slot c.in-Forwarded.to q seen.0 r c.store.ensures.seen c.store.ensures.led))

pub returns-in-Staying : goal.returns-in-Staying
returns-in-Staying g c =
    let o = ports g in
    let m = c.args.self.now in
    let p = c.args.port.now in
    let q = c.load.new.self in
    let r = c.mark.new.port in
    let seen = staying_seen o (seat_of m) (teller_of m) c.args.slot c.args.target p c.requires.on c.load.result q c.load.ensures.seen
    c.load.ensures.led c.in-Staying.ensures.0 c.in-Staying.ensures.1 in
    let start = at (teller_of m) (OnSlot c.args.slot (Look c.args.target)) in
    handled_idle o m start p r c.requires.between
    (gone_then o (seat_of m) start (at (teller_of m) (staying (seat_of m).area c.args.slot)) (at (teller_of m) Idle) p q r seen.1 c.mark.ensures)

pub returns-in-Plain : goal.returns-in-Plain
returns-in-Plain g c =
    let o = ports g in
    let m = c.args.self.now in
    let p = c.args.port.now in
    let q = c.load.new.self in
    let seen = plain_seen o (seat_of m) (teller_of m) c.args.slot c.args.target p c.requires.on c.load.result q c.load.ensures.seen c.load.ensures.led
    c.in-Plain.class c.in-Plain.ensures.1 in
    let start = at (teller_of m) (OnSlot c.args.slot (Look c.args.target)) in
    handled_then o m c.prepare.new.self start (at (teller_of m) (OnSlot c.args.slot (Size c.args.target c.in-Plain.class))) p q c.prepare.new.port
    seen.1 c.prepare.ensures
