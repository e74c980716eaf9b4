use Rattle.std.proofs.Common.{subst, sym, arith}
use Rattle.sg_round.specs.Worker.{On as OnSlot, Look, Idle}
use Rattle.sg_copy.specs.Telling.{at}
use Rattle.sg_copy.specs.State.{teller_of, seat_of, IsOnSlot}
use Rattle.sg_copy.proofs.Ports.{Ports}
use Rattle.sg_round.specs.Items.{SlotOf}
use Rattle.sg_copy.proofs.Handing.{next_sane}
use Rattle.sg_copy.proofs.Looks.{slot_may, slot_empty, slot_full}
use Rattle.sg_copy.proofs.Handled.{idle_is, same_handed, started_to, begun_then}
use Rattle.sg_copy.proofs.copier.Copier.visit.Given.{Over}
use Rattle.sg_copy.proofs.copier.Copier.visit.Goals as goal

abbrev ports : (g : Over) → Ports g.row.P.Denot
ports g = record {
  leads = g.P.Port.leads;
  may = g.P.Port.may;
  sees = g.P.Port.sees;
  blocks = g.P.BlockPort.blocks;
  stays = g.P.Port.stays;
  chains = g.P.Port.chains;
  fixed = g.met.P.BlockPort.fixed_blocks;
}

pub overflow_mul-slot : goal.overflow_mul-slot
overflow_mul-slot g c =
    let m = c.args.self.now in
    let a = c.requires.on.0 in
    let sane = c.requires.on.2.guided.is_sane.worker in
    let is = next_sane (seat_of m).area (seat_of m).team (seat_of m).most (seat_of m).number a.worker (at (teller_of m) Idle).worker
    (SlotOf c.args.slot) c.requires.on.1.next sane in
    let end = is.1 in
    let small = sane.limits.small in
    omega (arith, end, small)

pub load-value-requires-clause-may : goal.load-value-requires-clause-may
load-value-requires-clause-may g c =
    let m = c.args.self.now in
    slot_may (ports g) (seat_of m) (teller_of m) c.args.slot c.requires.on.0 c.requires.on.1 c.args.port.now c.requires.on.2

pub look-requires-clause-on : goal.look-requires-clause-on
look-requires-clause-on g c =
    let m = c.args.self.now in
    (slot_full (ports g) (seat_of m) (teller_of m) c.args.slot c.requires.on.0 c.requires.on.1 c.args.port.now c.requires.on.2 c.load-value.result
    c.load-value.new.self
    c.load-value.ensures.seen c.load-value.ensures.led c.in-Some.target c.in-Some.ensures.found.0 c.in-Some.ensures.found.1).0

pub returns-in-Some : goal.returns-in-Some
returns-in-Some g c a isn on =
    let o = ports g in
    let m = c.args.self.now in
    let full = slot_full o (seat_of m) (teller_of m) c.args.slot a isn c.args.port.now on c.load-value.result c.load-value.new.self
    c.load-value.ensures.seen c.load-value.ensures.led c.in-Some.target c.in-Some.ensures.found.0 c.in-Some.ensures.found.1 in
    begun_then o m c.look.new.self a (at (teller_of m) (OnSlot c.args.slot (Look c.in-Some.target))) c.args.port.now c.load-value.new.self
    c.look.new.port full.1 c.look.ensures

pub returns-in_default : goal.returns-in_default
returns-in_default g c a isn on =
    let o = ports g in
    let m = c.args.self.now in
    let empty = slot_empty o (seat_of m) (teller_of m) c.args.slot a isn c.args.port.now on c.load-value.result c.load-value.new.self
    c.load-value.ensures.seen c.load-value.ensures.led c.in_default.ensures.none in
    record {
      started = started_to o (seat_of m) a (at (teller_of m) Idle) (teller_of m) c.args.port.now c.load-value.new.self
          (sym (idle_is m c.requires.between)) empty;
      same = same_handed m;
      where_is = subst IsOnSlot (sym c.requires.between) tt;
    }
