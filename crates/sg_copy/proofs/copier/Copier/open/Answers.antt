use Rattle.std.proofs.Common.{arith}
use Rattle.sg_copy.specs.State.{teller_of, seat_of}
use Rattle.sg_copy.proofs.Ports.{Ports}
use Rattle.sg_copy.proofs.Handing.{open_may, count_may, count_short, opened, taken_same, taken_is}
use Rattle.sg_copy.proofs.Handled.{idle_is, started_to}
use Rattle.sg_copy.proofs.copier.Copier.open.Given.{Over}
use Rattle.sg_copy.proofs.copier.Copier.open.Goals as goal

abbrev ports : (g : Over) → Ports g.row.P.Denot
ports g = record {
  leads = g.P.Port.leads;
  may = g.P.Port.may;
  sees = g.P.Port.sees;
  blocks = g.P.BlockPort.blocks;
  stays = g.P.Port.stays;
  chains = g.P.Port.chains;
  fixed = g.met.P.BlockPort.fixed_blocks;
}

pub load-first-requires-clause-may : goal.load-first-requires-clause-may
load-first-requires-clause-may g c =
    let m = c.args.self.now in
    open_may (ports g) (seat_of m) (teller_of m) c.args.whole c.requires.on.0 c.requires.on.1 c.args.port.now c.requires.on.2

pub load-fields-requires-clause-may : goal.load-fields-requires-clause-may
load-fields-requires-clause-may g c =
    let m = c.args.self.now in
    let first = c.load-first in
    count_may (ports g) (seat_of m) (teller_of m) c.args.whole c.requires.on.0 c.requires.on.1 c.args.port.now c.requires.on.2
    first.result first.new.self first.ensures.seen first.ensures.led

pub overflow_cast-fields : goal.overflow_cast-fields
overflow_cast-fields g c =
    let m = c.args.self.now in
    let first = c.load-first in
    let fields = c.load-fields in
    let short = count_short (ports g) (seat_of m) (teller_of m) c.args.whole c.requires.on.0 c.requires.on.1 c.args.port.now c.requires.on.2
    first.result first.new.self first.ensures.seen first.ensures.led fields.result fields.new.self fields.ensures.seen fields.ensures.led in
    omega (arith, short)

pub returns : goal.returns
returns g c a isn on =
    let o = ports g in
    let m = c.args.self.now in
    let p = c.args.port.now in
    let d = c.take_in_hand.new.self in
    let first = c.load-first in
    let fields = c.load-fields in
    let start = opened o (seat_of m) (teller_of m) c.args.whole a isn p on
    first.result first.new.self first.ensures.seen first.ensures.led fields.result fields.new.self fields.ensures.seen fields.ensures.led in
    let taken = taken_is m d c.args.whole first.result fields.result c.take_in_hand.ensures (idle_is m c.requires.between) in
    record {
      started = started_to o (seat_of m) a _ (teller_of d) p fields.new.self taken start;
      same = taken_same m d c.args.whole first.result fields.result c.take_in_hand.ensures;
    }
