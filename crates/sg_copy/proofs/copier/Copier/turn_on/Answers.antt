use Rattle.std.proofs.Common.{refl, subst}
use Rattle.sg_copy.specs.Telling.{Seat}
use Rattle.sg_copy.specs.State.{teller_of, seat_of}
use Rattle.sg_copy.proofs.Ports.{Ports, Gone, on_started, started_then}
use Rattle.sg_copy.proofs.Handled.{seat_same, on_as}
use Rattle.sg_copy.proofs.copier.Copier.turn_on.Given.{Over}
use Rattle.sg_copy.proofs.copier.Copier.turn_on.Goals as goal

abbrev ports : (g : Over) → Ports g.row.P.Denot
ports g = record {
  leads = g.P.Port.leads;
  may = g.P.Port.may;
  sees = g.P.Port.sees;
  blocks = g.P.BlockPort.blocks;
  stays = g.P.Port.stays;
  chains = g.P.Port.chains;
  fixed = g.met.P.BlockPort.fixed_blocks;
}

pub scan-requires-clause-on : goal.scan-requires-clause-on
scan-requires-clause-on g c =
    let o = ports g in
    let m = c.args.self.now in
    let d = c.begin.new.self in
    let y = c.begin.new.port in
    on_as o (seat_of m) (seat_of d) (teller_of d) (teller_of d) y (seat_same m d c.begin.ensures.same) refl
    (on_started o (seat_of m) (teller_of m) (teller_of d) c.args.port.now y c.requires.on c.begin.ensures.started)

pub returns-then-is_between-clause-turned : goal.returns-then-is_between-clause-turned
returns-then-is_between-clause-turned g c =
    let o = ports g in
    let m = c.args.self.now in
    let d = c.begin.new.self in
    let y = c.begin.new.port in
    let e = c.scan.new.self in
    let z = c.scan.new.port in
    let gone = subst (λ (h : Seat). Gone o h (teller_of d) y (teller_of e) z) (seat_same m d c.begin.ensures.same) c.scan.ensures.gone in
    record {
      started = started_then o (seat_of m) (teller_of m) (teller_of d) (teller_of e) c.args.port.now y z c.begin.ensures.started gone;
      rests = c.scan.ensures.rests;
    }
