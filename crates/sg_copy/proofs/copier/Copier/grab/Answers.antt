use Rattle.sg_round.specs.Worker.{Seek, Grab, Took}
use Rattle.sg_copy.specs.Grays.{item_of}
use Rattle.sg_copy.specs.Telling.{at}
use Rattle.sg_copy.specs.State.{teller_of, seat_of}
use Rattle.sg_copy.proofs.Ports.{Ports}
use Rattle.sg_copy.proofs.Cells.{next_taken, looks_again, swap_may, swap_won, swap_lost}
use Rattle.sg_copy.proofs.Items.{set_out_then}
use Rattle.sg_copy.proofs.copier.Copier.grab.Given.{Over}
use Rattle.sg_copy.proofs.copier.Copier.grab.Goals as goal

abbrev ports : (g : Over) → Ports g.row.P.Denot
ports g = record {
  leads = g.P.Port.leads;
  may = g.P.Port.may;
  sees = g.P.Port.sees;
  blocks = g.P.BlockPort.blocks;
  stays = g.P.Port.stays;
  chains = g.P.Port.chains;
  fixed = g.met.P.BlockPort.fixed_blocks;
}

pub swap_cell-requires : goal.swap_cell-requires
swap_cell-requires g c =
    let m = c.args.self.now in
    record {
      may = swap_may (ports g) (seat_of m) c.place_in_team-number.result c.place_in_team-number.ensures (teller_of m) c.args.cell (item_of c.args.item)
          c.args.port.now c.requires.on c.to_word.result c.to_word.ensures;
    }

pub go_through-requires-clause-on : goal.go_through-requires-clause-on
go_through-requires-clause-on g c =
    let m = c.args.self.now in
    let t = teller_of m in
    let item = item_of c.args.item in
    let won = swap_won (ports g) (seat_of m) c.place_in_team-number.result c.place_in_team-number.ensures t c.args.cell item c.args.port.now
    c.requires.on c.to_word.result c.to_word.ensures c.swap_cell.new.self c.in-Ok.ensures.seen c.in-Ok.ensures.led in
    (at t (Took item), next_taken t item, won.0)

pub seek-requires-clause-on : goal.seek-requires-clause-on
seek-requires-clause-on g c =
    let m = c.args.self.now in
    let t = teller_of m in
    let i = c.args.cell in
    let item = item_of c.args.item in
    let lost = swap_lost (ports g) (seat_of m) c.place_in_team-number.result c.place_in_team-number.ensures t i item c.args.port.now
    c.requires.on c.to_word.result c.to_word.ensures c.in-Err.field-0 c.swap_cell.new.self c.in-Err.ensures.seen c.in-Err.ensures.led in
    (at t (Seek i), looks_again (seat_of m).area m.team t i item c.requires.on.guided.is_sane.worker.at, lost.0)

pub returns-in-Ok : goal.returns-in-Ok
returns-in-Ok g c =
    let o = ports g in
    let m = c.args.self.now in
    let t = teller_of m in
    let i = c.args.cell in
    let p = c.args.port.now in
    let q = c.swap_cell.new.self in
    let item = item_of c.args.item in
    let won = swap_won o (seat_of m) c.place_in_team-number.result c.place_in_team-number.ensures t i item p
    c.requires.on c.to_word.result c.to_word.ensures q c.in-Ok.ensures.seen c.in-Ok.ensures.led in
    set_out_then o m c.go_through.new.self (at t (Grab i item)) (at t (Took item)) p q c.go_through.new.port (λ r. r) won.1
    (c.go_through.ensures (at t (Took item)) (next_taken t item) won.0)

pub returns-in-Err : goal.returns-in-Err
returns-in-Err g c =
    let o = ports g in
    let m = c.args.self.now in
    let t = teller_of m in
    let i = c.args.cell in
    let p = c.args.port.now in
    let q = c.swap_cell.new.self in
    let item = item_of c.args.item in
    let lost = swap_lost o (seat_of m) c.place_in_team-number.result c.place_in_team-number.ensures t i item p
    c.requires.on c.to_word.result c.to_word.ensures c.in-Err.field-0 q c.in-Err.ensures.seen c.in-Err.ensures.led in
    let looks = looks_again (seat_of m).area m.team t i item c.requires.on.guided.is_sane.worker.at in
    set_out_then o m c.seek.new.self (at t (Grab i item)) (at t (Seek i)) p q c.seek.new.port (λ r. r) lost.1
    (c.seek.ensures (at t (Seek i)) looks lost.0)
