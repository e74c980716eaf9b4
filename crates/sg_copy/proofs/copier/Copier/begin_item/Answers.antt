use Rattle.std.proofs.Common.{◌≡◌, List, [], map, inl, refl, sym, ap, subst}
use Rattle.sg_round.specs.Worker.{Idle}
use Rattle.sg_copy.specs.declared.gray.Gray.{Gray}
use Rattle.sg_copy.specs.Grays.{item_of}
use Rattle.sg_copy.specs.Telling.{Teller, at}
use Rattle.sg_copy.specs.State.{Copying, slots_in_hand, teller_of, seat_of}
use Rattle.sg_copy.specs.Turning.{LooksAt, HasSetOut}
use Rattle.sg_copy.proofs.Ports.{Ports, On}
use Rattle.sg_copy.proofs.Handing.{same_queue, next_listed}
use Rattle.sg_copy.proofs.Handled.{seat_same, on_as, set_out_as}
use Rattle.sg_copy.proofs.copier.Copier.begin_item.Given.{Over}
use Rattle.sg_copy.proofs.copier.Copier.begin_item.Goals as goal

abbrev ports : (g : Over) → Ports g.row.P.Denot
ports g = record {
  leads = g.P.Port.leads;
  may = g.P.Port.may;
  sees = g.P.Port.sees;
  blocks = g.P.BlockPort.blocks;
  stays = g.P.Port.stays;
  chains = g.P.Port.chains;
  fixed = g.met.P.BlockPort.fixed_blocks;
}

-- with no item in the list and no slot in hand, the worker looks at its first cell
looks_first : (m : Copying) → m.queue ≡ [] → slots_in_hand m.hand ≡ [] → LooksAt (at (teller_of m) Idle) 0 (at (teller_of m) Idle)
looks_first m e empty = record { where_is = inl (refl, refl); nothing = (ap (λ (queue : List Gray). map item_of queue) e, empty) }

pub go_through-requires-clause-on : goal.go_through-requires-clause-on
go_through-requires-clause-on g c =
    let m = c.args.self.now in
    let k = c.take_item.new.self in
    let a = at (teller_of m) Idle in
    let took = c.in-Some.ensures in
    let seats = seat_same m k (same_queue m k _ took.1) in
    (a, next_listed m k c.in-Some.item took.0 took.1 c.requires.empty, on_as (ports g) (seat_of m) (seat_of k) a a c.args.port.now seats refl c.requires.on)

pub seek-requires-clause-on : goal.seek-requires-clause-on
seek-requires-clause-on g c =
    let o = ports g in
    let m = c.args.self.now in
    let p = c.args.port.now in
    let took = c.in-None.ensures in
    subst (λ (n : Copying). (a : Teller) × LooksAt a 0 (at (teller_of n) Idle) × On o (seat_of n) p a) (sym took.1)
    (at (teller_of m) Idle, looks_first m took.0 c.requires.empty, c.requires.on)

pub returns-in-Some : goal.returns-in-Some
returns-in-Some g c =
    let o = ports g in
    let m = c.args.self.now in
    let k = c.take_item.new.self in
    let p = c.args.port.now in
    let a = at (teller_of m) Idle in
    let took = c.in-Some.ensures in
    let same = same_queue m k _ took.1 in
    let isn = next_listed m k c.in-Some.item took.0 took.1 c.requires.empty in
    let on = on_as o (seat_of m) (seat_of k) a a p (seat_same m k same) refl c.requires.on in
    set_out_as o m k c.go_through.new.self a p c.go_through.new.port same (c.go_through.ensures a isn on)

pub returns-in-None : goal.returns-in-None
returns-in-None g c =
    let o = ports g in
    let m = c.args.self.now in
    let p = c.args.port.now in
    let took = c.in-None.ensures in
    let all = subst (λ (n : Copying). (a : Teller) → LooksAt a 0 (at (teller_of n) Idle) → On o (seat_of n) p a →
    HasSetOut n o.leads a p c.seek.new.self c.seek.new.port) took.1 c.seek.ensures in
    all (at (teller_of m) Idle) (looks_first m took.0 c.requires.empty) c.requires.on
