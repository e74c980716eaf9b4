use Rattle.std.proofs.Common.{◌-◌, ◌<◌, sym, subst}
use Rattle.sg_copy.specs.declared.copier.Hand.{Hand}
use Rattle.sg_round.specs.Worker.{Idle}
use Rattle.sg_copy.specs.Telling.{at}
use Rattle.sg_copy.specs.State.{teller_of}
use Rattle.sg_copy.proofs.Ports.{Ports}
use Rattle.sg_copy.proofs.Handing.{scan_on, scan_next, scanned, scan_ends}
use Rattle.sg_copy.proofs.copier.Copier.scan.Given.{Over}
use Rattle.sg_copy.proofs.copier.Copier.scan.Goals as goal

abbrev ports : (g : Over) → Ports g.row.P.Denot
ports g = record {
  leads = g.P.Port.leads;
  may = g.P.Port.may;
  sees = g.P.Port.sees;
  blocks = g.P.BlockPort.blocks;
  stays = g.P.Port.stays;
  chains = g.P.Port.chains;
  fixed = g.met.P.BlockPort.fixed_blocks;
}

pub visit-requires-clause-on : goal.visit-requires-clause-on
visit-requires-clause-on g c =
    let o = ports g in
    let m = c.args.self.now in
    let s = c.loop-slot.self in
    let k = c.next_slot.new.self in
    let p = c.args.port.now in
    let y = c.loop-slot.port in
    let i = c.loop-slot.invariant in
    let here = at (teller_of s) Idle in
    let on = scan_on o m s k c.in-Some.slot p y c.requires.on i.gone i.same i.between c.next_slot.ensures.same in
    let next = scan_next o m s k c.in-Some.slot p y c.requires.on i.gone i.same i.between c.next_slot.ensures.same c.in-Some.ensures.next in
    (here, next, on)

pub returns-then-not-is_between-clause-gone : goal.returns-then-not-is_between-clause-gone
returns-then-not-is_between-clause-gone g c =
    let o = ports g in
    let m = c.args.self.now in
    let s = c.loop-slot.self in
    let k = c.next_slot.new.self in
    let p = c.args.port.now in
    let y = c.loop-slot.port in
    let i = c.loop-slot.invariant in
    let here = at (teller_of s) Idle in
    let on = scan_on o m s k c.in-Some.slot p y c.requires.on i.gone i.same i.between c.next_slot.ensures.same in
    let next = scan_next o m s k c.in-Some.slot p y c.requires.on i.gone i.same i.between c.next_slot.ensures.same c.in-Some.ensures.next in
    let begun = c.visit.ensures here next on in
    let all = scanned o m s k c.in-Some.slot p y c.requires.on i.gone i.same i.between c.next_slot.ensures.same c.in-Some.ensures.next
    c.visit.new.self c.visit.new.port begun in
    all.0

pub returns-then-not-is_between-clause-same : goal.returns-then-not-is_between-clause-same
returns-then-not-is_between-clause-same g c =
    let o = ports g in
    let m = c.args.self.now in
    let s = c.loop-slot.self in
    let k = c.next_slot.new.self in
    let p = c.args.port.now in
    let y = c.loop-slot.port in
    let i = c.loop-slot.invariant in
    let here = at (teller_of s) Idle in
    let on = scan_on o m s k c.in-Some.slot p y c.requires.on i.gone i.same i.between c.next_slot.ensures.same in
    let next = scan_next o m s k c.in-Some.slot p y c.requires.on i.gone i.same i.between c.next_slot.ensures.same c.in-Some.ensures.next in
    let begun = c.visit.ensures here next on in
    let all = scanned o m s k c.in-Some.slot p y c.requires.on i.gone i.same i.between c.next_slot.ensures.same c.in-Some.ensures.next
    c.visit.new.self c.visit.new.port begun in
    all.1

pub loop-slot-smaller : goal.loop-slot-smaller
loop-slot-smaller g c =
    let o = ports g in
    let m = c.args.self.now in
    let s = c.loop-slot.self in
    let k = c.next_slot.new.self in
    let p = c.args.port.now in
    let y = c.loop-slot.port in
    let i = c.loop-slot.invariant in
    let here = at (teller_of s) Idle in
    let on = scan_on o m s k c.in-Some.slot p y c.requires.on i.gone i.same i.between c.next_slot.ensures.same in
    let next = scan_next o m s k c.in-Some.slot p y c.requires.on i.gone i.same i.between c.next_slot.ensures.same c.in-Some.ensures.next in
    let begun = c.visit.ensures here next on in
    let all = scanned o m s k c.in-Some.slot p y c.requires.on i.gone i.same i.between c.next_slot.ensures.same c.in-Some.ensures.next
    c.visit.new.self c.visit.new.port begun in
    subst (λ (hand : Hand). hand.fields - hand.from < s.hand.fields - s.hand.from) (sym begun.same.hand) c.in-Some.ensures.fewer

pub loop-slot-preserved : goal.loop-slot-preserved
loop-slot-preserved g c =
    let o = ports g in
    let m = c.args.self.now in
    let s = c.loop-slot.self in
    let k = c.next_slot.new.self in
    let p = c.args.port.now in
    let y = c.loop-slot.port in
    let i = c.loop-slot.invariant in
    let here = at (teller_of s) Idle in
    let on = scan_on o m s k c.in-Some.slot p y c.requires.on i.gone i.same i.between c.next_slot.ensures.same in
    let next = scan_next o m s k c.in-Some.slot p y c.requires.on i.gone i.same i.between c.next_slot.ensures.same c.in-Some.ensures.next in
    let begun = c.visit.ensures here next on in
    let all = scanned o m s k c.in-Some.slot p y c.requires.on i.gone i.same i.between c.next_slot.ensures.same c.in-Some.ensures.next
    c.visit.new.self c.visit.new.port begun in
    record { gone = all.0; same = all.1; between = c.is_between.ensures.0 c.if-not-is_between.false }

pub returns-clause-gone : goal.returns-clause-gone
returns-clause-gone g c =
    let o = ports g in
    let m = c.args.self.now in
    let s = c.loop-slot.self in
    let k = c.next_slot.new.self in
    let p = c.args.port.now in
    let y = c.loop-slot.port in
    let i = c.loop-slot.invariant in
    scan_ends o m s k 0 p y c.requires.on i.gone i.same i.between c.next_slot.ensures.same c.in_default.ensures.next.0 c.in_default.ensures.next.1
