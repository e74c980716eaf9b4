use Rattle.std.proofs.Common.{sym, subst}
use Rattle.sg_slots.specs.Looks.{MayLook, AreLooks}
use Rattle.sg_slots.specs.declared.search.Found.TheVariants.{Free, Slot, None}
use Rattle.sg_round.specs.Worker.{size_for}
use Rattle.sg_copy.specs.declared.copier.Stage.TheVariants.{Taking, Claiming, Pinning}
use Rattle.sg_copy.specs.State.{teller_of, seat_of, object_of}
use Rattle.sg_copy.proofs.Ports.{Ports}
use Rattle.sg_copy.proofs.Places.{look_at, may_look, looked}
use Rattle.sg_copy.proofs.Handled.{handled_at}
use Rattle.sg_copy.proofs.copier.Copier.search.Given.{Over}
use Rattle.sg_copy.proofs.copier.Copier.search.Goals as goal

abbrev ports : (g : Over) → Ports g.row.P.Denot
ports g = record {
  leads = g.P.Port.leads;
  may = g.P.Port.may;
  sees = g.P.Port.sees;
  blocks = g.P.BlockPort.blocks;
  stays = g.P.Port.stays;
  chains = g.P.Port.chains;
  fixed = g.met.P.BlockPort.fixed_blocks;
}

pub find-requires-clause-may : goal.find-requires-clause-may
find-requires-clause-may g c =
    let o = ports g in
    let m = c.args.self.now in
    let x = object_of c.args.job in
    let p = c.args.port.now in
    let may = may_look o (seat_of m) (teller_of m) c.args.job.slot x c.args.from p c.requires.on in
    subst (λ z. MayLook o.leads o.sees o.may z (o.blocks p) c.args.from p) (sym c.size_of.ensures.size)
    (subst (λ n. MayLook o.leads o.sees o.may (size_for x) n c.args.from p) (sym c.requires.on.blocks_are) may)

pub returns-in-Free : goal.returns-in-Free
returns-in-Free g c =
    let o = ports g in
    let m = c.args.self.now in
    let x = object_of c.args.job in
    let p = c.args.port.now in
    let look = c.in-Free.ensures in
    let are : AreLooks (size_for x) (seat_of m).area.blocks c.args.from look.0 (Free c.in-Free.block) =
    subst (λ n. AreLooks (size_for x) n c.args.from look.0 (Free c.in-Free.block)) c.requires.on.blocks_are
    (subst (λ z. AreLooks z (o.blocks p) c.args.from look.0 (Free c.in-Free.block)) c.size_of.ensures.size look.2) in
    handled_at o m c.set_stage.new.self (look_at o (seat_of m) (teller_of m) c.args.job.slot x c.args.from) p c.find.new.port
    (Taking c.args.job c.in-Free.block) c.set_stage.ensures tt
    (looked o (seat_of m) (teller_of m) c.args.job.slot x c.args.from p c.requires.on look.0 (Free c.in-Free.block) c.find.new.port are look.1)

pub returns-in-Slot : goal.returns-in-Slot
returns-in-Slot g c =
    let o = ports g in
    let m = c.args.self.now in
    let x = object_of c.args.job in
    let p = c.args.port.now in
    let look = c.in-Slot.ensures in
    let are : AreLooks (size_for x) (seat_of m).area.blocks c.args.from look.0 (Slot c.in-Slot.block c.in-Slot.slot) =
    subst (λ n. AreLooks (size_for x) n c.args.from look.0 (Slot c.in-Slot.block c.in-Slot.slot)) c.requires.on.blocks_are
    (subst (λ z. AreLooks z (o.blocks p) c.args.from look.0 (Slot c.in-Slot.block c.in-Slot.slot)) c.size_of.ensures.size look.2) in
    handled_at o m c.set_stage-in-Slot.new.self (look_at o (seat_of m) (teller_of m) c.args.job.slot x c.args.from) p c.find.new.port
    (Claiming c.args.job c.in-Slot.block c.in-Slot.slot) c.set_stage-in-Slot.ensures tt
    (looked o (seat_of m) (teller_of m) c.args.job.slot x c.args.from p c.requires.on look.0 (Slot c.in-Slot.block c.in-Slot.slot) c.find.new.port are look.1)

pub returns-in-None : goal.returns-in-None
returns-in-None g c =
    let o = ports g in
    let m = c.args.self.now in
    let x = object_of c.args.job in
    let p = c.args.port.now in
    let look = c.in-None.ensures in
    let are : AreLooks (size_for x) (seat_of m).area.blocks c.args.from look.0 (None) =
    subst (λ n. AreLooks (size_for x) n c.args.from look.0 (None)) c.requires.on.blocks_are
    (subst (λ z. AreLooks z (o.blocks p) c.args.from look.0 (None)) c.size_of.ensures.size look.2) in
    handled_at o m c.set_stage-in-None.new.self (look_at o (seat_of m) (teller_of m) c.args.job.slot x c.args.from) p c.find.new.port
    (Pinning c.args.job) c.set_stage-in-None.ensures tt
    (looked o (seat_of m) (teller_of m) c.args.job.slot x c.args.from p c.requires.on look.0 (None) c.find.new.port are look.1)
