use Rattle.std.proofs.Common.{◌≡◌, ◌≢◌, ◌<◌, length, slice_index, subst, sym, ap, ◌∙◌, arith}
use Rattle.sg_words.specs.Words.{put}
use Rattle.sg_round.specs.Worker.{Object, On as OnSlot, Size, Body, size_for, looking}
use Rattle.sg_copy.specs.Telling.{at}
use Rattle.sg_copy.specs.State.{worker_of, teller_of, seat_of}
use Rattle.sg_copy.specs.Turning.{HasHandled}
use Rattle.sg_copy.proofs.Ports.{Ports, On}
use Rattle.sg_copy.proofs.Looks.{spared, size_may, size_short, spare_used, none_spare}
use Rattle.sg_copy.proofs.Handled.{seat_same, same_spares, at_spare, on_as, handled_as, handled_then}
use Rattle.sg_copy.proofs.copier.Copier.prepare.Given.{Over}
use Rattle.sg_copy.proofs.copier.Copier.prepare.Goals as goal

abbrev ports : (g : Over) → Ports g.row.P.Denot
ports g = record {
  leads = g.P.Port.leads;
  may = g.P.Port.may;
  sees = g.P.Port.sees;
  blocks = g.P.BlockPort.blocks;
  stays = g.P.Port.stays;
  chains = g.P.Port.chains;
  fixed = g.met.P.BlockPort.fixed_blocks;
}

pub load-fields-requires-clause-may : goal.load-fields-requires-clause-may
load-fields-requires-clause-may g c =
    size_may (ports g) (seat_of c.args.self.now) (teller_of c.args.self.now) c.args.slot c.args.from c.args.class c.args.port.now c.requires.on

pub overflow_cast-fields : goal.overflow_cast-fields
overflow_cast-fields g c =
    let short = size_short (ports g) (seat_of c.args.self.now) (teller_of c.args.self.now) c.args.slot c.args.from c.args.class c.args.port.now
    c.requires.on c.load-fields.result c.load-fields.new.self
    c.load-fields.ensures.seen c.load-fields.ensures.led in
    omega (arith, short)

pub size_of-size-requires : goal.size_of-size-requires
size_of-size-requires g c =
    size_short (ports g) (seat_of c.args.self.now) (teller_of c.args.self.now) c.args.slot c.args.from c.args.class c.args.port.now c.requires.on
    c.load-fields.result c.load-fields.new.self
    c.load-fields.ensures.seen c.load-fields.ensures.led

pub search-requires-clause-short : goal.search-requires-clause-short
search-requires-clause-short g c =
    size_short (ports g) (seat_of c.args.self.now) (teller_of c.args.self.now) c.args.slot c.args.from c.args.class c.args.port.now c.requires.on
    c.load-fields.result c.load-fields.new.self
    c.load-fields.ensures.seen c.load-fields.ensures.led

pub write-requires-clause-on : goal.write-requires-clause-on
write-requires-clause-on g c =
    let o = ports g in
    let m = c.args.self.now in
    let p = c.args.port.now in
    let q = c.load-fields.new.self in
    let n = c.load-fields.result in
    let s = c.args.slot in
    let x : Object = record { x = c.args.from; class = c.args.class; n = n } in
    let size : c.size_of-size.result ≡ size_for x = c.size_of-size.ensures.size in
    let spare : c.spare-to.result ≡ (teller_of m).worker.spare (size_for x) = c.spare-to.ensures ∙ ap (slice_index m.spares) size in
    let some : (teller_of m).worker.spare (size_for x) ≢ 0 = λ e. c.if-to-ne0.true (spare ∙ e) in
    let used = spare_used o (seat_of m) (teller_of m) s c.args.from c.args.class p c.requires.on n q c.load-fields.ensures.seen
    c.load-fields.ensures.led some in
    let k = c.set_spare.new.self in
    let same = same_spares m k _ c.set_spare.ensures.value in
    let room : c.size_of-size.result < length m.spares = omega (arith, c.size_of-size.ensures.most, c.set_spare.ensures.length) in
    let here = spared o (seat_of m) (teller_of m) s c.args.from c.args.class p c.requires.on n in
    let is : at (teller_of k) (OnSlot s (Body x c.spare-to.result 1)) ≡ here =
    at_spare m k c.size_of-size.result (size_for x) 0 (OnSlot s (Body x c.spare-to.result 1)) c.set_spare.ensures.value size room
    ∙ ap (λ at. record (teller_of m)
    { worker = record (worker_of m) { spare = put (worker_of m).spare (size_for x) 0; mid = OnSlot s (Body x at 1) } }) spare in
    on_as o (seat_of m) (seat_of k) here _ q (seat_same m k same.copier) is used.0

pub search-requires-clause-on : goal.search-requires-clause-on
search-requires-clause-on g c =
    let o = ports g in
    let m = c.args.self.now in
    let p = c.args.port.now in
    let q = c.load-fields.new.self in
    let n = c.load-fields.result in
    let s = c.args.slot in
    let x : Object = record { x = c.args.from; class = c.args.class; n = n } in
    let size : c.size_of-size.result ≡ size_for x = c.size_of-size.ensures.size in
    let spare : c.spare-to.result ≡ (teller_of m).worker.spare (size_for x) = c.spare-to.ensures ∙ ap (slice_index m.spares) size in
    let none : (teller_of m).worker.spare (size_for x) ≡ 0 = sym spare ∙ c.if-to-ne0.false in
    let used = none_spare o (seat_of m) (teller_of m) s c.args.from c.args.class p c.requires.on n q c.load-fields.ensures.seen
    c.load-fields.ensures.led none in
    let passed : c.passed-from.result ≡ (teller_of m).worker.passed (size_for x) = c.passed-from.ensures ∙ ap (slice_index m.passed) size in
    subst (λ b. On o (seat_of m) q (at (teller_of m) (OnSlot s (looking (seat_of m).area x b)))) (sym passed) used.0

pub returns-then-to-ne0 : goal.returns-then-to-ne0
returns-then-to-ne0 g c =
    let o = ports g in
    let m = c.args.self.now in
    let p = c.args.port.now in
    let q = c.load-fields.new.self in
    let n = c.load-fields.result in
    let s = c.args.slot in
    let x : Object = record { x = c.args.from; class = c.args.class; n = n } in
    let size : c.size_of-size.result ≡ size_for x = c.size_of-size.ensures.size in
    let spare : c.spare-to.result ≡ (teller_of m).worker.spare (size_for x) = c.spare-to.ensures ∙ ap (slice_index m.spares) size in
    let some : (teller_of m).worker.spare (size_for x) ≢ 0 = λ e. c.if-to-ne0.true (spare ∙ e) in
    let used = spare_used o (seat_of m) (teller_of m) s c.args.from c.args.class p c.requires.on n q c.load-fields.ensures.seen
    c.load-fields.ensures.led some in
    let k = c.set_spare.new.self in
    let same = same_spares m k _ c.set_spare.ensures.value in
    let room : c.size_of-size.result < length m.spares = omega (arith, c.size_of-size.ensures.most, c.set_spare.ensures.length) in
    let here = spared o (seat_of m) (teller_of m) s c.args.from c.args.class p c.requires.on n in
    let is : at (teller_of k) (OnSlot s (Body x c.spare-to.result 1)) ≡ here =
    at_spare m k c.size_of-size.result (size_for x) 0 (OnSlot s (Body x c.spare-to.result 1)) c.set_spare.ensures.value size room
    ∙ ap (λ at. record (teller_of m)
    { worker = record (worker_of m) { spare = put (worker_of m).spare (size_for x) 0; mid = OnSlot s (Body x at 1) } }) spare in
    let start = at (teller_of m) (OnSlot s (Size c.args.from c.args.class)) in
    handled_then o m c.write.new.self start here p q c.write.new.port used.1
    (handled_as o m k c.write.new.self here (at (teller_of k) (OnSlot s (Body x c.spare-to.result 1))) q c.write.new.port same is c.write.ensures)

pub returns-else-to-ne0 : goal.returns-else-to-ne0
returns-else-to-ne0 g c =
    let o = ports g in
    let m = c.args.self.now in
    let p = c.args.port.now in
    let q = c.load-fields.new.self in
    let n = c.load-fields.result in
    let s = c.args.slot in
    let x : Object = record { x = c.args.from; class = c.args.class; n = n } in
    let size : c.size_of-size.result ≡ size_for x = c.size_of-size.ensures.size in
    let spare : c.spare-to.result ≡ (teller_of m).worker.spare (size_for x) = c.spare-to.ensures ∙ ap (slice_index m.spares) size in
    let none : (teller_of m).worker.spare (size_for x) ≡ 0 = sym spare ∙ c.if-to-ne0.false in
    let used = none_spare o (seat_of m) (teller_of m) s c.args.from c.args.class p c.requires.on n q c.load-fields.ensures.seen
    c.load-fields.ensures.led none in
    let passed : c.passed-from.result ≡ (teller_of m).worker.passed (size_for x) = c.passed-from.ensures ∙ ap (slice_index m.passed) size in
    let start = at (teller_of m) (OnSlot s (Size c.args.from c.args.class)) in
    let here = at (teller_of m) (OnSlot s (looking (seat_of m).area x ((teller_of m).worker.passed (size_for x)))) in
    handled_then o m c.search.new.self start here p q c.search.new.port used.1
    (subst (λ b. HasHandled m o.leads (at (teller_of m) (OnSlot s (looking (seat_of m).area x b))) q c.search.new.self c.search.new.port) passed
    c.search.ensures)
