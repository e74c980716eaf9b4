use Rattle.std.proofs.Common.{◌≡◌, ◌<◌, length, inl, inr, sym, ap, ◌∙◌, arith}
use Rattle.std.specs.Int.{bit_at}
use Rattle.std.proofs.lemmas.Nat.Bits.{shr_and_one}
use Rattle.sg_words.proofs.Blocks.{bit_cases}
use Rattle.sg_words.specs.Words.{put}
use Rattle.sg_round.specs.Area.{place}
use Rattle.sg_round.specs.Worker.{On as OnSlot, Mark, Body, size_for}
use Rattle.sg_copy.specs.Telling.{Seat, at}
use Rattle.sg_copy.specs.State.{worker_of, teller_of, seat_of, object_of}
use Rattle.sg_copy.proofs.Ports.{Ports}
use Rattle.sg_copy.proofs.Places.{look_at}
use Rattle.sg_copy.proofs.Swaps.{marked, mark_may, slot_below, got_slot, lost_slot}
use Rattle.sg_copy.proofs.Handled.{seat_same, same_passed, at_passed, on_as, handled_as, begun_then}
use Rattle.sg_copy.proofs.copier.Copier.claim.Given.{Over}
use Rattle.sg_copy.proofs.copier.Copier.claim.Goals as goal

abbrev ports : (g : Over) → Ports g.row.P.Denot
ports g = record {
  leads = g.P.Port.leads;
  may = g.P.Port.may;
  sees = g.P.Port.sees;
  blocks = g.P.BlockPort.blocks;
  stays = g.P.Port.stays;
  chains = g.P.Port.chains;
  fixed = g.met.P.BlockPort.fixed_blocks;
}

pub take_slot-found-requires : goal.take_slot-found-requires
take_slot-found-requires g c =
    record {
      may = mark_may (ports g) (seat_of c.args.self.now) (teller_of c.args.self.now) c.args.job.slot (object_of c.args.job) c.args.block
          c.args.slot c.args.port.now c.requires.on;
    }

pub overflow_shr-found : goal.overflow_shr-found
overflow_shr-found g c = slot_below (ports g) (seat_of c.args.self.now) (teller_of c.args.self.now) c.args.job.slot (object_of c.args.job)
    c.args.block c.args.slot c.args.port.now c.requires.on

pub write-requires-clause-on : goal.write-requires-clause-on
write-requires-clause-on g c =
    let o = ports g in
    let m = c.args.self.now in
    let p = c.args.port.now in
    let q = c.take_slot-found.new.self in
    let s = c.args.job.slot in
    let x = object_of c.args.job in
    let b = c.args.block in
    let i = c.args.slot in
    let found = c.take_slot-found.result in
    let clear : bit_at found i ≡ 0 = sym (shr_and_one found i) ∙ c.if-found-slot-eq0.true in
    let got = got_slot o (seat_of m) (teller_of m) s x b i p c.requires.on found clear q (c.take_slot-found.ensures.seen, c.take_slot-found.ensures.led) in
    let k = c.set_passed.new.self in
    let same = same_passed m k _ c.set_passed.ensures.value in
    let size : c.size_of-size.result ≡ size_for x = c.size_of-size.ensures.size in
    let room : c.size_of-size.result < length m.passed = omega (arith, c.size_of-size.ensures.most, c.set_passed.ensures.length) in
    let here = marked o (seat_of m) (teller_of m) s x b i p c.requires.on in
    let to : c.place-to.result ≡ place (seat_of m).area b (size_for x) i =
    c.place-to.ensures ∙ ap (λ (h : Seat). place h.area b c.size_of-size.result i) (seat_same m k same.copier) ∙ ap
    (λ z. place (seat_of m).area b z i) size in
    let is : at (teller_of k) (OnSlot s (Body x c.place-to.result 1)) ≡ here =
    at_passed m k c.size_of-size.result (size_for x) b (OnSlot s (Body x c.place-to.result 1)) c.set_passed.ensures.value size room
    ∙ ap (λ at. record (teller_of m)
    { worker = record (worker_of m) { passed = put (worker_of m).passed (size_for x) b; mid = OnSlot s (Body x at 1) } }) to in
    on_as o (seat_of m) (seat_of k) here _ q (seat_same m k same.copier) is got.0

pub search-requires-clause-on : goal.search-requires-clause-on
search-requires-clause-on g c =
    let o = ports g in
    let m = c.args.self.now in
    let p = c.args.port.now in
    let q = c.take_slot-found.new.self in
    let s = c.args.job.slot in
    let x = object_of c.args.job in
    let b = c.args.block in
    let i = c.args.slot in
    let found = c.take_slot-found.result in
    let set : bit_at found i ≡ 1 = elim (bit_cases found i) [
      | inl one ↦ one
      | inr zero ↦ absurd (c.if-found-slot-eq0.false (shr_and_one found i ∙ zero))
    ] in
    let lost = lost_slot o (seat_of m) (teller_of m) s x b i p c.requires.on found set q (c.take_slot-found.ensures.seen, c.take_slot-found.ensures.led) in
    lost.0

pub returns-then-found-slot-eq0 : goal.returns-then-found-slot-eq0
returns-then-found-slot-eq0 g c =
    let o = ports g in
    let m = c.args.self.now in
    let p = c.args.port.now in
    let q = c.take_slot-found.new.self in
    let s = c.args.job.slot in
    let x = object_of c.args.job in
    let b = c.args.block in
    let i = c.args.slot in
    let found = c.take_slot-found.result in
    let clear : bit_at found i ≡ 0 = sym (shr_and_one found i) ∙ c.if-found-slot-eq0.true in
    let got = got_slot o (seat_of m) (teller_of m) s x b i p c.requires.on found clear q (c.take_slot-found.ensures.seen, c.take_slot-found.ensures.led) in
    let k = c.set_passed.new.self in
    let same = same_passed m k _ c.set_passed.ensures.value in
    let size : c.size_of-size.result ≡ size_for x = c.size_of-size.ensures.size in
    let room : c.size_of-size.result < length m.passed = omega (arith, c.size_of-size.ensures.most, c.set_passed.ensures.length) in
    let here = marked o (seat_of m) (teller_of m) s x b i p c.requires.on in
    let to : c.place-to.result ≡ place (seat_of m).area b (size_for x) i =
    c.place-to.ensures ∙ ap (λ (h : Seat). place h.area b c.size_of-size.result i) (seat_same m k same.copier) ∙ ap
    (λ z. place (seat_of m).area b z i) size in
    let is : at (teller_of k) (OnSlot s (Body x c.place-to.result 1)) ≡ here =
    at_passed m k c.size_of-size.result (size_for x) b (OnSlot s (Body x c.place-to.result 1)) c.set_passed.ensures.value size room
    ∙ ap (λ at. record (teller_of m)
    { worker = record (worker_of m) { passed = put (worker_of m).passed (size_for x) b; mid = OnSlot s (Body x at 1) } }) to in
    begun_then o m c.write.new.self (at (teller_of m) (OnSlot s (Mark x b i))) here p q c.write.new.port got.1
    (handled_as o m k c.write.new.self here (at (teller_of k) (OnSlot s (Body x c.place-to.result 1))) q c.write.new.port same is c.write.ensures)

pub returns-else-found-slot-eq0 : goal.returns-else-found-slot-eq0
returns-else-found-slot-eq0 g c =
    let o = ports g in
    let m = c.args.self.now in
    let p = c.args.port.now in
    let q = c.take_slot-found.new.self in
    let s = c.args.job.slot in
    let x = object_of c.args.job in
    let b = c.args.block in
    let i = c.args.slot in
    let found = c.take_slot-found.result in
    let set : bit_at found i ≡ 1 = elim (bit_cases found i) [
      | inl one ↦ one
      | inr zero ↦ absurd (c.if-found-slot-eq0.false (shr_and_one found i ∙ zero))
    ] in
    let lost = lost_slot o (seat_of m) (teller_of m) s x b i p c.requires.on found set q (c.take_slot-found.ensures.seen, c.take_slot-found.ensures.led) in
    begun_then o m c.search.new.self (at (teller_of m) (OnSlot s (Mark x b i))) (look_at o (seat_of m) (teller_of m) s x b) p q c.search.new.port
    lost.1 c.search.ensures
