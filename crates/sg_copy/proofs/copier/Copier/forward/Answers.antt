use Rattle.std.proofs.Common.{◌≡◌, ◌<◌, length, ap, ◌∙◌, arith}
use Rattle.sg_words.specs.Address.{byte_at}
use Rattle.sg_words.specs.Tags.{plain_word, forward_word}
use Rattle.sg_words.specs.declared.steps.Place.TheVariants.{Word}
use Rattle.sg_words.specs.declared.steps.Step.TheVariants.{Won, Lost}
use Rattle.sg_words.specs.declared.steps.Call.TheVariants.{Swaps}
use Rattle.sg_copy.specs.declared.copier.Stage.TheVariants.{Between}
use Rattle.sg_round.specs.Worker.{On as OnSlot, Swap, Send, Look, size_for}
use Rattle.sg_copy.specs.Telling.{at}
use Rattle.sg_copy.specs.State.{Copying, teller_of, seat_of, object_of}
use Rattle.sg_copy.proofs.Ports.{Ports, Did}
use Rattle.sg_copy.proofs.Looks.{send_may, sent_on}
use Rattle.sg_copy.proofs.Swaps.{swap_word_may, swapped, forwarded, lost_to, forward_may, has_forwarded, has_lost}
use Rattle.sg_copy.proofs.Handled.{seat_same, same_moved, same_spares, at_moved, at_spare, moves_room, on_as, handled_idle, handled_as, begun_then}
use Rattle.sg_copy.proofs.copier.Copier.forward.Given.{Over}
use Rattle.sg_copy.proofs.copier.Copier.forward.Goals as goal

abbrev ports : (g : Over) → Ports g.row.P.Denot
ports g = record {
  leads = g.P.Port.leads;
  may = g.P.Port.may;
  sees = g.P.Port.sees;
  blocks = g.P.BlockPort.blocks;
  stays = g.P.Port.stays;
  chains = g.P.Port.chains;
  fixed = g.met.P.BlockPort.fixed_blocks;
}

pub swap_first-requires : goal.swap_first-requires
swap_first-requires g c =
    let o = ports g in
    let m = c.args.self.now in
    let x = object_of c.args.job in
    record {
      may = swap_word_may o (seat_of m) (λ w v. Swaps (Word w) v (forward_word (byte_at c.args.to))) x.x (plain_word x.class) c.at_word.result
          c.write_tag-plain.result c.at_word.ensures c.write_tag-plain.ensures
          c.args.port.now (forward_may o (seat_of m) (teller_of m) c.args.job.slot x c.args.to c.args.port.now c.requires.on);
    }

pub tell_move-requires-clause-room : goal.tell_move-requires-clause-room
tell_move-requires-clause-room g c =
    let o = ports g in
    let m = c.args.self.now in
    let p = c.args.port.now in
    let q = c.swap_first.new.self in
    let s = c.args.job.slot in
    let x = object_of c.args.job in
    let to = c.args.to in
    let did : Did o (seat_of m) p (Won (Word x.x) (plain_word x.class) (forward_word (byte_at to))) q =
    swapped o (seat_of m) (λ w v. Won (Word w) v (forward_word (byte_at to))) x.x (plain_word x.class) c.at_word.result c.write_tag-plain.result
    c.at_word.ensures c.write_tag-plain.ensures p q
    c.in-Ok.ensures.seen c.in-Ok.ensures.led in
    let has = has_forwarded o (seat_of m) (teller_of m) s x to p c.requires.on q did in
    let here = forwarded o (seat_of m) (teller_of m) s x to p c.requires.on in
    moves_room m.layout m.moves m.fails x.x has.0.guided.is_sane.few

pub store-requires-clause-may : goal.store-requires-clause-may
store-requires-clause-may g c =
    let o = ports g in
    let m = c.args.self.now in
    let p = c.args.port.now in
    let q = c.swap_first.new.self in
    let s = c.args.job.slot in
    let x = object_of c.args.job in
    let to = c.args.to in
    let did : Did o (seat_of m) p (Won (Word x.x) (plain_word x.class) (forward_word (byte_at to))) q =
    swapped o (seat_of m) (λ w v. Won (Word w) v (forward_word (byte_at to))) x.x (plain_word x.class) c.at_word.result c.write_tag-plain.result
    c.at_word.ensures c.write_tag-plain.ensures p q
    c.in-Ok.ensures.seen c.in-Ok.ensures.led in
    let has = has_forwarded o (seat_of m) (teller_of m) s x to p c.requires.on q did in
    let here = forwarded o (seat_of m) (teller_of m) s x to p c.requires.on in
    let k = c.tell_move.new.self in
    let same = same_moved m k _ _ c.tell_move.ensures in
    let is : at (teller_of k) (OnSlot s (Send to)) ≡ here = at_moved m k x.x to (OnSlot s (Send to)) c.tell_move.ensures in
    let on = on_as o (seat_of m) (seat_of k) here (at (teller_of k) (OnSlot s (Send to))) q (seat_same m k same.copier) is has.0 in
    send_may o (seat_of k) (teller_of k) s to q on

pub look-requires-clause-on : goal.look-requires-clause-on
look-requires-clause-on g c =
    let o = ports g in
    let m = c.args.self.now in
    let p = c.args.port.now in
    let q = c.swap_first.new.self in
    let s = c.args.job.slot in
    let x = object_of c.args.job in
    let to = c.args.to in
    let found = c.in-Err.field-0 in
    let did : Did o (seat_of m) p (Lost (Word x.x) (plain_word x.class) (forward_word (byte_at to)) found) q =
    swapped o (seat_of m) (λ w v. Lost (Word w) v (forward_word (byte_at to)) found) x.x (plain_word x.class) c.at_word.result
    c.write_tag-plain.result c.at_word.ensures c.write_tag-plain.ensures p q
    c.in-Err.ensures.seen c.in-Err.ensures.led in
    let has = has_lost o (seat_of m) (teller_of m) s x to p c.requires.on found q did in
    let here = lost_to o (seat_of m) (teller_of m) s x to p c.requires.on in
    let k = c.set_spare.new.self in
    let same = same_spares m k _ c.set_spare.ensures.value in
    let room : c.size_of.result < length m.spares = omega (arith, c.size_of.ensures.most, c.set_spare.ensures.length) in
    let is : at (teller_of k) (OnSlot s (Look x.x)) ≡ here = at_spare m k c.size_of.result (size_for x) to (OnSlot s (Look x.x))
    c.set_spare.ensures.value c.size_of.ensures.size room in
    on_as o (seat_of m) (seat_of k) here _ q (seat_same m k same.copier) is has.0

pub returns-in-Ok : goal.returns-in-Ok
returns-in-Ok g c =
    let o = ports g in
    let m = c.args.self.now in
    let p = c.args.port.now in
    let q = c.swap_first.new.self in
    let s = c.args.job.slot in
    let x = object_of c.args.job in
    let to = c.args.to in
    let did : Did o (seat_of m) p (Won (Word x.x) (plain_word x.class) (forward_word (byte_at to))) q =
    swapped o (seat_of m) (λ w v. Won (Word w) v (forward_word (byte_at to))) x.x (plain_word x.class) c.at_word.result c.write_tag-plain.result
    c.at_word.ensures c.write_tag-plain.ensures p q
    c.in-Ok.ensures.seen c.in-Ok.ensures.led in
    let has = has_forwarded o (seat_of m) (teller_of m) s x to p c.requires.on q did in
    let here = forwarded o (seat_of m) (teller_of m) s x to p c.requires.on in
    let k = c.tell_move.new.self in
    let same = same_moved m k _ _ c.tell_move.ensures in
    let is : at (teller_of k) (OnSlot s (Send to)) ≡ here = at_moved m k x.x to (OnSlot s (Send to)) c.tell_move.ensures in
    let on = on_as o (seat_of m) (seat_of k) here (at (teller_of k) (OnSlot s (Send to))) q (seat_same m k same.copier) is has.0 in
    let between : k.stage ≡ Between = ap (λ (n : Copying). n.stage) c.tell_move.ensures ∙ c.requires.between in
    let sent = sent_on o (seat_of k) (teller_of k) s to q on c.store.new.self c.store.ensures.seen c.store.ensures.led in
    begun_then o m k (at (teller_of m) (OnSlot s (Swap x to))) here p q c.store.new.self has.1
    (handled_as o m k k here (at (teller_of k) (OnSlot s (Send to))) q c.store.new.self same is
    (handled_idle o k (at (teller_of k) (OnSlot s (Send to))) q c.store.new.self between sent))

pub returns-in-Err : goal.returns-in-Err
returns-in-Err g c =
    let o = ports g in
    let m = c.args.self.now in
    let p = c.args.port.now in
    let q = c.swap_first.new.self in
    let s = c.args.job.slot in
    let x = object_of c.args.job in
    let to = c.args.to in
    let found = c.in-Err.field-0 in
    let did : Did o (seat_of m) p (Lost (Word x.x) (plain_word x.class) (forward_word (byte_at to)) found) q =
    swapped o (seat_of m) (λ w v. Lost (Word w) v (forward_word (byte_at to)) found) x.x (plain_word x.class) c.at_word.result
    c.write_tag-plain.result c.at_word.ensures c.write_tag-plain.ensures p q
    c.in-Err.ensures.seen c.in-Err.ensures.led in
    let has = has_lost o (seat_of m) (teller_of m) s x to p c.requires.on found q did in
    let here = lost_to o (seat_of m) (teller_of m) s x to p c.requires.on in
    let k = c.set_spare.new.self in
    let same = same_spares m k _ c.set_spare.ensures.value in
    let room : c.size_of.result < length m.spares = omega (arith, c.size_of.ensures.most, c.set_spare.ensures.length) in
    let is : at (teller_of k) (OnSlot s (Look x.x)) ≡ here = at_spare m k c.size_of.result (size_for x) to (OnSlot s (Look x.x))
    c.set_spare.ensures.value c.size_of.ensures.size room in
    begun_then o m c.look.new.self (at (teller_of m) (OnSlot s (Swap x to))) here p q c.look.new.port has.1
    (handled_as o m k c.look.new.self here (at (teller_of k) (OnSlot s (Look x.x))) q c.look.new.port same is c.look.ensures)
