use Rattle.std.proofs.Common.{◌≡◌, ◌+◌, ◌<◌, [], ◌∷◌, ◌++◌, length, ap, ◌∙◌, arith}
use Rattle.sg_words.specs.Tags.{plain_word, pinned_word}
use Rattle.sg_words.specs.Words.{put}
use Rattle.sg_words.specs.declared.steps.Place.TheVariants.{Word}
use Rattle.sg_words.specs.declared.steps.Step.TheVariants.{Won, Lost}
use Rattle.sg_words.specs.declared.steps.Call.TheVariants.{Swaps}
use Rattle.sg_copy.specs.declared.copier.Stage.TheVariants.{Between}
use Rattle.sg_round.specs.Items.{WholeOf}
use Rattle.sg_round.specs.Worker.{On as OnSlot, Pin, Look, size_for}
use Rattle.sg_copy.specs.Telling.{Seat, at}
use Rattle.sg_copy.specs.State.{Copying, worker_of, teller_of, seat_of, object_of, staying}
use Rattle.sg_copy.proofs.Ports.{Ports, Did}
use Rattle.sg_copy.proofs.Swaps.{swap_word_may, swapped, pinned, pin_may, has_pinned, lost_pin}
use Rattle.sg_copy.proofs.Handled.{seat_same, same_failed, same_passed, handed_then, at_failed, fails_room, on_as, handled_idle, handled_as, begun_then}
use Rattle.sg_copy.proofs.copier.Copier.pin.Given.{Over}
use Rattle.sg_copy.proofs.copier.Copier.pin.Goals as goal

abbrev ports : (g : Over) → Ports g.row.P.Denot
ports g = record {
  leads = g.P.Port.leads;
  may = g.P.Port.may;
  sees = g.P.Port.sees;
  blocks = g.P.BlockPort.blocks;
  stays = g.P.Port.stays;
  chains = g.P.Port.chains;
  fixed = g.met.P.BlockPort.fixed_blocks;
}

pub swap_first-requires : goal.swap_first-requires
swap_first-requires g c =
    let o = ports g in
    let m = c.args.self.now in
    let x = object_of c.args.job in
    record {
      may = swap_word_may o (seat_of m) (λ w v. Swaps (Word w) v (v + 2)) x.x (plain_word x.class) c.at_word.result c.write_tag-plain.result
          c.at_word.ensures c.write_tag-plain.ensures
          c.args.port.now (pin_may o (seat_of m) (teller_of m) c.args.job.slot x c.args.port.now c.requires.on);
    }

pub tell_fail-requires-clause-room : goal.tell_fail-requires-clause-room
tell_fail-requires-clause-room g c =
    let o = ports g in
    let m = c.args.self.now in
    let p = c.args.port.now in
    let q = c.swap_first.new.self in
    let s = c.args.job.slot in
    let x = object_of c.args.job in
    let new : c.write_tag-plain.result + 2 ≡ pinned_word x.class = ap (λ n. n + 2) c.write_tag-plain.ensures in
    let did : Did o (seat_of m) p (Won (Word x.x) (plain_word x.class) (pinned_word x.class)) q =
    swapped o (seat_of m) (λ w v. Won (Word w) v (v + 2)) x.x (plain_word x.class) c.at_word.result c.write_tag-plain.result c.at_word.ensures
    c.write_tag-plain.ensures p q
    c.in-Ok.ensures.seen c.in-Ok.ensures.led in
    let has = has_pinned o (seat_of m) (teller_of m) s x p c.requires.on q did in
    let here = pinned o (seat_of m) (teller_of m) s x p c.requires.on (staying (seat_of m).area s) in
    fails_room m.layout m.moves m.fails x.x has.0.guided.is_sane.few

pub mark-requires : goal.mark-requires
mark-requires g c =
    let o = ports g in
    let m = c.args.self.now in
    let p = c.args.port.now in
    let q = c.swap_first.new.self in
    let s = c.args.job.slot in
    let x = object_of c.args.job in
    let new : c.write_tag-plain.result + 2 ≡ pinned_word x.class = ap (λ n. n + 2) c.write_tag-plain.ensures in
    let did : Did o (seat_of m) p (Won (Word x.x) (plain_word x.class) (pinned_word x.class)) q =
    swapped o (seat_of m) (λ w v. Won (Word w) v (v + 2)) x.x (plain_word x.class) c.at_word.result c.write_tag-plain.result c.at_word.ensures
    c.write_tag-plain.ensures p q
    c.in-Ok.ensures.seen c.in-Ok.ensures.led in
    let has = has_pinned o (seat_of m) (teller_of m) s x p c.requires.on q did in
    let here = pinned o (seat_of m) (teller_of m) s x p c.requires.on (staying (seat_of m).area s) in
    let d = c.tell_fail.new.self in
    let k = c.set_passed.new.self in
    let same = handed_then m d k (same_failed m d _ _ c.tell_fail.ensures) (same_passed d k _ c.set_passed.ensures.value) in
    let room : c.size_of.result < length d.passed = omega (arith, c.size_of.ensures.most, c.set_passed.ensures.length) in
    let count : c.blocks-in-Ok.result ≡ m.layout.blocks = c.blocks-in-Ok.ensures ∙ ap (λ (n : Copying). n.layout.blocks) c.tell_fail.ensures in
    let mid = staying (seat_of k).area s in
    let is : at (teller_of k) mid ≡ here =
    at_failed m d k x.x c.size_of.result (size_for x) c.blocks-in-Ok.result mid c.tell_fail.ensures c.set_passed.ensures.value c.size_of.ensures.size room
    ∙ ap (λ n. record (teller_of m) {
      worker = record (worker_of m) { list = (worker_of m).list ++ WholeOf x.x ∷ []; passed = put (worker_of m).passed (size_for x) n; mid = mid };
      fails = (teller_of m).fails ++ x.x ∷ [];
    }) count
    ∙ ap (λ (h : Seat). pinned o (seat_of m) (teller_of m) s x p c.requires.on (staying h.area s)) (seat_same m k same.copier) in
    on_as o (seat_of m) (seat_of k) here _ q (seat_same m k same.copier) is has.0

pub look-requires-clause-on : goal.look-requires-clause-on
look-requires-clause-on g c =
    let o = ports g in
    let m = c.args.self.now in
    let p = c.args.port.now in
    let q = c.swap_first.new.self in
    let s = c.args.job.slot in
    let x = object_of c.args.job in
    let new : c.write_tag-plain.result + 2 ≡ pinned_word x.class = ap (λ n. n + 2) c.write_tag-plain.ensures in
    let found = c.in-Err.field-0 in
    let did : Did o (seat_of m) p (Lost (Word x.x) (plain_word x.class) (pinned_word x.class) found) q =
    swapped o (seat_of m) (λ w v. Lost (Word w) v (v + 2) found) x.x (plain_word x.class) c.at_word.result c.write_tag-plain.result
    c.at_word.ensures c.write_tag-plain.ensures p q
    c.in-Err.ensures.seen c.in-Err.ensures.led in
    let has = lost_pin o (seat_of m) (teller_of m) s x p c.requires.on found q did in
    has.0

pub returns-in-Ok : goal.returns-in-Ok
returns-in-Ok g c =
    let o = ports g in
    let m = c.args.self.now in
    let p = c.args.port.now in
    let q = c.swap_first.new.self in
    let s = c.args.job.slot in
    let x = object_of c.args.job in
    let new : c.write_tag-plain.result + 2 ≡ pinned_word x.class = ap (λ n. n + 2) c.write_tag-plain.ensures in
    let did : Did o (seat_of m) p (Won (Word x.x) (plain_word x.class) (pinned_word x.class)) q =
    swapped o (seat_of m) (λ w v. Won (Word w) v (v + 2)) x.x (plain_word x.class) c.at_word.result c.write_tag-plain.result c.at_word.ensures
    c.write_tag-plain.ensures p q
    c.in-Ok.ensures.seen c.in-Ok.ensures.led in
    let has = has_pinned o (seat_of m) (teller_of m) s x p c.requires.on q did in
    let here = pinned o (seat_of m) (teller_of m) s x p c.requires.on (staying (seat_of m).area s) in
    let d = c.tell_fail.new.self in
    let k = c.set_passed.new.self in
    let same = handed_then m d k (same_failed m d _ _ c.tell_fail.ensures) (same_passed d k _ c.set_passed.ensures.value) in
    let room : c.size_of.result < length d.passed = omega (arith, c.size_of.ensures.most, c.set_passed.ensures.length) in
    let count : c.blocks-in-Ok.result ≡ m.layout.blocks = c.blocks-in-Ok.ensures ∙ ap (λ (n : Copying). n.layout.blocks) c.tell_fail.ensures in
    let mid = staying (seat_of k).area s in
    let is : at (teller_of k) mid ≡ here =
    at_failed m d k x.x c.size_of.result (size_for x) c.blocks-in-Ok.result mid c.tell_fail.ensures c.set_passed.ensures.value c.size_of.ensures.size room
    ∙ ap (λ n. record (teller_of m) {
      worker = record (worker_of m) { list = (worker_of m).list ++ WholeOf x.x ∷ []; passed = put (worker_of m).passed (size_for x) n; mid = mid };
      fails = (teller_of m).fails ++ x.x ∷ [];
    }) count
    ∙ ap (λ (h : Seat). pinned o (seat_of m) (teller_of m) s x p c.requires.on (staying h.area s)) (seat_same m k same.copier) in
    let between : k.stage ≡ Between = ap (λ (n : Copying). n.stage) c.set_passed.ensures.value ∙ ap (λ (n : Copying). n.stage) c.tell_fail.ensures ∙
    c.requires.between in
    begun_then o m k (at (teller_of m) (OnSlot s (Pin x))) here p q c.mark.new.port has.1
    (handled_as o m k k here (at (teller_of k) mid) q c.mark.new.port same is
    (handled_idle o k (at (teller_of k) mid) q c.mark.new.port between c.mark.ensures))

pub returns-in-Err : goal.returns-in-Err
returns-in-Err g c =
    let o = ports g in
    let m = c.args.self.now in
    let p = c.args.port.now in
    let q = c.swap_first.new.self in
    let s = c.args.job.slot in
    let x = object_of c.args.job in
    let new : c.write_tag-plain.result + 2 ≡ pinned_word x.class = ap (λ n. n + 2) c.write_tag-plain.ensures in
    let found = c.in-Err.field-0 in
    let did : Did o (seat_of m) p (Lost (Word x.x) (plain_word x.class) (pinned_word x.class) found) q =
    swapped o (seat_of m) (λ w v. Lost (Word w) v (v + 2) found) x.x (plain_word x.class) c.at_word.result c.write_tag-plain.result
    c.at_word.ensures c.write_tag-plain.ensures p q
    c.in-Err.ensures.seen c.in-Err.ensures.led in
    let has = lost_pin o (seat_of m) (teller_of m) s x p c.requires.on found q did in
    begun_then o m c.look.new.self (at (teller_of m) (OnSlot s (Pin x))) (at (teller_of m) (OnSlot s (Look x.x))) p q c.look.new.port has.1 c.look.ensures
