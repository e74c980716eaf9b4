use Rattle.std.proofs.Common.{◌+◌, [], ◌∷◌, subst, sym, le_refl}
use Rattle.sg_words.specs.Address.{byte_at, word_at}
use Rattle.sg_words.specs.declared.steps.Place.TheVariants.{Word}
use Rattle.sg_words.specs.declared.steps.Step.TheVariants.{Store}
use Rattle.sg_words.specs.declared.steps.Call.TheVariants.{Stores}
use Rattle.sg_round.specs.Worker.{On as OnSlot, Body, Swap, size_for}
use Rattle.sg_copy.specs.declared.copier.Stage.TheVariants.{Forwarding}
use Rattle.sg_copy.specs.Telling.{at}
use Rattle.sg_copy.specs.State.{teller_of, seat_of, object_of}
use Rattle.sg_copy.proofs.Ports.{Ports, on_then, gone_then}
use Rattle.sg_copy.proofs.Bodies.{head_may, head_stored}
use Rattle.sg_copy.proofs.Handled.{handled_at}
use Rattle.sg_copy.proofs.copier.Copier.write.Given.{Over}
use Rattle.sg_copy.proofs.copier.Copier.write.Goals as goal

abbrev ports : (g : Over) → Ports g.row.P.Denot
ports g = record {
  leads = g.P.Port.leads;
  may = g.P.Port.may;
  sees = g.P.Port.sees;
  blocks = g.P.BlockPort.blocks;
  stays = g.P.Port.stays;
  chains = g.P.Port.chains;
  fixed = g.met.P.BlockPort.fixed_blocks;
}

pub clear_words-requires : goal.clear_words-requires
clear_words-requires g c = on_then (ports g) (seat_of c.args.self.now) _ _ c.args.port.now c.copy_words.new.port c.requires.on c.copy_words.ensures

pub store-requires-clause-may : goal.store-requires-clause-may
store-requires-clause-may g c =
    let o = ports g in
    let m = c.args.self.now in
    let x = object_of c.args.job in
    let s = c.args.job.slot in
    let on1 = on_then o (seat_of m) _ _ c.args.port.now c.copy_words.new.port c.requires.on c.copy_words.ensures in
    let on2 = on_then o (seat_of m) _ _ c.copy_words.new.port c.clear_words.new.port on1 c.clear_words.ensures in
    subst (λ v. o.may c.clear_words.new.port (Stores (Word (word_at (byte_at c.args.to))) v)) (sym c.write_tag.ensures)
    (head_may o (seat_of m) (teller_of m) s x c.args.to (size_for x) c.clear_words.new.port on2 (le_refl (size_for x)))

pub returns : goal.returns
returns g c =
    let o = ports g in
    let m = c.args.self.now in
    let x = object_of c.args.job in
    let s = c.args.job.slot in
    let p = c.args.port.now in
    let q = c.copy_words.new.port in
    let r = c.clear_words.new.port in
    let z = c.store.new.self in
    let start = at (teller_of m) (OnSlot s (Body x c.args.to 1)) in
    let copied = at (teller_of m) (OnSlot s (Body x c.args.to (c.args.job.fields + 2))) in
    let full = at (teller_of m) (OnSlot s (Body x c.args.to (size_for x))) in
    let end = at (teller_of m) (OnSlot s (Swap x c.args.to)) in
    let on1 = on_then o (seat_of m) start copied p q c.requires.on c.copy_words.ensures in
    let on2 = on_then o (seat_of m) copied full q r on1 c.clear_words.ensures in
    let last = head_stored o (seat_of m) (teller_of m) s x c.args.to (size_for x) r on2 (le_refl (size_for x)) z
    (subst (λ v. o.sees r (Store (Word (word_at (byte_at c.args.to))) v)) c.write_tag.ensures c.store.ensures.seen)
    (subst (λ v. o.leads r (Store (Word (word_at (byte_at c.args.to))) v ∷ []) z) c.write_tag.ensures c.store.ensures.led) in
    handled_at o m c.set_stage.new.self start p z (Forwarding c.args.job c.args.to) c.set_stage.ensures tt
    (gone_then o (seat_of m) start copied end p q z c.copy_words.ensures (gone_then o (seat_of m) copied full end q r z c.clear_words.ensures last))
