use Rattle.std.proofs.Common.{◌≡◌, [], ◌∷◌, sym, subst}
use Rattle.sg_words.specs.declared.steps.Place.TheVariants.{Card}
use Rattle.sg_words.specs.declared.steps.Step.TheVariants.{Store}
use Rattle.sg_words.specs.declared.steps.Call.TheVariants.{Stores}
use Rattle.sg_round.specs.Worker.{Mid, Idle}
use Rattle.sg_copy.specs.Telling.{at}
use Rattle.sg_copy.specs.State.{teller_of, seat_of, staying}
use Rattle.sg_copy.proofs.Ports.{Ports, On, Gone, none_yet}
use Rattle.sg_copy.proofs.Looks.{card_may, card_marked}
use Rattle.sg_copy.proofs.copier.Copier.mark.Given.{Over}
use Rattle.sg_copy.proofs.copier.Copier.mark.Goals as goal

abbrev ports : (g : Over) → Ports g.row.P.Denot
ports g = record {
  leads = g.P.Port.leads;
  may = g.P.Port.may;
  sees = g.P.Port.sees;
  blocks = g.P.BlockPort.blocks;
  stays = g.P.Port.stays;
  chains = g.P.Port.chains;
  fixed = g.met.P.BlockPort.fixed_blocks;
}

pub mark_card-requires : goal.mark_card-requires
mark_card-requires g c =
    let o = ports g in
    let m = c.args.self.now in
    let s = c.args.slot in
    let card = c.in-Some.ensures in
    let on = subst (λ (mid : Mid). On o (seat_of m) c.args.port.now (at (teller_of m) mid)) card.0 c.requires in
    record { may = subst (λ k. o.may c.args.port.now (Stores (Card k) 1)) (sym card.1) (card_may o (seat_of m) (teller_of m) s c.args.port.now on) }

pub returns-in-Some : goal.returns-in-Some
returns-in-Some g c =
    let o = ports g in
    let m = c.args.self.now in
    let s = c.args.slot in
    let card = c.in-Some.ensures in
    let x = c.args.port.now in
    let y = c.mark_card.new.self in
    let on = subst (λ (mid : Mid). On o (seat_of m) x (at (teller_of m) mid)) card.0 c.requires in
    subst (λ (mid : Mid). Gone o (seat_of m) (at (teller_of m) mid) x (at (teller_of m) Idle) y) (sym card.0)
    (card_marked o (seat_of m) (teller_of m) s x on y
    (subst (λ k. o.sees x (Store (Card k) 1)) card.1 c.mark_card.ensures.seen)
    (subst (λ k. o.leads x (Store (Card k) 1 ∷ []) y) card.1 c.mark_card.ensures.led))

pub returns-in_default : goal.returns-in_default
returns-in_default g c =
    let o = ports g in
    let m = c.args.self.now in
    let none : staying (seat_of m).area c.args.slot ≡ Idle = c.in_default.ensures in
    subst (λ (mid : Mid). Gone o (seat_of m) (at (teller_of m) mid) c.args.port.now (at (teller_of m) Idle) c.args.port.now) (sym none)
    (none_yet o (seat_of m) (at (teller_of m) Idle) c.args.port.now
    (subst (λ (mid : Mid). On o (seat_of m) c.args.port.now (at (teller_of m) mid)) none c.requires))
