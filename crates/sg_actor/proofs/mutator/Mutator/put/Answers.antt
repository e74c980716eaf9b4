use Rattle.std.proofs.Common.{◌≡◌, ℕ, sym, subst}
use Rattle.sg_words.specs.Address.{word_at}
use Rattle.sg_words.specs.Blocks.{card_of, HasCard}
use Rattle.sg_program.specs.declared.program.Statement.TheVariants.{Put}
use Rattle.sg_rules.specs.Rules.{Access, sections_of, within}
use Rattle.sg_actor.specs.State.{Mutating, actor_of}
use Rattle.sg_actor.proofs.Ports.{Ports, Gone}
use Rattle.sg_actor.proofs.Marks.{put_may, put_done, put_begun, mark_may, mark_done}
use Rattle.sg_actor.proofs.mutator.Mutator.put.Given.{Over}
use Rattle.sg_actor.proofs.mutator.Mutator.put.Goals.{in-Some, in_default}
use Rattle.sg_actor.proofs.mutator.Mutator.put.Goals as goal

abbrev ports : (g : Over) → Ports g.row.P.Denot
ports g = record {
  leads = g.P.Port.leads;
  may = g.P.Port.may;
  sees = g.P.Port.sees;
  fragments = g.P.FragPort.fragments;
  limit = g.P.FragPort.limit;
  stays = g.P.Port.stays;
  chains = g.P.Port.chains;
  fixed = g.met.P.FragPort.fixed;
  blocks = g.P.BlockPort.blocks;
  heap = g.P.SweepPort.heap;
  marks = g.P.SweepPort.marks;
  fixed_blocks = g.met.P.BlockPort.fixed_blocks;
  fixed_sweep = g.met.P.SweepPort.fixed_sweep;
}

-- the word has this card
abbrev Its : Mutating → ℕ → ℕ → Type 0
Its m place card = HasCard (sections_of m.program) place × (card ≡ card_of (sections_of m.program) place)

pub store-requires-clause-may : goal.store-requires-clause-may
store-requires-clause-may g c =
    put_may (ports g) c.args.self.now c.requires.on.0 c.args.r c.args.field c.args.s c.args.port.now c.requires.on.1 (word_at c.args.place) c.held.result
    c.requires.place c.held.ensures

pub mark_card-requires : goal.mark_card-requires
mark_card-requires g c =
    let o = ports g in
    let m = c.args.self.now in
    let lay = c.requires.on.0 in
    let on = c.requires.on.1 in
    let x = c.args.port.now in
    let y = c.store.new.self in
    let there = subst (λ (m : Mutating). Its m (word_at c.args.place) c.in-Some.card) c.self.view_is c.in-Some.ensures in
    let gone = put_begun o m lay c.args.r c.args.field c.args.s x on (word_at c.args.place) c.held.result c.requires.place c.held.ensures there.0 y
    (c.store.ensures.seen, c.store.ensures.led) in
    record {
      may = mark_may o m lay c.args.r c.args.field c.args.s x on (word_at c.args.place) c.held.result c.requires.place c.held.ensures y gone
          c.in-Some.card there.1;
    }

pub returns-clause-goes : goal.returns-clause-goes
returns-clause-goes g c lay on =
    let o = ports g in
    let m = c.args.self.now in
    let x = c.args.port.now in
    let y = c.store.new.self in
    let here = within (actor_of m) m.script (Access (Put c.args.r c.args.field c.args.s)) in
    elim c.match-card.branch [
      | in-Some w ↦
          let there = subst (λ (m : Mutating). Its m (word_at c.args.place) w.in-Some.card) c.self.view_is w.in-Some.ensures in
          let gone = put_begun o m lay c.args.r c.args.field c.args.s x on (word_at c.args.place) c.held.result c.requires.place c.held.ensures there.0 y
          (c.store.ensures.seen, c.store.ensures.led) in
          let done = mark_done o m lay c.args.r c.args.field c.args.s x on (word_at c.args.place) c.held.result c.requires.place c.held.ensures y gone
          w.in-Some.card there.1 w.mark_card.new.self (actor_of c.say.new.self) c.say.ensures.actor (w.mark_card.ensures.seen, w.mark_card.ensures.led) in
          subst (λ z. Gone o m.program lay here x (actor_of c.say.new.self) z) (sym w.port-is) done
      | in_default w ↦
          let none = subst (λ (m : Mutating). ¬ HasCard (sections_of m.program) (word_at c.args.place)) c.self.view_is w.in_default.ensures in
          let done = put_done o m lay c.args.r c.args.field c.args.s x on (word_at c.args.place) c.held.result c.requires.place c.held.ensures none y
          (actor_of c.say.new.self) c.say.ensures.actor (c.store.ensures.seen, c.store.ensures.led) in
          subst (λ z. Gone o m.program lay here x (actor_of c.say.new.self) z) (sym w.port-is) done
    ]
