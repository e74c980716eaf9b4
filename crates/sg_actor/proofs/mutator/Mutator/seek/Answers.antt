use Rattle.std.proofs.Common.{◌≡◌, ◌+◌, ◌<◌, ◌≤◌, refl, sym, ap, ◌∙◌, subst, arith}
use Rattle.sg_words.specs.Address.{word_at}
use Rattle.sg_program.specs.Scripts.{made_words, IsRequestOf}
use Rattle.sg_rules.specs.Rules.{Claim, Left, within, looking}
use Rattle.sg_actor.specs.State.{Mutating, actor_of}
use Rattle.sg_actor.proofs.Facts.{needs}
use Rattle.sg_actor.proofs.Ports.{Ports, on_then, none_yet}
use Rattle.sg_actor.proofs.Searches.{stop_may, stop_done, search_ends, look_may, search_finds, search_goes_on}
use Rattle.sg_program.specs.declared.answers.Request.TheVariants.{Need}
use Rattle.sg_actor.proofs.Setters.{behind_at}
use Rattle.sg_actor.proofs.mutator.Mutator.seek.Given.{Over}
use Rattle.sg_actor.proofs.mutator.Mutator.seek.Goals as goal

abbrev ports : (g : Over) → Ports g.row.P.Denot
ports g = record {
  leads = g.P.Port.leads;
  may = g.P.Port.may;
  sees = g.P.Port.sees;
  fragments = g.P.FragPort.fragments;
  limit = g.P.FragPort.limit;
  stays = g.P.Port.stays;
  chains = g.P.Port.chains;
  fixed = g.met.P.FragPort.fixed;
  blocks = g.P.BlockPort.blocks;
  heap = g.P.SweepPort.heap;
  marks = g.P.SweepPort.marks;
  fixed_blocks = g.met.P.BlockPort.fixed_blocks;
  fixed_sweep = g.met.P.SweepPort.fixed_sweep;
}

pub loop-fragment-init : goal.loop-fragment-init
loop-fragment-init g c = record { self_is = refl; gone = λ lay on. none_yet (ports g) c.args.self.now.program lay _ c.args.port.now on }

pub loop-fragment-preserved : goal.loop-fragment-preserved
loop-fragment-preserved g c = record {
  self_is = c.loop-fragment.invariant.self_is;
  gone = λ lay on.
      let o = ports g in
      let m = c.args.self.now in
      let p = m.program in
      let a = actor_of m in
      let s = c.args.making.statement in
      let x = c.args.port.now in
      let f = c.loop-fragment.fragment in
      let y = c.loop-fragment.port in
      let b = within a m.script (looking lay s c.args.first) in
      let gone = c.loop-fragment.invariant.gone lay on in
      let all : c.args.fragments ≡ lay.fragments = c.requires.all ∙ on.fragments_are in
      let there : f < lay.fragments = omega (arith, all, c.loop-fragment-test.true) in
      let words : c.words-words.result ≡ made_words p s = c.words-words.ensures ∙ ap (λ n. n + 2) c.requires.made.fields_are in
      let looked = c.in-Small.ensures in
      search_goes_on o m lay s b x on f y gone there c.look.new.port looked.0 (looked.2, looked.1) (subst (λ n. o.limit y f < word_at looked.0 + n) words looked.3.0);
}

pub look-requires-clause-exists : goal.look-requires-clause-exists
look-requires-clause-exists g c =
    let o = ports g in
    let m = c.args.self.now in
    let p = m.program in
    let a = actor_of m in
    let s = c.args.making.statement in
    let x = c.args.port.now in
    let f = c.loop-fragment.fragment in
    let y = c.loop-fragment.port in
    let lay = c.requires.on.0 in
    let on = c.requires.on.2 in
    let b = within a m.script (looking lay s c.args.first) in
    let gone = c.loop-fragment.invariant.gone lay on in
    let all : c.args.fragments ≡ lay.fragments = c.requires.all ∙ on.fragments_are in
    let there : f < lay.fragments = omega (arith, all, c.loop-fragment-test.true) in
    let after = (on_then o p lay b (within a m.script (looking lay s f)) x y on gone).fragments_are in
    omega (arith, after, there)

pub look-requires-clause-may : goal.look-requires-clause-may
look-requires-clause-may g c =
    let o = ports g in
    let m = c.args.self.now in
    let p = m.program in
    let a = actor_of m in
    let s = c.args.making.statement in
    let x = c.args.port.now in
    let f = c.loop-fragment.fragment in
    let y = c.loop-fragment.port in
    let lay = c.requires.on.0 in
    let on = c.requires.on.2 in
    let b = within a m.script (looking lay s c.args.first) in
    let gone = c.loop-fragment.invariant.gone lay on in
    let all : c.args.fragments ≡ lay.fragments = c.requires.all ∙ on.fragments_are in
    let there : f < lay.fragments = omega (arith, all, c.loop-fragment-test.true) in
    look_may o m lay s b x on f y gone there

pub prepare-requires : goal.prepare-requires
prepare-requires g c = ap (λ (v : Mutating). v.stage) c.loop-fragment.invariant.self_is ∙ c.requires.within

pub returns-in-Ready-clause-goes : goal.returns-in-Ready-clause-goes
returns-in-Ready-clause-goes g c lay on =
    let o = ports g in
    let m = c.args.self.now in
    let p = m.program in
    let a = actor_of m in
    let s = c.args.making.statement in
    let x = c.args.port.now in
    let f = c.loop-fragment.fragment in
    let y = c.loop-fragment.port in
    let b = within a m.script (looking lay s c.args.first) in
    let gone = c.loop-fragment.invariant.gone lay on in
    let all : c.args.fragments ≡ lay.fragments = c.requires.all ∙ on.fragments_are in
    let there : f < lay.fragments = omega (arith, all, c.loop-fragment-test.true) in
    let words : c.words-words.result ≡ made_words p s = c.words-words.ensures ∙ ap (λ n. n + 2) c.requires.made.fields_are in
    let looked = c.in-Ready.ensures in
    search_finds o m lay s b x on f y gone there c.look.new.port looked.0 (looked.2, looked.1) (subst (λ n. word_at looked.0 + n ≤ o.limit y f) words looked.3.1) (actor_of c.prepare.new.self)
    (c.prepare.ensures.actor ∙ ap (λ (v : Mutating). within (actor_of v) v.script (Claim s f (word_at c.in-Ready.next))) c.loop-fragment.invariant.self_is ∙ ap (λ n. within a m.script (Claim s f (word_at n))) looked.3.0)

pub returns-in-Ready-clause-behind : goal.returns-in-Ready-clause-behind
returns-in-Ready-clause-behind g c = behind_at c.args.self.now c.loop-fragment.self c.prepare.new.self _ _ c.loop-fragment.invariant.self_is c.prepare.ensures tt

pub set_stop-requires : goal.set_stop-requires
set_stop-requires g c =
    let o = ports g in
    let m = c.args.self.now in
    let p = m.program in
    let a = actor_of m in
    let s = c.args.making.statement in
    let x = c.args.port.now in
    let f = c.loop-fragment.fragment in
    let y = c.loop-fragment.port in
    let lay = c.requires.on.0 in
    let on = c.requires.on.2 in
    let b = within a m.script (looking lay s c.args.first) in
    let gone = c.loop-fragment.invariant.gone lay on in
    let all : c.args.fragments ≡ lay.fragments = c.requires.all ∙ on.fragments_are in
    let past : lay.fragments ≤ f = omega (arith, all, c.loop-fragment-test.false) in
    let asking = search_ends o m lay s b x on f y gone past in
    record { may = stop_may o m lay s b x y on asking }

pub ask-requires-clause-within : goal.ask-requires-clause-within
ask-requires-clause-within g c = ap (λ (v : Mutating). v.stage) c.loop-fragment.invariant.self_is ∙ c.requires.within

pub ask-requires-clause-fits : goal.ask-requires-clause-fits
ask-requires-clause-fits g c =
    let o = ports g in
    let m = c.args.self.now in
    let p = m.program in
    let a = actor_of m in
    let s = c.args.making.statement in
    let x = c.args.port.now in
    let words : c.words-words.result ≡ made_words p s = c.words-words.ensures ∙ ap (λ n. n + 2) c.requires.made.fields_are in
    subst (λ (v : Mutating). IsRequestOf v.program s (Need c.words-words.result)) (sym c.loop-fragment.invariant.self_is) (needs p s c.words-words.result c.requires.young words)

pub returns-clause-goes : goal.returns-clause-goes
returns-clause-goes g c lay on =
    let o = ports g in
    let m = c.args.self.now in
    let p = m.program in
    let a = actor_of m in
    let s = c.args.making.statement in
    let x = c.args.port.now in
    let f = c.loop-fragment.fragment in
    let y = c.loop-fragment.port in
    let b = within a m.script (looking lay s c.args.first) in
    let gone = c.loop-fragment.invariant.gone lay on in
    let all : c.args.fragments ≡ lay.fragments = c.requires.all ∙ on.fragments_are in
    let past : lay.fragments ≤ f = omega (arith, all, c.loop-fragment-test.false) in
    let asking = search_ends o m lay s b x on f y gone past in
    stop_done o m lay s b x y on asking c.set_stop.new.self (actor_of c.ask.new.self)
    (c.ask.ensures.actor ∙ ap (λ (v : Mutating). within (actor_of v) v.script (Left s)) c.loop-fragment.invariant.self_is) (c.set_stop.ensures.seen, c.set_stop.ensures.led)

pub returns-clause-behind : goal.returns-clause-behind
returns-clause-behind g c =
    let o = ports g in
    let m = c.args.self.now in
    let p = m.program in
    let a = actor_of m in
    let s = c.args.making.statement in
    let x = c.args.port.now in
    let words : c.words-words.result ≡ made_words p s = c.words-words.ensures ∙ ap (λ n. n + 2) c.requires.made.fields_are in
    behind_at m c.loop-fragment.self c.ask.new.self _ _ c.loop-fragment.invariant.self_is c.ask.ensures (needs p s c.words-words.result c.requires.young words)
