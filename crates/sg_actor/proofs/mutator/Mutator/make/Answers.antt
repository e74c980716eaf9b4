use Rattle.std.proofs.Common.{◌≡◌, ◌+◌, ◌<◌, ◌≤◌, true, false, inl, ap, ◌∙◌, arith}
use Rattle.sg_program.specs.Scripts.{made_words}
use Rattle.sg_rules.specs.Rules.{StoreLength, within, owning, looking}
use Rattle.sg_rules.specs.Rules.Comes.{new_bumps, new_looks}
use Rattle.sg_actor.specs.State.{Mutating, actor_of}
use Rattle.sg_actor.specs.Turning.{before_this}
use Rattle.sg_actor.proofs.Ports.{Ports}
use Rattle.sg_actor.proofs.Turnings.{on_as, gone_as, midst, ran}
use Rattle.sg_actor.proofs.mutator.Mutator.make.Given.{Over}
use Rattle.sg_actor.proofs.mutator.Mutator.make.Goals as goal

abbrev ports : (g : Over) → Ports g.row.P.Denot
ports g = record {
  leads = g.P.Port.leads;
  may = g.P.Port.may;
  sees = g.P.Port.sees;
  fragments = g.P.FragPort.fragments;
  limit = g.P.FragPort.limit;
  stays = g.P.Port.stays;
  chains = g.P.Port.chains;
  fixed = g.met.P.FragPort.fixed;
  blocks = g.P.BlockPort.blocks;
  heap = g.P.SweepPort.heap;
  marks = g.P.SweepPort.marks;
  fixed_blocks = g.met.P.BlockPort.fixed_blocks;
  fixed_sweep = g.met.P.SweepPort.fixed_sweep;
}

pub finish-requires-clause-on : goal.finish-requires-clause-on
finish-requires-clause-on g c =
    let o = ports g in
    let m = c.args.self.now in
    let p = m.program in
    let a = actor_of m in
    let s = c.args.making.statement in
    let making = c.requires.young in
    let x = c.args.port.now in
    let words : c.words-words.result ≡ made_words p s = c.words-words.ensures ∙ ap (λ k. k + 2) c.requires.made.fields_are in
    let from : c.self.inside.from ≡ m.from = ap (λ (v : Mutating). v.from) c.self.view_is in
    let to : c.self.inside.to ≡ m.to = ap (λ (v : Mutating). v.to) c.self.view_is in
    let lay = c.requires.begun.0 in
    let begun = c.requires.begun.1 in
    let room : a.from + made_words p s ≤ a.to = omega (arith, c.saturating_sub.ensures, c.if-words-saturating_sub.true, words, from, to) in
    let k = c.buffer.new.self in
    let b = within (owning a (a.from + made_words p s) a.to) m.script (StoreLength s a.from) in
    let here = within (actor_of k) k.script (StoreLength s c.self.inside.from) in
    let same : here ≡ b =
    midst k (owning a (c.self.inside.from + c.words-words.result) c.self.inside.to) (StoreLength s c.self.inside.from) c.buffer.ensures.actor
    ∙ ap (λ v. within (owning a (c.self.inside.from + v) c.self.inside.to) m.script (StoreLength s c.self.inside.from)) words
    ∙ ap (λ v. within (owning a (v + made_words p s) c.self.inside.to) m.script (StoreLength s v)) from
    ∙ ap (λ v. within (owning a (a.from + made_words p s) v) m.script (StoreLength s a.from)) to in
    let on = on_as o lay p k.program c.buffer.ensures.same.program b here same x (begun b (true, inl (new_bumps a s m.script making room))) in
    (lay, on)

pub seek-requires-clause-on : goal.seek-requires-clause-on
seek-requires-clause-on g c =
    let o = ports g in
    let m = c.args.self.now in
    let p = m.program in
    let a = actor_of m in
    let s = c.args.making.statement in
    let making = c.requires.young in
    let x = c.args.port.now in
    let words : c.words-words.result ≡ made_words p s = c.words-words.ensures ∙ ap (λ k. k + 2) c.requires.made.fields_are in
    let from : c.self.inside.from ≡ m.from = ap (λ (v : Mutating). v.from) c.self.view_is in
    let to : c.self.inside.to ≡ m.to = ap (λ (v : Mutating). v.to) c.self.view_is in
    let lay = c.requires.begun.0 in
    let begun = c.requires.begun.1 in
    let full : a.to < a.from + made_words p s = omega (arith, c.saturating_sub.ensures, c.if-words-saturating_sub.false, words, from, to) in
    let b = within a m.script (looking lay s 0) in
    let on = begun b (false, inl (new_looks a s m.script making full)) in
    (lay, omega arith, on)

pub returns-then-words-saturating_sub-clause-run : goal.returns-then-words-saturating_sub-clause-run
returns-then-words-saturating_sub-clause-run g c lay begun =
    let o = ports g in
    let m = c.args.self.now in
    let p = m.program in
    let a = actor_of m in
    let s = c.args.making.statement in
    let making = c.requires.young in
    let x = c.args.port.now in
    let words : c.words-words.result ≡ made_words p s = c.words-words.ensures ∙ ap (λ k. k + 2) c.requires.made.fields_are in
    let from : c.self.inside.from ≡ m.from = ap (λ (v : Mutating). v.from) c.self.view_is in
    let to : c.self.inside.to ≡ m.to = ap (λ (v : Mutating). v.to) c.self.view_is in
    let room : a.from + made_words p s ≤ a.to = omega (arith, c.saturating_sub.ensures, c.if-words-saturating_sub.true, words, from, to) in
    let k = c.buffer.new.self in
    let b = within (owning a (a.from + made_words p s) a.to) m.script (StoreLength s a.from) in
    let here = within (actor_of k) k.script (StoreLength s c.self.inside.from) in
    let same : here ≡ b =
    midst k (owning a (c.self.inside.from + c.words-words.result) c.self.inside.to) (StoreLength s c.self.inside.from) c.buffer.ensures.actor
    ∙ ap (λ v. within (owning a (c.self.inside.from + v) c.self.inside.to) m.script (StoreLength s c.self.inside.from)) words
    ∙ ap (λ v. within (owning a (v + made_words p s) c.self.inside.to) m.script (StoreLength s v)) from
    ∙ ap (λ v. within (owning a (a.from + made_words p s) v) m.script (StoreLength s a.from)) to in
    let on = on_as o lay p k.program c.buffer.ensures.same.program b here same x (begun b (true, inl (new_bumps a s m.script making room))) in
    let k' = c.finish.new.self in
    ran o p lay (before_this m s) b x begun true (inl (new_bumps a s m.script making room)) (actor_of k') c.finish.new.port
    (gone_as o lay p k.program c.buffer.ensures.same.program b here same x c.finish.new.port (actor_of k') (c.finish.ensures.goes lay on))

pub returns-else-words-saturating_sub-clause-run : goal.returns-else-words-saturating_sub-clause-run
returns-else-words-saturating_sub-clause-run g c lay begun =
    let o = ports g in
    let m = c.args.self.now in
    let p = m.program in
    let a = actor_of m in
    let s = c.args.making.statement in
    let making = c.requires.young in
    let x = c.args.port.now in
    let words : c.words-words.result ≡ made_words p s = c.words-words.ensures ∙ ap (λ k. k + 2) c.requires.made.fields_are in
    let from : c.self.inside.from ≡ m.from = ap (λ (v : Mutating). v.from) c.self.view_is in
    let to : c.self.inside.to ≡ m.to = ap (λ (v : Mutating). v.to) c.self.view_is in
    let full : a.to < a.from + made_words p s = omega (arith, c.saturating_sub.ensures, c.if-words-saturating_sub.false, words, from, to) in
    let b = within a m.script (looking lay s 0) in
    let on = begun b (false, inl (new_looks a s m.script making full)) in
    ran o p lay (before_this m s) b x begun false (inl (new_looks a s m.script making full)) (actor_of c.seek.new.self) c.seek.new.port (c.seek.ensures.goes lay on)
