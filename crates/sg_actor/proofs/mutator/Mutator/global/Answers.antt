use Rattle.std.proofs.Common.{◌≡◌, true, false, inl, refl, ap, ◌∙◌, subst}
use Rattle.sg_words.specs.Address.{word_at}
use Rattle.sg_words.specs.Words.{put}
use Rattle.sg_words.specs.declared.steps.Place.TheVariants.{Word}
use Rattle.sg_words.specs.declared.steps.Step.TheVariants.{Load}
use Rattle.sg_words.proofs.Numbers.{word_at-byte_at}
use Rattle.sg_program.specs.declared.program.Statement.{Statement}
use Rattle.sg_program.specs.Invariants.{IsWithinLimits}
use Rattle.sg_rules.specs.Rules.{AccessGlobal, IsReference, global_word, within, over}
use Rattle.sg_rules.specs.Rules.Comes.{global_begins}
use Rattle.sg_actor.specs.State.{Mutating, actor_of}
use Rattle.sg_actor.specs.Turning.{before_this}
use Rattle.sg_actor.proofs.Facts.{is_reference}
use Rattle.sg_actor.proofs.Seen.{SawAt}
use Rattle.sg_actor.proofs.Ports.{Ports, none_yet, loads_may, loads_saw, loads_done, stores_may, stores_done}
use Rattle.sg_actor.proofs.Turnings.{ran}
use Rattle.sg_actor.proofs.Globals.{gput_comes, gget_comes}
use Rattle.sg_actor.proofs.mutator.Mutator.global.Given.{Over}
use Rattle.sg_actor.proofs.mutator.Mutator.global.Goals as goal

abbrev ports : (g : Over) → Ports g.row.P.Denot
ports g = record {
  leads = g.P.Port.leads;
  may = g.P.Port.may;
  sees = g.P.Port.sees;
  fragments = g.P.FragPort.fragments;
  limit = g.P.FragPort.limit;
  stays = g.P.Port.stays;
  chains = g.P.Port.chains;
  fixed = g.met.P.FragPort.fixed;
  blocks = g.P.BlockPort.blocks;
  heap = g.P.SweepPort.heap;
  marks = g.P.SweepPort.marks;
  fixed_blocks = g.met.P.BlockPort.fixed_blocks;
  fixed_sweep = g.met.P.SweepPort.fixed_sweep;
}

pub store-requires-clause-may : goal.store-requires-clause-may
store-requires-clause-may g c =
    let o = ports g in
    let m = c.args.self.now in
    let p = m.program in
    let a = actor_of m in
    let s = c.args.statement in
    let x = c.args.port.now in
    let b = within a m.script (AccessGlobal s) in
    let lay = c.requires.begun.0 in
    let on = c.requires.begun.1 b (false, inl (global_begins a s m.script c.requires.global)) in
    let at : word_at c.global_at.result ≡ global_word p c.in-GPut.g = ap word_at c.global_at.ensures ∙ word_at-byte_at _ ∙ ap (λ (m : Mutating). global_word m.program c.in-GPut.g) c.self.view_is in
    stores_may o p lay b b x x on (none_yet o p lay b x on) (Word (global_word p c.in-GPut.g)) (Word (word_at c.global_at.result)) (ap (λ n. Word n) at) true _ (a.reg c.in-GPut.r) c.held.result c.held.ensures
    (gput_comes p lay a m.script s c.in-GPut.g c.in-GPut.r c.in-GPut.is)

pub load-word-requires-clause-may : goal.load-word-requires-clause-may
load-word-requires-clause-may g c =
    let o = ports g in
    let m = c.args.self.now in
    let p = m.program in
    let a = actor_of m in
    let s = c.args.statement in
    let x = c.args.port.now in
    let b = within a m.script (AccessGlobal s) in
    let lay = c.requires.begun.0 in
    let on = c.requires.begun.1 b (false, inl (global_begins a s m.script c.requires.global)) in
    let at : word_at c.global_at-in-GGet.result ≡ global_word p c.in-GGet.g = ap word_at c.global_at-in-GGet.ensures ∙ word_at-byte_at _ ∙ ap (λ (m : Mutating). global_word m.program c.in-GGet.g) c.self-in-GGet.view_is in
    loads_may o p lay b b x x on (none_yet o p lay b x on) (Word (global_word p c.in-GGet.g)) (Word (word_at c.global_at-in-GGet.result)) (ap (λ n. Word n) at) true _ 0
    (gget_comes p lay a m.script s c.in-GGet.r c.in-GGet.g 0 c.in-GGet.is (inl refl))

pub reference-requires : goal.reference-requires
reference-requires g c =
    let o = ports g in
    let m = c.args.self.now in
    let p = m.program in
    let a = actor_of m in
    let s = c.args.statement in
    let x = c.args.port.now in
    let b = within a m.script (AccessGlobal s) in
    let lay = c.requires.begun.0 in
    let on = c.requires.begun.1 b (false, inl (global_begins a s m.script c.requires.global)) in
    let at : word_at c.global_at-in-GGet.result ≡ global_word p c.in-GGet.g = ap word_at c.global_at-in-GGet.ensures ∙ word_at-byte_at _ ∙ ap (λ (m : Mutating). global_word m.program c.in-GGet.g) c.self-in-GGet.view_is in
    let is : IsReference p c.load-word.result = subst (λ (u : Statement). SawAt p lay (AccessGlobal u) (Load (Word (global_word p c.in-GGet.g)) c.load-word.result)) c.in-GGet.is
    (loads_saw o p lay b b x x on (none_yet o p lay b x on) (Word (global_word p c.in-GGet.g)) (Word (word_at c.global_at-in-GGet.result)) (ap (λ n. Word n) at) true _ 0 c.load-word.result
    (gget_comes p lay a m.script s c.in-GGet.r c.in-GGet.g 0 c.in-GGet.is (inl refl)) c.load-word.ensures.seen) in
    let limits = subst (λ (m : Mutating). IsWithinLimits m.program) c.self-in-GGet.view_is c.self-in-GGet.invariant.limits in
    is_reference p c.load-word.result limits.settings is

pub returns-in-GPut-clause-run : goal.returns-in-GPut-clause-run
returns-in-GPut-clause-run g c lay begun =
    let o = ports g in
    let m = c.args.self.now in
    let p = m.program in
    let a = actor_of m in
    let s = c.args.statement in
    let x = c.args.port.now in
    let b = within a m.script (AccessGlobal s) in
    let on = begun b (false, inl (global_begins a s m.script c.requires.global)) in
    let at : word_at c.global_at.result ≡ global_word p c.in-GPut.g = ap word_at c.global_at.ensures ∙ word_at-byte_at _ ∙ ap (λ (m : Mutating). global_word m.program c.in-GPut.g) c.self.view_is in
    ran o p lay (before_this m s) b x begun false (inl (global_begins a s m.script c.requires.global)) (actor_of c.say.new.self) c.store.new.self
    (stores_done o p lay b b x x on (none_yet o p lay b x on) (Word (global_word p c.in-GPut.g)) (Word (word_at c.global_at.result)) (ap (λ n. Word n) at) true _ (a.reg c.in-GPut.r) c.held.result c.held.ensures
    (gput_comes p lay a m.script s c.in-GPut.g c.in-GPut.r c.in-GPut.is) c.store.new.self (actor_of c.say.new.self) (λ r. r) c.say.ensures.actor (c.store.ensures.seen, c.store.ensures.led))

pub returns-in-GGet-clause-run : goal.returns-in-GGet-clause-run
returns-in-GGet-clause-run g c lay begun =
    let o = ports g in
    let m = c.args.self.now in
    let p = m.program in
    let a = actor_of m in
    let s = c.args.statement in
    let x = c.args.port.now in
    let b = within a m.script (AccessGlobal s) in
    let on = begun b (false, inl (global_begins a s m.script c.requires.global)) in
    let at : word_at c.global_at-in-GGet.result ≡ global_word p c.in-GGet.g = ap word_at c.global_at-in-GGet.ensures ∙ word_at-byte_at _ ∙ ap (λ (m : Mutating). global_word m.program c.in-GGet.g) c.self-in-GGet.view_is in
    let is : IsReference p c.load-word.result = subst (λ (u : Statement). SawAt p lay (AccessGlobal u) (Load (Word (global_word p c.in-GGet.g)) c.load-word.result)) c.in-GGet.is
    (loads_saw o p lay b b x x on (none_yet o p lay b x on) (Word (global_word p c.in-GGet.g)) (Word (word_at c.global_at-in-GGet.result)) (ap (λ n. Word n) at) true _ 0 c.load-word.result
    (gget_comes p lay a m.script s c.in-GGet.r c.in-GGet.g 0 c.in-GGet.is (inl refl)) c.load-word.ensures.seen) in
    let v = c.load-word.result in
    ran o p lay (before_this m s) b x begun false (inl (global_begins a s m.script c.requires.global)) (actor_of c.tell.new.self) c.load-word.new.self
    (loads_done o p lay b b x x on (none_yet o p lay b x on) (Word (global_word p c.in-GGet.g)) (Word (word_at c.global_at-in-GGet.result)) (ap (λ n. Word n) at) true _ c.load-word.new.self v (actor_of c.tell.new.self) (λ r. r)
    (gget_comes p lay a m.script s c.in-GGet.r c.in-GGet.g v c.in-GGet.is is)
    (c.tell.ensures.actor ∙ ap (λ w. over a m.script (put a.reg c.in-GGet.r v) w) c.reference.ensures) (c.load-word.ensures.seen, c.load-word.ensures.led))
