use Rattle.std.proofs.Common.{◌≡◌, ◌≢◌, ◌+◌, ◌*◌, ◌<◌, true, false, inl, sym, ap, ◌∙◌, subst, arith}
use Rattle.sg_words.specs.Address.{word_at}
use Rattle.sg_words.specs.Words.{put}
use Rattle.sg_program.specs.declared.program.Statement.TheVariants.{Hide}
use Rattle.sg_program.specs.declared.answers.Answer.TheVariants.{Fine}
use Rattle.sg_program.specs.Invariants.{IsWithinLimits}
use Rattle.sg_rules.specs.Rules.{HideLength, object_in, within, over_with}
use Rattle.sg_rules.specs.Rules.Comes.{hide_null, hide_begins, hide_fits, hide_misses}
use Rattle.sg_actor.specs.State.{Mutating, actor_of}
use Rattle.sg_actor.specs.Turning.{before_this}
use Rattle.sg_actor.proofs.Ports.{Ports}
use Rattle.sg_actor.proofs.Turnings.{ran, ran_at_once}
use Rattle.sg_actor.proofs.Globals.{hide_may, hide_saw, hide_done}
use Rattle.sg_actor.proofs.mutator.Mutator.hide.Given.{Over}
use Rattle.sg_actor.proofs.mutator.Mutator.hide.Goals as goal

abbrev ports : (g : Over) → Ports g.row.P.Denot
ports g = record {
  leads = g.P.Port.leads;
  may = g.P.Port.may;
  sees = g.P.Port.sees;
  fragments = g.P.FragPort.fragments;
  limit = g.P.FragPort.limit;
  stays = g.P.Port.stays;
  chains = g.P.Port.chains;
  fixed = g.met.P.FragPort.fixed;
  blocks = g.P.BlockPort.blocks;
  heap = g.P.SweepPort.heap;
  marks = g.P.SweepPort.marks;
  fixed_blocks = g.met.P.BlockPort.fixed_blocks;
  fixed_sweep = g.met.P.SweepPort.fixed_sweep;
}

pub returns-then-word-eq0-clause-run : goal.returns-then-word-eq0-clause-run
returns-then-word-eq0-clause-run g c lay begun =
    let o = ports g in
    let m = c.args.self.now in
    let p = m.program in
    let a = actor_of m in
    let d = c.args.d in
    let s = c.args.s in
    let offset = c.args.offset in
    let x = c.args.port.now in
    ran_at_once o p lay (before_this m (Hide d s offset)) _ x begun true (inl (hide_null a m.script d s offset (sym c.held-word.ensures ∙ c.if-word-eq0.true)))
    (actor_of c.tell_inner.new.self) c.tell_inner.ensures.actor

pub overflow_add-word : goal.overflow_add-word
overflow_add-word g c =
    let o = ports g in
    let m = c.args.self.now in
    let p = m.program in
    let a = actor_of m in
    let d = c.args.d in
    let s = c.args.s in
    let offset = c.args.offset in
    let x = c.args.port.now in
    let lay = c.requires.begun.0 in
    let begun = c.requires.begun.1 in
    let some : a.reg s ≢ 0 = λ z. c.if-word-eq0.false (c.held-word.ensures ∙ z) in
    let b = within a m.script (HideLength d s offset) in
    let on = begun b (false, inl (hide_begins a m.script d s offset some)) in
    let limits = subst (λ (m : Mutating). IsWithinLimits m.program) c.self.view_is c.self.invariant.limits in
    let object = on.guided.is_sane in
    let e : c.held-word.result ≡ a.reg s = c.held-word.ensures in
    omega (arith, object.above, object.below, limits.settings.nursery_most, limits.settings.blocks_most, e)

pub load-len-requires-clause-may : goal.load-len-requires-clause-may
load-len-requires-clause-may g c =
    let o = ports g in
    let m = c.args.self.now in
    let p = m.program in
    let a = actor_of m in
    let d = c.args.d in
    let s = c.args.s in
    let offset = c.args.offset in
    let x = c.args.port.now in
    let lay = c.requires.begun.0 in
    let begun = c.requires.begun.1 in
    let some : a.reg s ≢ 0 = λ z. c.if-word-eq0.false (c.held-word.ensures ∙ z) in
    let b = within a m.script (HideLength d s offset) in
    let on = begun b (false, inl (hide_begins a m.script d s offset some)) in
    let here : word_at c.held-word.result ≡ object_in a s = ap word_at c.held-word.ensures in
    let at : word_at (c.held-word.result + 8) ≡ object_in a s + 1 = omega (arith, here) in
    hide_may o m lay d s offset x on (word_at (c.held-word.result + 8)) at

pub overflow_add-len : goal.overflow_add-len
overflow_add-len g c =
    let o = ports g in
    let m = c.args.self.now in
    let p = m.program in
    let a = actor_of m in
    let d = c.args.d in
    let s = c.args.s in
    let offset = c.args.offset in
    let x = c.args.port.now in
    let lay = c.requires.begun.0 in
    let begun = c.requires.begun.1 in
    let some : a.reg s ≢ 0 = λ z. c.if-word-eq0.false (c.held-word.ensures ∙ z) in
    let b = within a m.script (HideLength d s offset) in
    let on = begun b (false, inl (hide_begins a m.script d s offset some)) in
    let here : word_at c.held-word.result ≡ object_in a s = ap word_at c.held-word.ensures in
    let at : word_at (c.held-word.result + 8) ≡ object_in a s + 1 = omega (arith, here) in
    let len = hide_saw o m lay d s offset x on (word_at (c.held-word.result + 8)) at c.load-len.result c.load-len.ensures.seen in
    omega (arith, len)

pub overflow_mul-len : goal.overflow_mul-len
overflow_mul-len g c =
    let o = ports g in
    let m = c.args.self.now in
    let p = m.program in
    let a = actor_of m in
    let d = c.args.d in
    let s = c.args.s in
    let offset = c.args.offset in
    let x = c.args.port.now in
    let lay = c.requires.begun.0 in
    let begun = c.requires.begun.1 in
    let some : a.reg s ≢ 0 = λ z. c.if-word-eq0.false (c.held-word.ensures ∙ z) in
    let b = within a m.script (HideLength d s offset) in
    let on = begun b (false, inl (hide_begins a m.script d s offset some)) in
    let here : word_at c.held-word.result ≡ object_in a s = ap word_at c.held-word.ensures in
    let at : word_at (c.held-word.result + 8) ≡ object_in a s + 1 = omega (arith, here) in
    let len = hide_saw o m lay d s offset x on (word_at (c.held-word.result + 8)) at c.load-len.result c.load-len.ensures.seen in
    omega (arith, len)

pub overflow_add-word-then-offset-len : goal.overflow_add-word-then-offset-len
overflow_add-word-then-offset-len g c =
    let o = ports g in
    let m = c.args.self.now in
    let p = m.program in
    let a = actor_of m in
    let d = c.args.d in
    let s = c.args.s in
    let offset = c.args.offset in
    let x = c.args.port.now in
    let lay = c.requires.begun.0 in
    let begun = c.requires.begun.1 in
    let some : a.reg s ≢ 0 = λ z. c.if-word-eq0.false (c.held-word.ensures ∙ z) in
    let b = within a m.script (HideLength d s offset) in
    let on = begun b (false, inl (hide_begins a m.script d s offset some)) in
    let limits = subst (λ (m : Mutating). IsWithinLimits m.program) c.self.view_is c.self.invariant.limits in
    let object = on.guided.is_sane in
    let e : c.held-word.result ≡ a.reg s = c.held-word.ensures in
    let here : word_at c.held-word.result ≡ object_in a s = ap word_at c.held-word.ensures in
    let at : word_at (c.held-word.result + 8) ≡ object_in a s + 1 = omega (arith, here) in
    let len = hide_saw o m lay d s offset x on (word_at (c.held-word.result + 8)) at c.load-len.result c.load-len.ensures.seen in
    let fits : offset < 8 * (c.load-len.result + 2) = c.if-offset-len.true in
    omega (arith, len, fits, object.above, object.below, limits.settings.nursery_most, limits.settings.blocks_most, e)

pub returns-then-offset-len-clause-run : goal.returns-then-offset-len-clause-run
returns-then-offset-len-clause-run g c lay begun =
    let o = ports g in
    let m = c.args.self.now in
    let p = m.program in
    let a = actor_of m in
    let d = c.args.d in
    let s = c.args.s in
    let offset = c.args.offset in
    let x = c.args.port.now in
    let some : a.reg s ≢ 0 = λ z. c.if-word-eq0.false (c.held-word.ensures ∙ z) in
    let b = within a m.script (HideLength d s offset) in
    let on = begun b (false, inl (hide_begins a m.script d s offset some)) in
    let here : word_at c.held-word.result ≡ object_in a s = ap word_at c.held-word.ensures in
    let at : word_at (c.held-word.result + 8) ≡ object_in a s + 1 = omega (arith, here) in
    let len = hide_saw o m lay d s offset x on (word_at (c.held-word.result + 8)) at c.load-len.result c.load-len.ensures.seen in
    ran o p lay (before_this m (Hide d s offset)) b x begun false (inl (hide_begins a m.script d s offset some))
    (actor_of c.tell_inner-then-offset-len.new.self) c.load-len.new.self
    (hide_done o m lay d s offset x on (word_at (c.held-word.result + 8)) at c.load-len.new.self c.load-len.result (actor_of c.tell_inner-then-offset-len.new.self) _ (hide_fits a m.script d s offset c.load-len.result len c.if-offset-len.true)
    (c.tell_inner-then-offset-len.ensures.actor ∙ ap (λ w. over_with a m.script (put a.reg d (w + offset)) (put a.offset d offset) a.stack Fine) c.held-word.ensures) (c.load-len.ensures.seen, c.load-len.ensures.led))

pub returns-else-offset-len-clause-run : goal.returns-else-offset-len-clause-run
returns-else-offset-len-clause-run g c lay begun =
    let o = ports g in
    let m = c.args.self.now in
    let p = m.program in
    let a = actor_of m in
    let d = c.args.d in
    let s = c.args.s in
    let offset = c.args.offset in
    let x = c.args.port.now in
    let some : a.reg s ≢ 0 = λ z. c.if-word-eq0.false (c.held-word.ensures ∙ z) in
    let b = within a m.script (HideLength d s offset) in
    let on = begun b (false, inl (hide_begins a m.script d s offset some)) in
    let here : word_at c.held-word.result ≡ object_in a s = ap word_at c.held-word.ensures in
    let at : word_at (c.held-word.result + 8) ≡ object_in a s + 1 = omega (arith, here) in
    let len = hide_saw o m lay d s offset x on (word_at (c.held-word.result + 8)) at c.load-len.result c.load-len.ensures.seen in
    ran o p lay (before_this m (Hide d s offset)) b x begun false (inl (hide_begins a m.script d s offset some))
    (actor_of c.tell_inner-else-offset-len.new.self) c.load-len.new.self
    (hide_done o m lay d s offset x on (word_at (c.held-word.result + 8)) at c.load-len.new.self c.load-len.result (actor_of c.tell_inner-else-offset-len.new.self) _ (hide_misses a m.script d s offset c.load-len.result len c.if-offset-len.false)
    c.tell_inner-else-offset-len.ensures.actor (c.load-len.ensures.seen, c.load-len.ensures.led))
