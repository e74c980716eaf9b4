use Rattle.std.proofs.Common.{◌≡◌, ◌+◌, ◌*◌, ◌<◌, ◌≤◌, length, ap, ◌∙◌, subst, arith}
use Rattle.sg_words.specs.Address.{byte_at, word_at}
use Rattle.sg_words.specs.Tags.{plain_word}
use Rattle.sg_words.specs.Words.{put}
use Rattle.sg_words.proofs.Numbers.{word_at-byte_at}
use Rattle.sg_program.specs.declared.answers.Answer.TheVariants.{At}
use Rattle.sg_program.specs.Invariants.{IsWithinLimits}
use Rattle.sg_program.specs.Scripts.{made_class}
use Rattle.sg_rules.specs.Rules.{over}
use Rattle.sg_actor.specs.State.{Mutating, actor_of}
use Rattle.sg_actor.proofs.Facts.{made_class_there}
use Rattle.sg_actor.proofs.Ports.{Ports}
use Rattle.sg_actor.proofs.Headers.{header_may, header_begun, header_tag_may, header_done}
use Rattle.sg_actor.proofs.mutator.Mutator.finish.Given.{Over}
use Rattle.sg_actor.proofs.mutator.Mutator.finish.Goals as goal

abbrev ports : (g : Over) → Ports g.row.P.Denot
ports g = record {
  leads = g.P.Port.leads;
  may = g.P.Port.may;
  sees = g.P.Port.sees;
  fragments = g.P.FragPort.fragments;
  limit = g.P.FragPort.limit;
  stays = g.P.Port.stays;
  chains = g.P.Port.chains;
  fixed = g.met.P.FragPort.fixed;
  blocks = g.P.BlockPort.blocks;
  heap = g.P.SweepPort.heap;
  marks = g.P.SweepPort.marks;
  fixed_blocks = g.met.P.BlockPort.fixed_blocks;
  fixed_sweep = g.met.P.SweepPort.fixed_sweep;
}

pub at_word-at-requires-clause-below : goal.at_word-at-requires-clause-below
at_word-at-requires-clause-below g c =
    let o = ports g in
    let m = c.args.self.now in
    let p = m.program in
    let a = actor_of m in
    let s = c.args.making.statement in
    let made = c.requires.made in
    let n = c.args.number in
    let x = c.args.port.now in
    let lay = c.requires.on.0 in
    let on = c.requires.on.1 in
    let limits = subst (λ (m : Mutating). IsWithinLimits m.program) c.self.view_is c.self.invariant.limits in
    let at = on.guided.is_sane in
    omega (arith, at.inside, limits.settings.nursery_most, limits.settings.blocks_most)

pub store-requires-clause-may : goal.store-requires-clause-may
store-requires-clause-may g c =
    let o = ports g in
    let m = c.args.self.now in
    let p = m.program in
    let a = actor_of m in
    let s = c.args.making.statement in
    let made = c.requires.made in
    let n = c.args.number in
    let x = c.args.port.now in
    let lay = c.requires.on.0 in
    let on = c.requires.on.1 in
    let at : word_at (8 * n + 8) ≡ n + 1 = omega arith in
    header_may o m lay s n x on (word_at (8 * n + 8)) c.args.making.fields at made.fields_are

pub write_tag-requires : goal.write_tag-requires
write_tag-requires g c =
    let o = ports g in
    let m = c.args.self.now in
    let p = m.program in
    let a = actor_of m in
    let s = c.args.making.statement in
    let made = c.requires.made in
    let n = c.args.number in
    let x = c.args.port.now in
    let limits = subst (λ (m : Mutating). IsWithinLimits m.program) c.self.view_is c.self.invariant.limits in
    let there = made_class_there p s made.makes made.runnable.good in
    let is : c.args.making.class ≡ made_class s = made.class_is in
    let few : length p.classes ≤ 256 = limits.classes in
    let below : c.args.making.class < 256 = omega (arith, there, is, few) in
    below

pub store-requires-2-clause-may : goal.store-requires-2-clause-may
store-requires-2-clause-may g c =
    let o = ports g in
    let m = c.args.self.now in
    let p = m.program in
    let a = actor_of m in
    let s = c.args.making.statement in
    let made = c.requires.made in
    let n = c.args.number in
    let x = c.args.port.now in
    let lay = c.requires.on.0 in
    let on = c.requires.on.1 in
    let at : word_at (8 * n + 8) ≡ n + 1 = omega arith in
    let gone = header_begun o m lay s n x on (word_at (8 * n + 8)) c.args.making.fields at made.fields_are c.store.new.self (c.store.ensures.seen, c.store.ensures.led) in
    let tag : c.write_tag.result ≡ plain_word (made_class s) = c.write_tag.ensures ∙ ap plain_word made.class_is in
    header_tag_may o m lay s n x on c.store.new.self gone (word_at (8 * n)) c.write_tag.result (word_at-byte_at n) tag

pub returns-clause-goes : goal.returns-clause-goes
returns-clause-goes g c lay on =
    let o = ports g in
    let m = c.args.self.now in
    let p = m.program in
    let a = actor_of m in
    let s = c.args.making.statement in
    let made = c.requires.made in
    let n = c.args.number in
    let x = c.args.port.now in
    let at : word_at (8 * n + 8) ≡ n + 1 = omega arith in
    let gone = header_begun o m lay s n x on (word_at (8 * n + 8)) c.args.making.fields at made.fields_are c.store.new.self (c.store.ensures.seen, c.store.ensures.led) in
    let tag : c.write_tag.result ≡ plain_word (made_class s) = c.write_tag.ensures ∙ ap plain_word made.class_is in
    let got : c.get.result ≡ byte_at n = c.get.ensures.value ∙ c.at_word-at.ensures in
    header_done o m lay s n x on c.store.new.self gone (word_at (8 * n)) c.write_tag.result (word_at-byte_at n) tag c.store-2.new.self (actor_of c.tell.new.self)
    (c.tell.ensures.actor
    ∙ ap (λ v. over a m.script (put a.reg c.args.making.r v) (At c.at_word-at.result)) got
    ∙ ap (λ v. over a m.script (put a.reg c.args.making.r (byte_at n)) (At v)) c.at_word-at.ensures
    ∙ ap (λ r. over a m.script (put a.reg r (byte_at n)) (At (byte_at n))) made.register)
    (c.store-2.ensures.seen, c.store-2.ensures.led)
