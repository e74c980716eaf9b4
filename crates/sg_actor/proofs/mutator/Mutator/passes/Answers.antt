use Rattle.std.proofs.Common.{◌≡◌, ℕ, ◌+◌, ◌<◌, ◌≤◌, Option, Some, length, sym, ap, ◌∙◌, subst, arith, rules}
use Rattle.sg_words.specs.Address.{word_at}
use Rattle.sg_desc.specs.Shapes.{has_field}
use Rattle.sg_program.specs.Invariants.{IsWithinLimits}
use Rattle.sg_program.specs.Scripts.{kind_of}
use Rattle.sg_rules.specs.Rules.{object_in}
use Rattle.sg_actor.specs.State.{Mutating, actor_of}
use Rattle.sg_actor.specs.Testing.{as_test}
use Rattle.sg_actor.proofs.Facts.{reads_class}
use Rattle.sg_actor.proofs.Ports.{Ports}
use Rattle.sg_actor.proofs.Fields.{tag_may, tag_saw, tag_done, length_may, length_saw, length_done}
use Rattle.sg_desc.specs.declared.shapes.Shape.{Shape}
use Rattle.sg_actor.proofs.mutator.Mutator.passes.Given.{Over}
use Rattle.sg_actor.proofs.mutator.Mutator.passes.Goals as goal

abbrev ports : (g : Over) → Ports g.row.P.Denot
ports g = record {
  leads = g.P.Port.leads;
  may = g.P.Port.may;
  sees = g.P.Port.sees;
  fragments = g.P.FragPort.fragments;
  limit = g.P.FragPort.limit;
  stays = g.P.Port.stays;
  chains = g.P.Port.chains;
  fixed = g.met.P.FragPort.fixed;
  blocks = g.P.BlockPort.blocks;
  heap = g.P.SweepPort.heap;
  marks = g.P.SweepPort.marks;
  fixed_blocks = g.met.P.BlockPort.fixed_blocks;
  fixed_sweep = g.met.P.SweepPort.fixed_sweep;
}

below : {n k : ℕ} → n < k → k ≤ 256 → n < 256
below l m = omega arith

reads : (found : Option ℕ) (got class : ℕ) → found ≡ Some class → found ≡ Some got → class ≡ got
reads found got class e f = cc

pub load-requires-clause-may : goal.load-requires-clause-may
load-requires-clause-may g c =
    let o = ports g in
    let m = c.args.self.now in
    let s = c.args.statement in
    let t = as_test c.args.test in
    let x = c.args.port.now in
    let lay = c.requires.on.0 in
    let on = c.requires.on.1 in
    let at : word_at c.held-object.result ≡ object_in (actor_of m) t.register = ap word_at c.held-object.ensures in
    tag_may o m lay s t x on c.requires.classed (word_at c.held-object.result) at

pub unwrap-class-requires : goal.unwrap-class-requires
unwrap-class-requires g c =
    let o = ports g in
    let m = c.args.self.now in
    let s = c.args.statement in
    let t = as_test c.args.test in
    let x = c.args.port.now in
    let lay = c.requires.on.0 in
    let on = c.requires.on.1 in
    let at : word_at c.held-object.result ≡ object_in (actor_of m) t.register = ap word_at c.held-object.ensures in
    let limits = subst (λ (m : Mutating). IsWithinLimits m.program) c.self.view_is c.self.invariant.limits in
    let class = tag_saw o m lay s t x on c.requires.classed (word_at c.held-object.result) c.load.result at c.load.ensures.seen in
    let is : c.plain_class.result ≡ Some class.0 = reads_class c.plain_class.result c.load.result class.0 (below class.1 limits.classes) (sym class.2) c.plain_class.ensures in
    search rules

pub load-len-requires-clause-may : goal.load-len-requires-clause-may
load-len-requires-clause-may g c =
    let o = ports g in
    let m = c.args.self.now in
    let s = c.args.statement in
    let t = as_test c.args.test in
    let x = c.args.port.now in
    let lay = c.requires.on.0 in
    let on = c.requires.on.1 in
    let at : word_at c.held-object.result ≡ object_in (actor_of m) t.register = ap word_at c.held-object.ensures in
    let class = tag_saw o m lay s t x on c.requires.classed (word_at c.held-object.result) c.load.result at c.load.ensures.seen in
    let gone = tag_done o m lay s t x on c.load.new.self (word_at c.held-object.result) c.load.result class.0 at class.1 class.2 (c.load.ensures.seen, c.load.ensures.led) in
    let behind : word_at (c.held-object.result + 8) ≡ object_in (actor_of m) t.register + 1 = omega (arith, at) in
    length_may o m lay s t x on c.load.new.self class.0 gone (word_at (c.held-object.result + 8)) behind

pub shape-requires : goal.shape-requires
shape-requires g c =
    let o = ports g in
    let m = c.args.self.now in
    let s = c.args.statement in
    let t = as_test c.args.test in
    let x = c.args.port.now in
    let lay = c.requires.on.0 in
    let on = c.requires.on.1 in
    let at : word_at c.held-object.result ≡ object_in (actor_of m) t.register = ap word_at c.held-object.ensures in
    let limits = subst (λ (m : Mutating). IsWithinLimits m.program) c.self.view_is c.self.invariant.limits in
    let class = tag_saw o m lay s t x on c.requires.classed (word_at c.held-object.result) c.load.result at c.load.ensures.seen in
    let is : class.0 ≡ c.unwrap-class.result = reads c.plain_class.result c.unwrap-class.result class.0 (reads_class c.plain_class.result c.load.result class.0 (below class.1 limits.classes) (sym class.2) c.plain_class.ensures) c.unwrap-class.ensures in
    let same : length c.self.inside.program.now.classes ≡ length m.program.classes = ap (λ (m : Mutating). length m.program.classes) c.self.view_is in
    let there : class.0 < length m.program.classes = class.1 in
    omega (arith, is, same, there)

pub has_field-requires : goal.has_field-requires
has_field-requires g c =
    let o = ports g in
    let m = c.args.self.now in
    let s = c.args.statement in
    let t = as_test c.args.test in
    let x = c.args.port.now in
    let lay = c.requires.on.0 in
    let on = c.requires.on.1 in
    let at : word_at c.held-object.result ≡ object_in (actor_of m) t.register = ap word_at c.held-object.ensures in
    let class = tag_saw o m lay s t x on c.requires.classed (word_at c.held-object.result) c.load.result at c.load.ensures.seen in
    let gone = tag_done o m lay s t x on c.load.new.self (word_at c.held-object.result) c.load.result class.0 at class.1 class.2 (c.load.ensures.seen, c.load.ensures.led) in
    let behind : word_at (c.held-object.result + 8) ≡ object_in (actor_of m) t.register + 1 = omega (arith, at) in
    length_saw o m lay s t x on c.load.new.self class.0 gone (word_at (c.held-object.result + 8)) c.load-len.result behind c.load-len.ensures.seen

pub returns : goal.returns
returns g c lay on =
    let o = ports g in
    let m = c.args.self.now in
    let s = c.args.statement in
    let t = as_test c.args.test in
    let x = c.args.port.now in
    let at : word_at c.held-object.result ≡ object_in (actor_of m) t.register = ap word_at c.held-object.ensures in
    let limits = subst (λ (m : Mutating). IsWithinLimits m.program) c.self.view_is c.self.invariant.limits in
    let class = tag_saw o m lay s t x on c.requires.classed (word_at c.held-object.result) c.load.result at c.load.ensures.seen in
    let is : class.0 ≡ c.unwrap-class.result = reads c.plain_class.result c.unwrap-class.result class.0 (reads_class c.plain_class.result c.load.result class.0 (below class.1 limits.classes) (sym class.2) c.plain_class.ensures) c.unwrap-class.ensures in
    let gone = tag_done o m lay s t x on c.load.new.self (word_at c.held-object.result) c.load.result class.0 at class.1 class.2 (c.load.ensures.seen, c.load.ensures.led) in
    let behind : word_at (c.held-object.result + 8) ≡ object_in (actor_of m) t.register + 1 = omega (arith, at) in
    let len = length_saw o m lay s t x on c.load.new.self class.0 gone (word_at (c.held-object.result + 8)) c.load-len.result behind c.load-len.ensures.seen in
    let kind : c.shape.result.kind ≡ kind_of m.program class.0 = ap (λ (v : Shape). v.kind) c.shape.ensures ∙ ap (λ (m : Mutating). kind_of m.program c.unwrap-class.result) c.self.view_is ∙ ap (kind_of m.program) (sym is) in
    length_done o m lay s t x on c.load.new.self class.0 gone c.has_field.result c.load-len.new.self (word_at (c.held-object.result + 8)) c.load-len.result behind len
    (sym (c.has_field.ensures ∙ ap (λ k. has_field t.sort k c.load-len.result t.field) kind)) (c.load-len.ensures.seen, c.load-len.ensures.led)
