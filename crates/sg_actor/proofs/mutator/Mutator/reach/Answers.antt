use Rattle.std.proofs.Common.{◌≡◌, ◌+◌, ◌*◌, true, inl, refl, sym, ap, ◌∙◌, subst, arith}
use Rattle.sg_words.specs.Address.{word_at}
use Rattle.sg_words.specs.Words.{put}
use Rattle.sg_words.specs.declared.steps.Place.TheVariants.{Word}
use Rattle.sg_words.specs.declared.steps.Step.TheVariants.{Load}
use Rattle.sg_program.specs.declared.program.Statement.{Statement}
use Rattle.sg_program.specs.Invariants.{IsWithinLimits}
use Rattle.sg_program.specs.Tests.{Test, test_of}
use Rattle.sg_rules.specs.Rules.{Access, IsReference, object_in, within, over}
use Rattle.sg_actor.specs.State.{Mutating, actor_of}
use Rattle.sg_actor.specs.Testing.{as_test}
use Rattle.sg_actor.proofs.Facts.{is_reference}
use Rattle.sg_actor.proofs.Seen.{SawAt}
use Rattle.sg_actor.proofs.Ports.{Ports, none_yet, loads_may, loads_saw, loads_done, stores_may, stores_done}
use Rattle.sg_actor.proofs.Fields.{some_of, field_at, field_inside, field_object, putd_comes, get_comes, getd_comes}
use Rattle.sg_desc.specs.Shapes.{Reference, Plain}
use Rattle.sg_actor.proofs.mutator.Mutator.reach.Given.{Over}
use Rattle.sg_actor.proofs.mutator.Mutator.reach.Goals as goal

abbrev ports : (g : Over) → Ports g.row.P.Denot
ports g = record {
  leads = g.P.Port.leads;
  may = g.P.Port.may;
  sees = g.P.Port.sees;
  fragments = g.P.FragPort.fragments;
  limit = g.P.FragPort.limit;
  stays = g.P.Port.stays;
  chains = g.P.Port.chains;
  fixed = g.met.P.FragPort.fixed;
  blocks = g.P.BlockPort.blocks;
  heap = g.P.SweepPort.heap;
  marks = g.P.SweepPort.marks;
  fixed_blocks = g.met.P.BlockPort.fixed_blocks;
  fixed_sweep = g.met.P.SweepPort.fixed_sweep;
}

pub overflow_add-place : goal.overflow_add-place
overflow_add-place g c =
    let o = ports g in
    let m = c.args.self.now in
    let p = m.program in
    let a = actor_of m in
    let s = c.args.statement in
    let t = as_test c.args.test in
    let x = c.args.port.now in
    let b = within a m.script (Access s) in
    let limits = subst (λ (m : Mutating). IsWithinLimits m.program) c.self.view_is c.self.invariant.limits in
    let inside = field_inside p b s t c.requires.test c.requires.on.1.guided.is_sane in
    let object = field_object p b s t c.requires.test c.requires.on.1.guided.is_sane in
    let e : c.held.result ≡ a.reg t.register = c.held.ensures in
    omega (arith, inside, object.above, object.below, object.whole, limits.settings.nursery_most, limits.settings.blocks_most, e)

pub overflow_mul-place : goal.overflow_mul-place
overflow_mul-place g c =
    let o = ports g in
    let m = c.args.self.now in
    let p = m.program in
    let a = actor_of m in
    let s = c.args.statement in
    let t = as_test c.args.test in
    let x = c.args.port.now in
    let b = within a m.script (Access s) in
    let limits = subst (λ (m : Mutating). IsWithinLimits m.program) c.self.view_is c.self.invariant.limits in
    let inside = field_inside p b s t c.requires.test c.requires.on.1.guided.is_sane in
    let object = field_object p b s t c.requires.test c.requires.on.1.guided.is_sane in
    let e : c.held.result ≡ a.reg t.register = c.held.ensures in
    omega (arith, inside, object.above, object.below, object.whole, limits.settings.nursery_most, limits.settings.blocks_most, e)

pub overflow_add-place-2 : goal.overflow_add-place-2
overflow_add-place-2 g c =
    let o = ports g in
    let m = c.args.self.now in
    let p = m.program in
    let a = actor_of m in
    let s = c.args.statement in
    let t = as_test c.args.test in
    let x = c.args.port.now in
    let b = within a m.script (Access s) in
    let limits = subst (λ (m : Mutating). IsWithinLimits m.program) c.self.view_is c.self.invariant.limits in
    let inside = field_inside p b s t c.requires.test c.requires.on.1.guided.is_sane in
    let object = field_object p b s t c.requires.test c.requires.on.1.guided.is_sane in
    let e : c.held.result ≡ a.reg t.register = c.held.ensures in
    omega (arith, inside, object.above, object.below, object.whole, limits.settings.nursery_most, limits.settings.blocks_most, e)

pub store-requires-clause-may : goal.store-requires-clause-may
store-requires-clause-may g c =
    let o = ports g in
    let m = c.args.self.now in
    let p = m.program in
    let a = actor_of m in
    let s = c.args.statement in
    let t = as_test c.args.test in
    let x = c.args.port.now in
    let b = within a m.script (Access s) in
    let lay = c.requires.on.0 in
    let on = c.requires.on.1 in
    let u : Test = record { register = c.in-PutD.r; field = c.in-PutD.field; sort = Plain } in
    let at : word_at (c.held.result + 8 * (2 + c.args.test.field)) ≡ object_in a c.in-PutD.r + 2 + c.in-PutD.field = field_at a t u c.held.result (some_of (sym c.requires.test ∙ ap test_of c.in-PutD.is)) c.held.ensures in
    let here = Word (object_in a c.in-PutD.r + 2 + c.in-PutD.field) in
    let there = Word (word_at (c.held.result + 8 * (2 + c.args.test.field))) in
    stores_may o p lay b b x x on (none_yet o p lay b x on) here there (ap (λ n. Word n) at) true _ (a.reg c.in-PutD.s) c.held-in-PutD.result c.held-in-PutD.ensures (putd_comes p lay a m.script s c.in-PutD.r c.in-PutD.field c.in-PutD.s c.in-PutD.is)

pub load-word-requires-clause-may : goal.load-word-requires-clause-may
load-word-requires-clause-may g c =
    let o = ports g in
    let m = c.args.self.now in
    let p = m.program in
    let a = actor_of m in
    let s = c.args.statement in
    let t = as_test c.args.test in
    let x = c.args.port.now in
    let b = within a m.script (Access s) in
    let lay = c.requires.on.0 in
    let on = c.requires.on.1 in
    let u : Test = record { register = c.in-Get.r; field = c.in-Get.field; sort = Reference } in
    let at : word_at (c.held.result + 8 * (2 + c.args.test.field)) ≡ object_in a c.in-Get.r + 2 + c.in-Get.field = field_at a t u c.held.result (some_of (sym c.requires.test ∙ ap test_of c.in-Get.is)) c.held.ensures in
    let here = Word (object_in a c.in-Get.r + 2 + c.in-Get.field) in
    let there = Word (word_at (c.held.result + 8 * (2 + c.args.test.field))) in
    loads_may o p lay b b x x on (none_yet o p lay b x on) here there (ap (λ n. Word n) at) true _ 0 (get_comes p lay a m.script s c.in-Get.d c.in-Get.r c.in-Get.field 0 c.in-Get.is (inl refl))

pub reference-requires : goal.reference-requires
reference-requires g c =
    let o = ports g in
    let m = c.args.self.now in
    let p = m.program in
    let a = actor_of m in
    let s = c.args.statement in
    let t = as_test c.args.test in
    let x = c.args.port.now in
    let b = within a m.script (Access s) in
    let lay = c.requires.on.0 in
    let on = c.requires.on.1 in
    let u : Test = record { register = c.in-Get.r; field = c.in-Get.field; sort = Reference } in
    let at : word_at (c.held.result + 8 * (2 + c.args.test.field)) ≡ object_in a c.in-Get.r + 2 + c.in-Get.field = field_at a t u c.held.result (some_of (sym c.requires.test ∙ ap test_of c.in-Get.is)) c.held.ensures in
    let here = Word (object_in a c.in-Get.r + 2 + c.in-Get.field) in
    let there = Word (word_at (c.held.result + 8 * (2 + c.args.test.field))) in
    let v = c.load-word.result in
    let is : IsReference p v = subst (λ (w : Statement). SawAt p lay (Access w) (Load here v)) c.in-Get.is
    (loads_saw o p lay b b x x on (none_yet o p lay b x on) here there (ap (λ n. Word n) at) true _ 0 v (get_comes p lay a m.script s c.in-Get.d c.in-Get.r c.in-Get.field 0 c.in-Get.is (inl refl)) c.load-word.ensures.seen) in
    let limits = subst (λ (m : Mutating). IsWithinLimits m.program) c.self.view_is c.self.invariant.limits in
    is_reference p v limits.settings is

pub load-number-requires-clause-may : goal.load-number-requires-clause-may
load-number-requires-clause-may g c =
    let o = ports g in
    let m = c.args.self.now in
    let p = m.program in
    let a = actor_of m in
    let s = c.args.statement in
    let t = as_test c.args.test in
    let x = c.args.port.now in
    let b = within a m.script (Access s) in
    let lay = c.requires.on.0 in
    let on = c.requires.on.1 in
    let u : Test = record { register = c.in-GetD.r; field = c.in-GetD.field; sort = Plain } in
    let at : word_at (c.held.result + 8 * (2 + c.args.test.field)) ≡ object_in a c.in-GetD.r + 2 + c.in-GetD.field = field_at a t u c.held.result (some_of (sym c.requires.test ∙ ap test_of c.in-GetD.is)) c.held.ensures in
    let here = Word (object_in a c.in-GetD.r + 2 + c.in-GetD.field) in
    let there = Word (word_at (c.held.result + 8 * (2 + c.args.test.field))) in
    loads_may o p lay b b x x on (none_yet o p lay b x on) here there (ap (λ n. Word n) at) true _ 0 (getd_comes p lay a m.script s c.in-GetD.d c.in-GetD.r c.in-GetD.field 0 c.in-GetD.is)

pub returns-in-PutD-clause-goes : goal.returns-in-PutD-clause-goes
returns-in-PutD-clause-goes g c lay on =
    let o = ports g in
    let m = c.args.self.now in
    let p = m.program in
    let a = actor_of m in
    let s = c.args.statement in
    let t = as_test c.args.test in
    let x = c.args.port.now in
    let b = within a m.script (Access s) in
    let u : Test = record { register = c.in-PutD.r; field = c.in-PutD.field; sort = Plain } in
    let at : word_at (c.held.result + 8 * (2 + c.args.test.field)) ≡ object_in a c.in-PutD.r + 2 + c.in-PutD.field = field_at a t u c.held.result (some_of (sym c.requires.test ∙ ap test_of c.in-PutD.is)) c.held.ensures in
    let here = Word (object_in a c.in-PutD.r + 2 + c.in-PutD.field) in
    let there = Word (word_at (c.held.result + 8 * (2 + c.args.test.field))) in
    stores_done o p lay b b x x on (none_yet o p lay b x on) here there (ap (λ n. Word n) at) true _ (a.reg c.in-PutD.s) c.held-in-PutD.result c.held-in-PutD.ensures (putd_comes p lay a m.script s c.in-PutD.r c.in-PutD.field c.in-PutD.s c.in-PutD.is)
    c.store.new.self (actor_of c.say.new.self) (λ r. r) c.say.ensures.actor (c.store.ensures.seen, c.store.ensures.led)

pub returns-in-Get-clause-goes : goal.returns-in-Get-clause-goes
returns-in-Get-clause-goes g c lay on =
    let o = ports g in
    let m = c.args.self.now in
    let p = m.program in
    let a = actor_of m in
    let s = c.args.statement in
    let t = as_test c.args.test in
    let x = c.args.port.now in
    let b = within a m.script (Access s) in
    let u : Test = record { register = c.in-Get.r; field = c.in-Get.field; sort = Reference } in
    let at : word_at (c.held.result + 8 * (2 + c.args.test.field)) ≡ object_in a c.in-Get.r + 2 + c.in-Get.field = field_at a t u c.held.result (some_of (sym c.requires.test ∙ ap test_of c.in-Get.is)) c.held.ensures in
    let here = Word (object_in a c.in-Get.r + 2 + c.in-Get.field) in
    let there = Word (word_at (c.held.result + 8 * (2 + c.args.test.field))) in
    let v = c.load-word.result in
    let is : IsReference p v = subst (λ (w : Statement). SawAt p lay (Access w) (Load here v)) c.in-Get.is
    (loads_saw o p lay b b x x on (none_yet o p lay b x on) here there (ap (λ n. Word n) at) true _ 0 v (get_comes p lay a m.script s c.in-Get.d c.in-Get.r c.in-Get.field 0 c.in-Get.is (inl refl)) c.load-word.ensures.seen) in
    loads_done o p lay b b x x on (none_yet o p lay b x on) here there (ap (λ n. Word n) at) true _ c.load-word.new.self v (actor_of c.tell.new.self) (λ r. r) (get_comes p lay a m.script s c.in-Get.d c.in-Get.r c.in-Get.field v c.in-Get.is is)
    (c.tell.ensures.actor ∙ ap (λ w. over a m.script (put a.reg c.in-Get.d v) w) c.reference.ensures) (c.load-word.ensures.seen, c.load-word.ensures.led)

pub returns-in-GetD-clause-goes : goal.returns-in-GetD-clause-goes
returns-in-GetD-clause-goes g c lay on =
    let o = ports g in
    let m = c.args.self.now in
    let p = m.program in
    let a = actor_of m in
    let s = c.args.statement in
    let t = as_test c.args.test in
    let x = c.args.port.now in
    let b = within a m.script (Access s) in
    let u : Test = record { register = c.in-GetD.r; field = c.in-GetD.field; sort = Plain } in
    let at : word_at (c.held.result + 8 * (2 + c.args.test.field)) ≡ object_in a c.in-GetD.r + 2 + c.in-GetD.field = field_at a t u c.held.result (some_of (sym c.requires.test ∙ ap test_of c.in-GetD.is)) c.held.ensures in
    let here = Word (object_in a c.in-GetD.r + 2 + c.in-GetD.field) in
    let there = Word (word_at (c.held.result + 8 * (2 + c.args.test.field))) in
    loads_done o p lay b b x x on (none_yet o p lay b x on) here there (ap (λ n. Word n) at) true _ c.load-number.new.self c.load-number.result (actor_of c.tell-in-GetD.new.self) (λ r. r) (getd_comes p lay a m.script s c.in-GetD.d c.in-GetD.r c.in-GetD.field c.load-number.result c.in-GetD.is)
    c.tell-in-GetD.ensures.actor (c.load-number.ensures.seen, c.load-number.ensures.led)
