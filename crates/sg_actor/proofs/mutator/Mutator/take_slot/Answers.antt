use Rattle.std.proofs.Common.{◌≡◌, ◌+◌, ◌≤◌, inl, inr, sym, ap, ◌∙◌, subst, arith}
use Rattle.std.specs.Int.{bit_at}
use Rattle.std.proofs.lemmas.Nat.Bits.{shr_and_one}
use Rattle.sg_words.specs.Blocks.{slot_size, slot_base}
use Rattle.sg_words.proofs.Blocks.{bit_cases}
use Rattle.sg_program.specs.Scripts.{made_slot}
use Rattle.sg_rules.specs.Rules.{StoreLength, sections_of, slot_front, within}
use Rattle.sg_rules.specs.Acting.{RestsAt}
use Rattle.sg_actor.specs.declared.mutator.Stage.{Stage}
use Rattle.sg_actor.specs.State.{Mutating, actor_of, mid_of}
use Rattle.sg_actor.proofs.Ports.{Ports}
use Rattle.sg_actor.proofs.Turnings.{on_as, gone_as}
use Rattle.sg_actor.proofs.Starts.{rests_at}
use Rattle.sg_actor.proofs.BlockTurns.{again, led_on, led_turned, goes_at, again_on, again_gone, take_there, take_may, took, missed}
use Rattle.sg_actor.proofs.mutator.Mutator.take_slot.Given.{Over}
use Rattle.sg_actor.proofs.mutator.Mutator.take_slot.Goals as goal

abbrev ports : (g : Over) → Ports g.row.P.Denot
ports g = record {
  leads = g.P.Port.leads;
  may = g.P.Port.may;
  sees = g.P.Port.sees;
  fragments = g.P.FragPort.fragments;
  limit = g.P.FragPort.limit;
  stays = g.P.Port.stays;
  chains = g.P.Port.chains;
  fixed = g.met.P.FragPort.fixed;
  blocks = g.P.BlockPort.blocks;
  heap = g.P.SweepPort.heap;
  marks = g.P.SweepPort.marks;
  fixed_blocks = g.met.P.BlockPort.fixed_blocks;
  fixed_sweep = g.met.P.SweepPort.fixed_sweep;
}

pub take_slot-found-requires : goal.take_slot-found-requires
take_slot-found-requires g c =
    let o = ports g in
    let m = c.args.self.now in
    let s = c.args.making.statement in
    let b = c.args.block in
    let x = c.args.port.now in
    record { may = take_may o m c.requires.on.0 s b x c.requires.on.1 c.args.slot c.requires.stage }

pub finish-requires-clause-on : goal.finish-requires-clause-on
finish-requires-clause-on g c =
    let o = ports g in
    let m = c.args.self.now in
    let s = c.args.making.statement in
    let b = c.args.block in
    let x = c.args.port.now in
    let i = c.args.slot in
    let found = c.take_slot-found.result in
    let y = c.take_slot-found.new.self in
    let n = c.resume.new.self in
    let program = c.resume.ensures.same.program in
    let lay = c.requires.on.0 in
    let on = c.requires.on.1 in
    let led = took o m lay s b x on i c.requires.stage y found (c.take_slot-found.ensures.seen, c.take_slot-found.ensures.led)
    (sym (shr_and_one found i) ∙ c.if-found-slot-eq0.true) in
    let size : c.slot-size.result ≡ made_slot m.program s = c.slot-size.ensures.size ∙ ap (λ k. slot_size (k + 2)) c.requires.made.fields_are in
    let number = c.slot_at-number.result in
    let first : number ≡ slot_base (sections_of m.program) b (made_slot m.program s) i =
    c.slot_at-number.ensures ∙ ap (λ (v : Mutating). slot_base (sections_of v.program) b c.slot-size.result i) c.self.view_is
    ∙ ap (λ z. slot_base (sections_of m.program) b z i) size in
    let is : number ≡ slot_front m.program b (made_slot m.program s) i = omega (arith, first) in
    let header = within (actor_of m) m.script (StoreLength s (slot_front m.program b (made_slot m.program s) i)) in
    let same : within (actor_of n) n.script (StoreLength s number) ≡ header =
    goes_at m n c.resume.ensures.actor program (StoreLength s number) ∙ ap (λ k. within (actor_of m) m.script (StoreLength s k)) is in
    let here = on_as o lay m.program n.program program header (within (actor_of n) n.script (StoreLength s number)) same y (led_on o m lay x on header y led) in
    (lay, here)

pub search-requires-clause-on : goal.search-requires-clause-on
search-requires-clause-on g c =
    let o = ports g in
    let m = c.args.self.now in
    let s = c.args.making.statement in
    let b = c.args.block in
    let x = c.args.port.now in
    let i = c.args.slot in
    let found = c.take_slot-found.result in
    let y = c.take_slot-found.new.self in
    let n = c.resume.new.self in
    let program = c.resume.ensures.same.program in
    let lay = c.requires.on.0 in
    let on = c.requires.on.1 in
    let set : bit_at found i ≡ 1 = elim (bit_cases found i) [
      | inl set ↦ set
      | inr clear ↦ absurd (c.if-found-slot-eq0.false (shr_and_one found i ∙ clear))
    ] in
    let led = missed o m lay s b x on i c.requires.stage y found (c.take_slot-found.ensures.seen, c.take_slot-found.ensures.led) set in
    let at = again_on m n c.resume.ensures.actor program s b o lay y (led_on o m lay x on (again m s b) y led) in
    let there : b ≤ n.program.config.blocks =
    let l = take_there o m lay s b x on i c.requires.stage in let e = ap (λ p. p.config.blocks) program in omega arith in
    (lay, there, at)

pub returns-then-found-slot-eq0-clause-turned : goal.returns-then-found-slot-eq0-clause-turned
returns-then-found-slot-eq0-clause-turned g c lay on =
    let o = ports g in
    let m = c.args.self.now in
    let s = c.args.making.statement in
    let b = c.args.block in
    let x = c.args.port.now in
    let i = c.args.slot in
    let found = c.take_slot-found.result in
    let y = c.take_slot-found.new.self in
    let n = c.resume.new.self in
    let program = c.resume.ensures.same.program in
    let led = took o m lay s b x on i c.requires.stage y found (c.take_slot-found.ensures.seen, c.take_slot-found.ensures.led)
    (sym (shr_and_one found i) ∙ c.if-found-slot-eq0.true) in
    let size : c.slot-size.result ≡ made_slot m.program s = c.slot-size.ensures.size ∙ ap (λ k. slot_size (k + 2)) c.requires.made.fields_are in
    let number = c.slot_at-number.result in
    let first : number ≡ slot_base (sections_of m.program) b (made_slot m.program s) i =
    c.slot_at-number.ensures ∙ ap (λ (v : Mutating). slot_base (sections_of v.program) b c.slot-size.result i) c.self.view_is
    ∙ ap (λ z. slot_base (sections_of m.program) b z i) size in
    let is : number ≡ slot_front m.program b (made_slot m.program s) i = omega (arith, first) in
    let header = within (actor_of m) m.script (StoreLength s (slot_front m.program b (made_slot m.program s) i)) in
    let same : within (actor_of n) n.script (StoreLength s number) ≡ header =
    goes_at m n c.resume.ensures.actor program (StoreLength s number) ∙ ap (λ k. within (actor_of m) m.script (StoreLength s k)) is in
    let here = on_as o lay m.program n.program program header (within (actor_of n) n.script (StoreLength s number)) same y (led_on o m lay x on header y led) in
    let k = c.finish.new.self in
    led_turned o m lay x on header y led (actor_of k) c.finish.new.port
    (gone_as o lay m.program n.program program header (within (actor_of n) n.script (StoreLength s number)) same y c.finish.new.port (actor_of k)
    (c.finish.ensures.goes lay here))
    (subst (λ (stage : Stage). RestsAt (mid_of stage)) (sym c.finish.ensures.stage) tt)

pub returns-else-found-slot-eq0-clause-turned : goal.returns-else-found-slot-eq0-clause-turned
returns-else-found-slot-eq0-clause-turned g c lay on =
    let o = ports g in
    let m = c.args.self.now in
    let s = c.args.making.statement in
    let b = c.args.block in
    let x = c.args.port.now in
    let i = c.args.slot in
    let found = c.take_slot-found.result in
    let y = c.take_slot-found.new.self in
    let n = c.resume.new.self in
    let program = c.resume.ensures.same.program in
    let set : bit_at found i ≡ 1 = elim (bit_cases found i) [
      | inl set ↦ set
      | inr clear ↦ absurd (c.if-found-slot-eq0.false (shr_and_one found i ∙ clear))
    ] in
    let led = missed o m lay s b x on i c.requires.stage y found (c.take_slot-found.ensures.seen, c.take_slot-found.ensures.led) set in
    let at = again_on m n c.resume.ensures.actor program s b o lay y (led_on o m lay x on (again m s b) y led) in
    let k = c.search.new.self in
    led_turned o m lay x on (again m s b) y led (actor_of k) c.search.new.port
    (again_gone m n c.resume.ensures.actor program s b o lay y (actor_of k) c.search.new.port (c.search.ensures.goes lay at))
    (rests_at n.program k.stage c.search.ensures.behind.rests)
