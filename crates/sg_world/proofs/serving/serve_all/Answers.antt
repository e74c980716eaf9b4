use Rattle.std.proofs.Common.{◌≡◌, ◌<◌, ◌++◌, [], Option, List, length, take, refl, sym, ap, ◌∙◌, subst, arith, append-nil}
use Rattle.std.proofs.lemmas.List.{take_all}
use Rattle.sg_graph.specs.declared.reports.Service.{Service}
use Rattle.sg_actor.specs.State.{Mutating}
use Rattle.sg_placing.specs.Answering.{placing_in}
use Rattle.sg_world.specs.Serving.{HaveGoneOn, services_in}
use Rattle.sg_world.proofs.AllOnward.{none_gone, next_may, next_fits, goes_more}
use Rattle.sg_world.proofs.Lists.{rest_more}
use Rattle.sg_world.proofs.serving.serve_all.Goals.{in-Some+in_ok-push-in-Some, in-None}
use Rattle.sg_world.proofs.serving.serve_all.Goals as goal

pub loop-k-init : goal.loop-k-init
loop-k-init c = record {
  served = λ g b may. subst (λ (ss : List Service). HaveGoneOn c.args.program.now (placing_in c.args.room) g b 0 [] ss c.args.space.now [])
      (sym c.in_ok-served.ensures.items) (none_gone c.args.program.now (placing_in c.args.room) g b c.args.space.now may.holding);
  rest = refl;
  stop = refl;
}

pub go_on-requires-clause-may : goal.go_on-requires-clause-may
go_on-requires-clause-may c =
    let p = c.args.program.now in
    let room = c.args.room in
    let held = c.requires.may in
    let old = c.args.mutators.now in
    let cur = c.loop-k.mutators in
    let k = c.loop-k.k in
    let d = c.index-mutators-k.result in
    let same : length cur ≡ length old = c.loop-k.auto.mutators in
    let there : k < length cur = let l = c.loop-k-test.true in omega arith in
    let i = c.loop-k.invariant in
    let so = i.served held.0 held.1 held.2 in (
      so.graph,
      so.book,
      k,
      so.holding,
      next_fits p (placing_in room) room held.0 held.1 c.args.space.now c.loop-k.space old cur k d there same i.rest c.loop-k.served.items so held.2,
      next_may p (placing_in room) room held.0 held.1 c.args.space.now c.loop-k.space old cur k d there same i.rest c.loop-k.served.items so held.2,
    )

pub loop-k-preserved : goal.loop-k-preserved
loop-k-preserved c =
    let p = c.args.program.now in
    let room = c.args.room in
    let s = c.args.space.now in
    let t = c.loop-k.space in
    let old = c.args.mutators.now in
    let cur = c.loop-k.mutators in
    let k = c.loop-k.k in
    let n = c.go_on.new.mutator in
    let d = c.index-mutators-k.result in
    let same : length cur ≡ length old = c.loop-k.auto.mutators in
    let there : k < length cur = let l = c.loop-k-test.true in omega arith in
    let i = c.loop-k.invariant in
    let was : List Service = c.loop-k.served.items in
    let more : List Service = services_in c.in_ok-done.done in
    let is : c.match-done.served.items ≡ was ++ more = elim c.match-done.branch [
      | in-Some+in_ok-push-in-Some w ↦ ap (λ v. v.items) w.served-is ∙ w.in_ok-push-in-Some.ensures.items
          ∙ ap (λ (o : Option Service). was ++ services_in o) (sym w.in-Some.is)
      | in-None w ↦ ap (λ v. v.items) w.served-is ∙ sym (append-nil was) ∙ ap (λ (o : Option Service). was ++ services_in o) (sym w.in-None.is)
    ] in
    record {
      served = λ g b may.
          let so = i.served g b may in
          goes_more p (placing_in room) room g b s t old cur k d there same i.rest was so may c.go_on.new.space n more c.match-done.served.items is
          (c.in_ok-done.ensures.goes so.graph so.book k so.holding
          (next_fits p (placing_in room) room g b s t old cur k d there same i.rest was so may)
          (next_may p (placing_in room) room g b s t old cur k d there same i.rest was so may));
      rest = rest_more old cur k n d there same i.rest;
      stop = c.in_ok-done.ensures.stop ∙ i.stop;
    }

pub returns-clause-served : goal.returns-clause-served
returns-clause-served c g b may =
    let p = c.args.program.now in
    let how = placing_in c.args.room in
    let old = c.args.mutators.now in
    let cur = c.loop-k.mutators in
    let same : length cur ≡ length old = c.loop-k.auto.mutators in
    let so = c.loop-k.invariant.served g b may in
    let past = c.loop-k-test.false in
    subst (λ (xs : List Mutating). HaveGoneOn p how g b 0 xs c.from_vec.result c.loop-k.space cur) (take_all c.loop-k.k old (omega arith))
    (subst (λ (ys : List Mutating). HaveGoneOn p how g b 0 (take c.loop-k.k old) c.from_vec.result c.loop-k.space ys) (take_all c.loop-k.k cur (omega arith))
    (subst (λ (ss : List Service). HaveGoneOn p how g b 0 (take c.loop-k.k old) ss c.loop-k.space (take c.loop-k.k cur)) (sym c.from_vec.ensures) so))
