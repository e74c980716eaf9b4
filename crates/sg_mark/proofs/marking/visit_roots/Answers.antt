use Rattle.std.proofs.Common.{◌≡◌, ℕ, length, refl, sym, ap, ◌∙◌, subst, arith}
use Rattle.std.proofs.lemmas.List.{get_or_default}
use Rattle.std.specs.List.{Contains}
use Rattle.sg_mark.specs.Gray.{most_objects, HasVisitedRoots}
use Rattle.sg_mark.proofs.Traced.{roots_none, roots_more}
use Rattle.sg_mark.proofs.marking.visit_roots.Goals as goal

pub visit-requires-clause-gray : goal.visit-requires-clause-gray
visit-requires-clause-gray c =
    let q = c.requires.gray in
    let before = c.loop-root.invariant.visited q.0 q.1 q.2 q.3 q.4 in
    (q.0, q.1, q.2, before.gray, q.4 c.root-item.result (c.loop-root.root-index, c.loop-root-test.true, sym c.root-item.is))

pub visit-requires-clause-room : goal.visit-requires-clause-room
visit-requires-clause-room c =
    let room = c.loop-root.invariant.room in
    let most = c.requires.room in
    let same = ap most_objects c.loop-root.invariant.layout in
    omega arith

pub loop-root-init : goal.loop-root-init
loop-root-init c = record {
  room = refl;
  layout = refl;
  visited = λ t owner marked is stand. roots_none t owner marked c.args.roots.now c.args.gray.now.items c.args.space.now is;
}

pub loop-root-preserved : goal.loop-root-preserved
loop-root-preserved c = record {
  room = c.visit.ensures.room ∙ c.loop-root.invariant.room;
  layout = c.visit.ensures.layout ∙ c.loop-root.invariant.layout;
  visited = λ t owner marked is stand.
      let before = c.loop-root.invariant.visited t owner marked is stand in
      let contains : Contains c.args.roots.now c.root-item.result = (c.loop-root.root-index, c.loop-root-test.true, sym c.root-item.is) in
      roots_more t owner marked c.args.roots.now c.args.gray.now.items c.loop-root.space c.visit.new.space c.loop-root.gray.items c.visit.new.gray.items c.loop-root.root-index c.root-item.result
      before c.loop-root-test.true (get_or_default c.args.roots.now c.loop-root.root-index 0 c.root-item.result c.loop-root-test.true ∙ sym c.root-item.is)
      (c.visit.ensures.visited t owner marked before.gray (stand c.root-item.result contains));
}

pub returns-clause-visited : goal.returns-clause-visited
returns-clause-visited c = λ t owner marked is stand.
    let least = c.loop-root-test.false in
    let most = c.loop-root.auto.root-index-end in
    let all : c.loop-root.root-index ≡ length c.args.roots.now = omega arith in
    subst (λ (n : ℕ). HasVisitedRoots t owner marked c.args.gray.now.items c.args.roots.now n c.loop-root.space c.loop-root.gray.items) all (c.loop-root.invariant.visited t owner marked is stand)
