use Rattle.std.proofs.Common.{ℕ, List, length, sym, subst}
use Rattle.sg_mark.specs.Gray.{IsGray, HasVisitedRoots}
use Rattle.sg_mark.proofs.Traced.{begin, rooted, done}
use Rattle.sg_mark.proofs.marking.mark.Goals as goal

pub visit_roots-requires-clause-gray : goal.visit_roots-requires-clause-gray
visit_roots-requires-clause-gray c =
    let q = c.requires.can in
    (q.0, q.1, q.2, subst (λ (l : List ℕ). IsGray q.0 q.1 q.2 c.args.space.now l) (sym c.in_ok-gray.ensures.items) (begin q.0 q.1 q.2 c.args.roots.now c.args.space.now q.3), q.3.stand)

pub trace-requires-clause-gray : goal.trace-requires-clause-gray
trace-requires-clause-gray c =
    let q = c.requires.can in
    let none = sym c.in_ok-gray.ensures.items in
    let first = c.visit_roots.ensures.visited q.0 q.1 q.2 (subst (λ (l : List ℕ). IsGray q.0 q.1 q.2 c.args.space.now l) none (begin q.0 q.1 q.2 c.args.roots.now c.args.space.now q.3)) q.3.stand in
    let all = subst (λ (l : List ℕ). HasVisitedRoots q.0 q.1 q.2 l c.args.roots.now (length c.args.roots.now) c.visit_roots.new.space c.visit_roots.new.gray.items) (sym none) first in
    (q.0, q.1, q.2, c.args.roots.now, rooted q.0 q.1 q.2 c.args.roots.now c.visit_roots.new.space c.visit_roots.new.gray.items (length c.args.roots.now) all)

pub returns-clause-marked : goal.returns-clause-marked
returns-clause-marked c = λ t owner marked can.
    let none = sym c.in_ok-gray.ensures.items in
    let first = c.visit_roots.ensures.visited t owner marked (subst (λ (l : List ℕ). IsGray t owner marked c.args.space.now l) none (begin t owner marked c.args.roots.now c.args.space.now can)) can.stand in
    let all = subst (λ (l : List ℕ). HasVisitedRoots t owner marked l c.args.roots.now (length c.args.roots.now) c.visit_roots.new.space c.visit_roots.new.gray.items) (sym none) first in
    let traced = rooted t owner marked c.args.roots.now c.visit_roots.new.space c.visit_roots.new.gray.items (length c.args.roots.now) all in
    done t owner marked c.args.roots.now c.args.space.now c.visit_roots.new.space c.trace.new.space c.visit_roots.new.gray.items c.trace.new.gray.items can all (c.trace.ensures t owner marked c.args.roots.now traced)
