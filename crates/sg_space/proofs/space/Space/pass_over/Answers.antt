use Rattle.std.proofs.Common.{◌≤◌, length, sym, subst, inl, inr}
use Rattle.std.proofs.lemmas.Bool.{cases_lt}
use Rattle.sg_space.specs.Space.{Contents}
use Rattle.sg_space.specs.Passed.{IsPassedIn}
use Rattle.sg_space.proofs.Passing.{keeps_passed}
use Rattle.sg_space.proofs.space.Space.pass_over.Goals as goal

pub invariant_of-self : goal.invariant_of-self
invariant_of-self c = keeps_passed c.self.inside c.args.size c.passed_from-at.result c.self.invariant
    (λ k l. subst (λ (s : Contents). IsPassedIn s c.args.size k) (sym c.self.view_is) (elim (cases_lt k c.passed_before-first.result) [
      | inl known ↦ c.passed_before-first.ensures.passed k known
      | inr seen ↦ c.passed_from-at.ensures.passed k seen l
    ]))
    (subst (λ (s : Contents). c.passed_from-at.result ≤ length s.blocks) (sym c.self.view_is) c.passed_from-at.ensures.within)

pub invariant_of-self-2 : goal.invariant_of-self-2
invariant_of-self-2 c = keeps_passed c.self.inside c.args.size c.passed_from-at.result c.self.invariant
    (λ k l. subst (λ (s : Contents). IsPassedIn s c.args.size k) (sym c.self.view_is) (elim (cases_lt k c.passed_before-first.result) [
      | inl known ↦ c.passed_before-first.ensures.passed k known
      | inr seen ↦ c.passed_from-at.ensures.passed k seen l
    ]))
    (subst (λ (s : Contents). c.passed_from-at.result ≤ length s.blocks) (sym c.self.view_is) c.passed_from-at.ensures.within)

pub returns-clause-passed : goal.returns-clause-passed
returns-clause-passed c = λ k from l. elim (cases_lt k c.passed_before-first.result) [
  | inl known ↦ c.passed_before-first.ensures.passed k known
  | inr seen ↦ c.passed_from-at.ensures.passed k seen l
]
