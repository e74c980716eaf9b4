use Rattle.std.proofs.Common.{◌≡◌, sym, subst, inl, inr, arith, rules, true}
use Rattle.std.proofs.lemmas.Bool.{cases_eq}
use Rattle.sg_words.specs.declared.steps.BlockWord.{BlockWord}
use Rattle.sg_space.specs.Standing.{block_in}
use Rattle.sg_space.specs.Passed.{IsPassed, IsPassedIn}
use Rattle.sg_space.proofs.space.Space.passed_from.Goals as goal

pub loop-at-preserved : goal.loop-at-preserved
loop-at-preserved c = record {
  passed = λ k l m.
      let s = c.args.self.now in
      let at = c.loop-at.at in
      let z = c.args.size in
      let held : c.is_passed.result ≡ true = search rules in
      let seen = c.is_passed.ensures held in
      let in_word = subst (λ (w : BlockWord). IsPassed w c.used.result z) c.block.ensures seen in
      let here : IsPassedIn s z at = subst (λ u. IsPassed (block_in s at) u z) c.used.ensures in_word in
      elim (cases_eq k at) [
        | inl e ↦ subst (λ d. IsPassedIn s z d) (sym e) here
        | inr n ↦ c.loop-at.invariant.passed k l (omega (arith, m, n))
      ];
}

pub returns-clause-passed : goal.returns-clause-passed
returns-clause-passed c = λ k l m. c.loop-at.invariant.passed k l (let e = c.loop-at-test.false in let all = c.layout-blocks.ensures in omega (arith, m, e))
