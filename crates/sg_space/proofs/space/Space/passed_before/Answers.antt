use Rattle.std.proofs.Common.{subst}
use Rattle.sg_space.specs.Space.{Contents}
use Rattle.sg_space.specs.Inside.{contents_of}
use Rattle.sg_space.specs.Passed.{IsPassedIn}
use Rattle.sg_space.proofs.space.Space.passed_before.Goals as goal

pub returns-then-self-size-clause-passed : goal.returns-then-self-size-clause-passed
returns-then-self-size-clause-passed c = λ k l. subst (λ (s : Contents). IsPassedIn s c.args.size k) c.self.view_is
    (subst (λ z. IsPassedIn (contents_of c.self.inside) z k) c.if-self-size.true (c.self.invariant.passed k l))
