use Rattle.std.proofs.Common.{◌≡◌, ℕ, sym, subst, rules}
use Rattle.sg_space.specs.Space.{Contents}
use Rattle.sg_finish.specs.Finishing.{HasSweptOf}
use Rattle.sg_finish.proofs.sweep_at.Goals as goal

-- the same for what is the same
swept_as : (s s' t t' : Contents) (b : ℕ) → s ≡ s' → HasSweptOf s (λ c. c ≡ b) t → t' ≡ t → HasSweptOf s' (λ c. c ≡ b) t'
swept_as s s' t t' b e h f = subst (λ (u : Contents). HasSweptOf s' (λ c. c ≡ b) u) (sym f) (subst (λ (u : Contents). HasSweptOf u (λ c. c ≡ b) t) e h)

pub returns-clause-swept : goal.returns-clause-swept
returns-clause-swept c =
    swept_as c.new-port.result.space.now c.args.space.now c.sweep_over.new.port.space.now _ c.args.block c.new-port.ensures.now c.sweep_over.ensures.swept
    (search rules)
