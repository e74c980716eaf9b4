use Rattle.std.proofs.Common.{◌≡◌, false, true, inl, inr, sym, ◌∙◌}
use Rattle.sg_world.proofs.stop.has_cause.Goals as goal

pub returns : goal.returns
returns c = (
  (λ e. inr (c.has_failed.ensures.0 e)),
  (λ w. elim w [ inl asked ↦ absurd (let q : false ≡ true = sym c.if-wants.false ∙ asked in cc q) | inr some ↦ c.has_failed.ensures.1 some ]),
)
