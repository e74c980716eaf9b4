-- The steps that a port's actor makes, one after another.
use Rattle.std.specs.Prelude.{◌≡◌, List, [], ◌∷◌, ◌++◌}
use Rattle.std.proofs.Common.{sym, subst}
use Rattle.sg_words.specs.declared.steps.Step.{Step}

-- these steps were made from the state p of the port on, each with what it saw there, and lead to q
abbrev pub Makes : {P : Type 0} → (P → List Step → P → Type 0) → (P → Step → Type 0) → P → List Step → P → Type 0
Makes {P} leads sees p [] q = q ≡ p
Makes {P} leads sees p (t ∷ ts) q = (r : P) × leads p (t ∷ []) r × sees p t × Makes leads sees r ts q

module _ {P : Type 0} (leads : P → List Step → P → Type 0) (sees : P → Step → Type 0) where
  -- they lead there as a list
  pub makes_lead : ((p : P) → leads p [] p) → ((p q r : P) (es fs : List Step) → leads p es q → leads q fs r → leads p (es ++ fs) r) →
      (p : P) (es : List Step) (q : P) → Makes leads sees p es q → leads p es q
  makes_lead stays chains p [] q h = subst (λ (z : P). leads p [] z) (sym h) (stays p)
  makes_lead stays chains p (t ∷ ts) q h = chains p h.0 q (t ∷ []) ts h.1 (makes_lead stays chains h.0 ts q h.3)

  -- more steps behind them
  pub makes_then : (p : P) (es : List Step) (q : P) (fs : List Step) (r : P) → Makes leads sees p es q → Makes leads sees q fs r →
      Makes leads sees p (es ++ fs) r
  makes_then p [] q fs r h k = subst (λ (z : P). Makes leads sees z fs r) h k
  makes_then p (t ∷ ts) q fs r h k = (h.0, h.1, h.2, makes_then h.0 ts q fs r h.3 k)
