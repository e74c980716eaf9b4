-- Which steps a port lets its actor make, one after another.
use Rattle.std.specs.Prelude.{List, [], ◌∷◌, ◌++◌}
use Rattle.std.proofs.Common.{sym, subst}
use Rattle.sg_words.specs.declared.steps.Call.{Call}
use Rattle.sg_words.specs.declared.steps.Step.{Step}
use Rattle.sg_words.specs.Calls.{call_of}
use Rattle.sg_cells.specs.Made.{Makes}

-- the port lets its actor make these steps from the state p on, in order, wherever those before have led it
abbrev pub MayMake : {P : Type 0} → (P → List Step → P → Type 0) → (P → Step → Type 0) → (P → Call → Type 0) → P → List Step → Type 0
MayMake {P} leads sees may p [] = Unit {0}
MayMake {P} leads sees may p (t ∷ ts) = may p (call_of t) × ((q : P) → leads p (t ∷ []) q → sees p t → MayMake leads sees may q ts)

module _ {P : Type 0} (leads : P → List Step → P → Type 0) (sees : P → Step → Type 0) (may : P → Call → Type 0) where
  -- so may be those that come first
  pub may_first : (p : P) (es fs : List Step) → MayMake leads sees may p (es ++ fs) → MayMake leads sees may p es
  may_first p [] fs h = tt
  may_first p (t ∷ ts) fs h = (h.0, λ q led seen. may_first q ts fs (h.1 q led seen))

  -- and those behind them, wherever these have led
  pub may_rest : (p : P) (es fs : List Step) (q : P) → MayMake leads sees may p (es ++ fs) → Makes leads sees p es q → MayMake leads sees may q fs
  may_rest p [] fs q h made = subst (λ (z : P). MayMake leads sees may z fs) (sym made) h
  may_rest p (t ∷ ts) fs q h made = may_rest made.0 ts fs q (h.1 made.0 made.1 made.2) made.3
