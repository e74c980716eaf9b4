-- Nothing stands behind the last epoch.
use Rattle.std.proofs.Common.{◌≡◌, ℕ, ◌⊎◌, true, false, inl, inr, List, [], ◌∷◌, ◌++◌, sym, refl, ◌∙◌}
use Rattle.std.proofs.lemmas.Bool.{cases_Bool}
use Rattle.sg_program.specs.declared.program.Program.{Program}
use Rattle.sg_graph.specs.Graph.{Graph}
use Rattle.sg_graph.specs.Book.{Book}
use Rattle.sg_graph.specs.Run.{Phase, Epoch, Stop, Goes, Begins, GoesOn, IsRun, BehindStop, BehindEpoch}
use Rattle.sg_graph.specs.Laws.{EndsBehindLast}

-- the phase isn't an epoch that is told to be the last
GoesBehind : Phase → Type 0
GoesBehind (Epoch report order swept) = report.last ≡ false
GoesBehind (Stop report) = Unit {0}

-- no epoch of these is told to be the last
NoneLast : List Phase → Type 0
NoneLast [] = Unit {0}
NoneLast (phase ∷ phases) = GoesBehind phase × NoneLast phases

-- only the last phase may be such an epoch
OnlyLast : List Phase → Type 0
OnlyLast [] = Unit {0}
OnlyLast (phase ∷ phases) = (GoesBehind phase ⊎ (phases ≡ [])) × OnlyLast phases

joined : (xs ys : List Phase) → NoneLast xs → NoneLast ys → NoneLast (xs ++ ys)
unfolding NoneLast
joined [] ys h k = k
joined (x ∷ xs) ys h k = (h.0, joined xs ys h.1 k)

none_only : (xs : List Phase) → NoneLast xs → OnlyLast xs
unfolding NoneLast OnlyLast
none_only [] h = tt
none_only (x ∷ xs) h = (inl h.0, none_only xs h.1)

none_then : (xs : List Phase) (y : Phase) → NoneLast xs → OnlyLast (xs ++ y ∷ [])
unfolding NoneLast OnlyLast
none_then [] y h = (inr refl, tt)
none_then (x ∷ xs) y h = (inl h.0, none_then xs y h.1)

goes_on : (p : Program) (n : ℕ) (phases : List Phase) (g : Graph) (b : Book) → Goes p n phases g b → NoneLast phases
unfolding NoneLast GoesBehind
goes_on p _ _ _ _ Begins = tt
goes_on p _ _ _ _ (GoesOn n phases g b order swept epoch h c stop h1 c1 before is going stops) =
    joined phases (Epoch epoch order swept ∷ Stop stop ∷ []) (goes_on p n phases g b before) (not_last, (tt, tt))
  where
    not_last : epoch.last ≡ false
    not_last = elim (cases_Bool epoch.last) [
      | inl e ↦ absurd (going (is.ends.0 e))
      | inr e ↦ e
    ]

only_last : (p : Program) (phases : List Phase) → IsRun p phases → OnlyLast phases
only_last p _ (BehindStop n phases g b goes) = none_only phases (goes_on p n phases g b goes)
only_last p _ (BehindEpoch n phases g b order swept report h c goes is) = none_then phases (Epoch report order swept) (goes_on p n phases g b goes)

behind : (phases more : List Phase) (phase : Phase) → OnlyLast (phases ++ phase ∷ more) → (GoesBehind phase → ⊥) → more ≡ []
unfolding OnlyLast
behind [] more phase h last = elim (h.0) [
  | inl going ↦ absurd (last going)
  | inr e ↦ e
]
behind (x ∷ xs) more phase h last = behind xs more phase h.1 last

pub ends_behind_last : EndsBehindLast
unfolding GoesBehind
ends_behind_last = record {
  none = λ p phases more report order swept run last.
      behind phases more (Epoch report order swept) (only_last p _ run) (λ (going : report.last ≡ false). let z : true ≡ false = sym last ∙ going in cc);
}
