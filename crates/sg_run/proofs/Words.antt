-- A list of one word.
use Rattle.std.proofs.Common.{◌≡◌, ℕ, ◌<◌, ◌≤◌, List, [], ◌∷◌, length, get_or, map, ap, arith, sym}

-- what a function makes of the only element
pub map_single : {A : Type 0} (f : A → List ℕ) (xs : List A) (x : A) → 1 ≤ length xs → length xs < 2 → x ≡ get_or xs 0 x → map f xs ≡ f x ∷ []
map_single f [] x low high e = absurd (omega arith)
map_single f (y ∷ []) x low high e = ap (λ z. f z ∷ []) (sym e)
map_single f (y ∷ z ∷ zs) x low high e = absurd (omega arith)
