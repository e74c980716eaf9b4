-- An item of a list, and the items up to it.
use Rattle.std.proofs.Common.{◌≡◌, ℕ, ◌+◌, ◌<◌, Bool, cond, option_map, Some, List, [], ◌∷◌, ◌++◌, length, map, zero-add, take, get_or, slice_get, ap, ◌∙◌}
use Rattle.std.specs.List.{count_by}
use Rattle.std.proofs.lemmas.Option.{slice_get-map, slice_get-get_or, get_or_from_slice_get, slice_get_within}
use Rattle.std.proofs.lemmas.List.{take_more}
use Rattle.std.proofs.lemmas.List.Sums.{sum_by-append}

-- an item that is read at an index, in a list's image
pub read_at : {A B : Type 0} (f : A → B) (xs : List A) (i : ℕ) (d : A) → i < length xs → slice_get (map f xs) i ≡ Some (f (get_or xs i d))
read_at f xs i d there = slice_get-map f xs i ∙ ap (option_map f) (slice_get-get_or xs i d there)

pub take_next : {A : Type 0} (xs : List A) (i : ℕ) (x : A) → slice_get xs i ≡ Some x → take (i + 1) xs ≡ take i xs ++ x ∷ []
take_next xs i x at = take_more xs i x (slice_get_within xs i x at) ∙ ap (λ y. take i xs ++ y ∷ []) (get_or_from_slice_get xs i x x at)

pub count-push : {A : Type 0} (p : A → Bool) (before : List A) (x : A) → count_by p (before ++ x ∷ []) ≡ count_by p before + cond (p x) 1 0
count-push p before x = sum_by-append (λ y. cond (p y) 1 0) before (x ∷ []) ∙ ap (λ n. count_by p before + n) (zero-add (cond (p x) 1 0))
