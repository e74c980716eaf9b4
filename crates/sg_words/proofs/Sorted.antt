-- Lists in increasing order.
use Rattle.std.proofs.Common.{◌≡◌, ℕ, zero, suc, ◌+◌, ◌<◌, List, [], ◌∷◌, ◌++◌, length, get_or, map, arith, inl, inr, subst, add-one, sym}
use Rattle.std.specs.List.{Contains}
use Rattle.std.specs.List.Sorted.{IsStrictlyIncreasing}
use Rattle.std.proofs.lemmas.Bool.{cases_eq}
use Rattle.std.proofs.lemmas.List.{get_or-map, length-map, get_or_append_left, get_or_push, length_push}
use Rattle.std.proofs.lemmas.List.Elements.{Contains-get_or}

pub sorted_far : (xs : List ℕ) → IsStrictlyIncreasing xs → (i j : ℕ) → i < j → j < length xs → get_or xs i 0 < get_or xs j 0
sorted_far xs up i zero l m = absurd (omega arith)
sorted_far xs up i (suc j) l m =
    let next : get_or xs j 0 < get_or xs (suc j) 0 = subst (λ n. get_or xs j 0 < get_or xs n 0) (add-one j) (up j (omega arith)) in
    elim (cases_eq i j) [
      | inl e ↦ rw e next
      | inr d ↦ let below = sorted_far xs up i j (omega arith) (omega arith) in omega arith
    ]

-- the same of what a list of other values is mapped to
pub rising : {A : Type 0} (f : A → ℕ) (xs : List A) → IsStrictlyIncreasing (map f xs) → (i j : ℕ) (d : A) → i < j → j < length xs → f (get_or xs i d) < f (get_or xs j d)
rising f xs up i j d l m =
    let at_i = get_or-map f xs i d 0 (omega arith) in
    let at_j = get_or-map f xs j d 0 m in
    let lengths = length-map xs f in
    let below = sorted_far (map f xs) up i j l (omega arith) in
    omega arith

pub increasing_push : (xs : List ℕ) (a : ℕ) → IsStrictlyIncreasing xs → ((x : ℕ) → Contains xs x → x < a) → IsStrictlyIncreasing (xs ++ a ∷ [])
increasing_push xs a up below k m =
    let n = length_push xs a in
    let left : get_or (xs ++ a ∷ []) k 0 ≡ get_or xs k 0 = get_or_append_left xs (a ∷ []) 0 k (omega arith) in
    elim (cases_eq (k + 1) (length xs)) [
      | inl e ↦
          let right = get_or_push xs a 0 (k + 1) (sym e) in
          let lower = below (get_or xs k 0) (Contains-get_or xs k 0 (omega arith)) in
          omega arith
      | inr d ↦
          let right = get_or_append_left xs (a ∷ []) 0 (k + 1) (omega arith) in
          let lower = up k (omega arith) in
          omega arith
    ]
