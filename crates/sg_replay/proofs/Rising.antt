-- Two lists that rise and have the same members are one list.
use Rattle.std.proofs.Common.{◌≡◌, ℕ, zero, suc, ◌+◌, ◌<◌, ◌⊎◌, inl, inr, List, [], ◌∷◌, length, map, slice_index_or, sym, refl, ap, ◌∙◌, subst, arith, map-id}
use Rattle.std.specs.List.{Contains}
use Rattle.std.specs.List.Sorted.{IsStrictlyIncreasing}
use Rattle.sg_words.specs.Lists.{In}
use Rattle.sg_words.proofs.Members.{has-cases, in-here, in-there}
use Rattle.sg_words.proofs.Sorted.{sorted_far, rising}

-- a is one of these
abbrev Among : {A : Type 0} → A → List A → Type 0
Among a [] = ⊥
Among a (x ∷ xs) = (a ≡ x) ⊎ Among a xs

-- each key is below those behind it
abbrev Rises : {A : Type 0} → (A → ℕ) → List A → Type 0
Rises f [] = Unit {0}
Rises {A} f (x ∷ xs) = ((a : A) → Among a xs → f x < f a) × Rises f xs

contains : {A : Type 0} (a : A) (xs : List A) → Among a xs → Contains xs a
contains a [] h = absurd h
contains a (x ∷ xs) (inl e) = (zero, omega arith, sym e)
contains a (x ∷ xs) (inr i) = let c = contains a xs i in (suc c.0, omega (arith, c.1), c.2)

at_place : {A : Type 0} (a : A) (xs : List A) (k : ℕ) → k < length xs → slice_index_or xs k a ≡ a → Among a xs
at_place a [] k l e = absurd (omega arith)
at_place a (x ∷ xs) zero l e = inl (sym e)
at_place a (x ∷ xs) (suc k) l e = inr (at_place a xs k (omega arith) e)

among : {A : Type 0} (a : A) (xs : List A) → Contains xs a → Among a xs
among a xs c = at_place a xs c.0 c.1 c.2

among_in : (a : ℕ) (xs : List ℕ) → Among a xs → In a xs
among_in a [] h = absurd h
among_in a (x ∷ xs) (inl e) = in-here a x xs e
among_in a (x ∷ xs) (inr i) = in-there a x xs (among_in a xs i)

in_among : (a : ℕ) (xs : List ℕ) → In a xs → Among a xs
in_among a [] h = absurd (let z = h in cc)
in_among a (x ∷ xs) h = elim (has-cases a x xs h) [
  | inl e ↦ inl e
  | inr i ↦ inr (in_among a xs i)
]

behind : {A : Type 0} (f : A → ℕ) (x : A) (xs : List A) → IsStrictlyIncreasing (map f (x ∷ xs)) → IsStrictlyIncreasing (map f xs)
behind f x xs up k l = sorted_far (map f (x ∷ xs)) up (suc k) (suc (k + 1)) (omega arith) (omega arith)

below : {A : Type 0} (f : A → ℕ) (x : A) (xs : List A) → IsStrictlyIncreasing (map f (x ∷ xs)) → (a : A) → Among a xs → f x < f a
below f x xs up a i =
    let c = contains a xs i in
    subst (λ z. f x < f z) c.2 (rising f (x ∷ xs) up 0 (suc c.0) a (omega arith) (omega (arith, c.1)))

rises : {A : Type 0} (f : A → ℕ) (xs : List A) → IsStrictlyIncreasing (map f xs) → Rises f xs
rises f [] up = tt
rises f (x ∷ xs) up = (below f x xs up, rises f xs (behind f x xs up))

same_head : {A : Type 0} (f : A → ℕ) (x : A) (xs : List A) (y : A) (ys : List A) → Rises f (x ∷ xs) → Rises f (y ∷ ys) → Among x (y ∷ ys) → Among y (x ∷ xs) →
    x ≡ y
same_head f x xs y ys r s (inl e) j = e
same_head f x xs y ys r s (inr i) (inl e) = sym e
same_head f x xs y ys r s (inr i) (inr j) = absurd (let l = s.0 x i in let m = r.0 y j in omega arith)

in_tail : {A : Type 0} (f : A → ℕ) (x : A) (xs : List A) (y : A) (ys : List A) → Rises f (x ∷ xs) → x ≡ y → (a : A) → Among a xs → Among a (y ∷ ys) → Among a ys
in_tail f x xs y ys r e a i (inr j) = j
in_tail f x xs y ys r e a i (inl q) = absurd (let l = r.0 a i in let k : f x ≡ f a = ap f (e ∙ sym q) in omega arith)

one_rising : {A : Type 0} (f : A → ℕ) (xs ys : List A) → Rises f xs → Rises f ys → ((a : A) → Among a xs → Among a ys) → ((a : A) → Among a ys → Among a xs) →
    xs ≡ ys
one_rising f [] [] r s to back = refl
one_rising f [] (y ∷ ys) r s to back = absurd (back y (inl refl))
one_rising f (x ∷ xs) [] r s to back = absurd (to x (inl refl))
one_rising f (x ∷ xs) (y ∷ ys) r s to back =
    let e = same_head f x xs y ys r s (to x (inl refl)) (back y (inl refl)) in
    let more = one_rising f xs ys r.1 s.1 (λ a i. in_tail f x xs y ys r e a i (to a (inr i))) (λ a i. in_tail f y ys x xs s (sym e) a i (back a (inr i))) in
    cc (e, more)

-- two lists in the order of their keys with the same members
pub one_by_key : {A : Type 0} (f : A → ℕ) (xs ys : List A) → IsStrictlyIncreasing (map f xs) → IsStrictlyIncreasing (map f ys) →
    ((a : A) → Contains xs a → Contains ys a) → ((a : A) → Contains ys a → Contains xs a) → xs ≡ ys
one_by_key f xs ys up vp to back =
    one_rising f xs ys (rises f xs up) (rises f ys vp) (λ a i. among a ys (to a (contains a xs i))) (λ a i. among a xs (back a (contains a ys i)))

pub one_by_order : (xs ys : List ℕ) → IsStrictlyIncreasing xs → IsStrictlyIncreasing ys → ((a : ℕ) → Contains xs a → Contains ys a) →
    ((a : ℕ) → Contains ys a → Contains xs a) → xs ≡ ys
one_by_order xs ys up vp to back =
    let ordered = λ (l : List ℕ). IsStrictlyIncreasing l in
    one_by_key (λ x. x) xs ys (subst ordered (sym (map-id xs)) up) (subst ordered (sym (map-id ys)) vp) to back

pub one_by_names : (f : ℕ → ℕ) (xs ys : List ℕ) → IsStrictlyIncreasing (map f xs) → IsStrictlyIncreasing (map f ys) → ((a : ℕ) → In a xs → In a ys) →
    ((a : ℕ) → In a ys → In a xs) → xs ≡ ys
one_by_names f xs ys up vp to back =
    one_rising f xs ys (rises f xs up) (rises f ys vp) (λ a i. in_among a ys (to a (among_in a xs i))) (λ a i. in_among a xs (back a (among_in a ys i)))
