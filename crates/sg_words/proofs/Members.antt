-- Members of lists.
use Rattle.std.proofs.Common.{◌≡◌, ◌≢◌, ℕ, zero, suc, ◌≤◌, ◌<◌, ◌⊎◌, Bool, true, false, List, [], ◌∷◌, ◌++◌, map, filter, length, drop, slice_index_or, sym, refl, ap, ◌∙◌, subst, inl, inr, arith}
use Rattle.std.proofs.lemmas.Bool.{cond-true, cond-false, cases_eq, cases_Bool, eq-eqb, ne_eqb}
use Rattle.std.specs.List.{Contains, flat_map}
use Rattle.std.proofs.lemmas.List.Elements.{Contains-append_right}
use Rattle.sg_words.specs.Lists.{has, In}
use Rattle.sg_words.specs.Reach.{IsFreshIn, AreDistinct, AreAmong}

-- the first that x is, or a later one
pub has-cases : (x y : ℕ) (ys : List ℕ) → In x (y ∷ ys) → (x ≡ y) ⊎ In x ys
has-cases x y ys h = elim (cases_eq x y) [
  | inl e ↦ inl e
  | inr n ↦ inr (sym (cond-false _ true (has x ys) (ne_eqb x y n)) ∙ h)
]

pub in-here : (x y : ℕ) (ys : List ℕ) → x ≡ y → In x (y ∷ ys)
in-here x y ys e = cond-true _ _ _ (eq-eqb x y e)

pub in-there : (x y : ℕ) (ys : List ℕ) → In x ys → In x (y ∷ ys)
in-there x y ys h = elim (cases_eq x y) [
  | inl e ↦ in-here x y ys e
  | inr n ↦ cond-false _ _ _ (ne_eqb x y n) ∙ h
]

pub in-left : (x : ℕ) (xs ys : List ℕ) → In x xs → In x (xs ++ ys)
in-left x [] ys h = absurd (let z = h in cc)
in-left x (y ∷ xs) ys h = elim (has-cases x y xs h) [
  | inl e ↦ in-here x y (xs ++ ys) e
  | inr i ↦ in-there x y (xs ++ ys) (in-left x xs ys i)
]

pub in-right : (x : ℕ) (xs ys : List ℕ) → In x ys → In x (xs ++ ys)
in-right x [] ys h = h
in-right x (y ∷ xs) ys h = in-there x y (xs ++ ys) (in-right x xs ys h)

pub in-cases : (x : ℕ) (xs ys : List ℕ) → In x (xs ++ ys) → In x xs ⊎ In x ys
in-cases x [] ys h = inr h
in-cases x (y ∷ xs) ys h = elim (has-cases x y (xs ++ ys) h) [
  | inl e ↦ inl (in-here x y xs e)
  | inr i ↦ elim (in-cases x xs ys i) [
    | inl j ↦ inl (in-there x y xs j)
    | inr j ↦ inr j
  ]
]

pub in-one : (x y : ℕ) → In x (y ∷ []) → x ≡ y
in-one x y h = elim (has-cases x y [] h) [
  | inl e ↦ e
  | inr i ↦ absurd (let z = i in cc)
]

pub out : (x : ℕ) (xs : List ℕ) → (In x xs → ⊥) → has x xs ≡ false
out x xs n = elim (cases_Bool (has x xs)) [
  | inl e ↦ absurd (n e)
  | inr e ↦ e
]

pub not-in : (x : ℕ) (xs : List ℕ) → has x xs ≡ false → In x xs → ⊥
not-in x xs e h = let z : true ≡ false = sym h ∙ e in cc

pub fresh-out : (x : ℕ) (xs : List ℕ) → (In x xs → ⊥) → IsFreshIn x xs
fresh-out x [] n = tt
fresh-out x (y ∷ xs) n = (λ e. n (in-here x y xs e), fresh-out x xs (λ h. n (in-there x y xs h)))

-- the last one of a list
pub in-last : (x y : ℕ) (ys : List ℕ) → x ≡ y → In x (ys ++ y ∷ [])
in-last x y ys e = in-right x ys (y ∷ []) (in-here x y [] e)

pub in-before : (x y : ℕ) (ys : List ℕ) → In x ys → In x (ys ++ y ∷ [])
in-before x y ys h = in-left x ys (y ∷ []) h

pub last-cases : (x y : ℕ) (ys : List ℕ) → In x (ys ++ y ∷ []) → (x ≡ y) ⊎ In x ys
last-cases x y ys h = elim (in-cases x ys (y ∷ []) h) [
  | inl i ↦ inr i
  | inr i ↦ inl (in-one x y i)
]

fresh-more : (x y : ℕ) (xs : List ℕ) → IsFreshIn x xs → x ≢ y → IsFreshIn x (xs ++ y ∷ [])
fresh-more x y [] f n = (n, tt)
fresh-more x y (z ∷ xs) f n = (f.0, fresh-more x y xs f.1 n)

pub distinct-more : (x : ℕ) (xs : List ℕ) → AreDistinct xs → (In x xs → ⊥) → AreDistinct (xs ++ x ∷ [])
distinct-more x [] d n = (tt, tt)
distinct-more x (y ∷ xs) d n = (fresh-more y x xs d.0 (λ e. n (in-here x y xs (sym e))), distinct-more x xs d.1 (λ h. n (in-there x y xs h)))

-- what comes next in a list is one of the list
pub in-dropped : (x : ℕ) (xs : List ℕ) (i : ℕ) (rest : List ℕ) → drop i xs ≡ x ∷ rest → In x xs
in-dropped x xs zero rest e = subst (λ (l : List ℕ). In x l) (sym e) (in-here x x rest refl)
in-dropped x [] (suc i) rest e = subst (λ (l : List ℕ). In x l) (sym e) (in-here x x rest refl)
in-dropped x (y ∷ xs) (suc i) rest e = in-there x y xs (in-dropped x xs i rest e)

pub among-all : (h : ℕ) (xs : List ℕ) → ((a : ℕ) → In a xs → (1 ≤ a) × (a ≤ h)) → AreAmong h xs
among-all h [] f = tt
among-all h (x ∷ xs) f = let b = f x (in-here x x xs refl) in (b.0, b.1, among-all h xs (λ a i. f a (in-there a x xs i)))

-- members in std's words
contained : (xs : List ℕ) (a x k : ℕ) → Contains xs a → Contains (x ∷ xs) a
contained xs a x k w = Contains-append_right (x ∷ []) xs a w

pub contains_in : (a : ℕ) (xs : List ℕ) → In a xs → Contains xs a
contains_in a [] h = absurd (let z = h in cc)
contains_in a (x ∷ xs) h = elim (has-cases a x xs h) [
  | inl e ↦ (zero, omega arith, sym e)
  | inr i ↦ contained xs a x 0 (contains_in a xs i)
]

at_place : (a : ℕ) (xs : List ℕ) (k : ℕ) → k < length xs → slice_index_or xs k a ≡ a → In a xs
at_place a [] k l e = absurd (omega arith)
at_place a (x ∷ xs) zero l e = in-here a x xs (sym e)
at_place a (x ∷ xs) (suc k) l e = in-there a x xs (at_place a xs k (omega arith) e)

pub in_contains : (a : ℕ) (xs : List ℕ) → Contains xs a → In a xs
in_contains a xs w = at_place a xs w.0 w.1 w.2

pub in_map : (f : ℕ → ℕ) (a : ℕ) (xs : List ℕ) → In a xs → In (f a) (map f xs)
in_map f a [] h = absurd (let z = h in cc)
in_map f a (x ∷ xs) h = elim (has-cases a x xs h) [
  | inl e ↦ in-here (f a) (f x) (map f xs) (ap f e)
  | inr i ↦ in-there (f a) (f x) (map f xs) (in_map f a xs i)
]

pub map_in : (f : ℕ → ℕ) (b : ℕ) (xs : List ℕ) → In b (map f xs) → (a : ℕ) × In a xs × (f a ≡ b)
map_in f b [] h = absurd (let z = h in cc)
map_in f b (x ∷ xs) h = elim (has-cases b (f x) (map f xs) h) [
  | inl e ↦ (x, in-here x x xs refl, sym e)
  | inr i ↦ let q = map_in f b xs i in (q.0, in-there q.0 x xs q.1, q.2)
]

-- members of what passes a test, and of lists one behind another
pub in-filter : (f : ℕ → Bool) (x : ℕ) (xs : List ℕ) → In x (filter f xs) → In x xs × (f x ≡ true)
in-filter f x [] h = absurd (let z = h in cc)
in-filter f x (y ∷ xs) h = elim (cases_Bool (f y)) [
  | inl k ↦ elim (has-cases x y (filter f xs) (subst (λ (l : List ℕ). In x l) (cond-true _ _ _ k) h)) [
    | inl e ↦ (in-here x y xs e, ap f e ∙ k)
    | inr i ↦ let q = in-filter f x xs i in (in-there x y xs q.0, q.1)
  ]
  | inr k ↦ let q = in-filter f x xs (subst (λ (l : List ℕ). In x l) (cond-false _ (y ∷ filter f xs) _ k) h) in (in-there x y xs q.0, q.1)
]

pub filter-in : (f : ℕ → Bool) (x : ℕ) (xs : List ℕ) → In x xs → f x ≡ true → In x (filter f xs)
filter-in f x [] h k = absurd (let z = h in cc)
filter-in f x (y ∷ xs) h k = elim (has-cases x y xs h) [
  | inl e ↦ subst (λ (l : List ℕ). In x l) (sym (cond-true _ _ _ (ap f (sym e) ∙ k))) (in-here x y (filter f xs) e)
  | inr i ↦ (let more = filter-in f x xs i k in elim (cases_Bool (f y)) [
    | inl e ↦ subst (λ (l : List ℕ). In x l) (sym (cond-true _ _ _ e)) (in-there x y (filter f xs) more)
    | inr e ↦ subst (λ (l : List ℕ). In x l) (sym (cond-false _ (y ∷ filter f xs) _ e)) more
  ])
]

pub flat-in : (f : ℕ → List ℕ) (n x : ℕ) (xs : List ℕ) → In n xs → In x (f n) → In x (flat_map f xs)
flat-in f n x [] h k = absurd (let z = h in cc)
flat-in f n x (y ∷ xs) h k = elim (has-cases n y xs h) [
  | inl e ↦ in-left x (f y) (flat_map f xs) (subst (λ (z : ℕ). In x (f z)) e k)
  | inr i ↦ in-right x (f y) (flat_map f xs) (flat-in f n x xs i k)
]

pub in-flat : (f : ℕ → List ℕ) (x : ℕ) (xs : List ℕ) → In x (flat_map f xs) → (n : ℕ) × In n xs × In x (f n)
in-flat f x [] h = absurd (let z = h in cc)
in-flat f x (y ∷ xs) h = elim (in-cases x (f y) (flat_map f xs) h) [
  | inl i ↦ (y, in-here y y xs refl, i)
  | inr i ↦ let q = in-flat f x xs i in (q.0, in-there q.0 y xs q.1, q.2)
]
