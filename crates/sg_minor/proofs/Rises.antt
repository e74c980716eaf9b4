-- Lists of numbers in increasing order from some number on: what keeps them so, and that there is one of the same members.
use Rattle.std.proofs.Common.{◌≡◌, ℕ, zero, suc, ◌+◌, ◌<◌, ◌≤◌, Bool, inl, inr, List, [], ◌∷◌, ◌++◌, map, filter, get_or, sym, refl, ap, ◌∙◌, subst, arith}
use Rattle.std.specs.List.{flat_map}
use Rattle.std.specs.List.Sorted.{IsStrictlyIncreasing}
use Rattle.std.proofs.lemmas.Bool.{cases_Bool, cond-true, cond-false}
use Rattle.sg_words.specs.Lists.{In}
use Rattle.sg_words.specs.Objects.{strong_slots}
use Rattle.sg_words.specs.Reach.{AreDistinct, IsFreshIn}
use Rattle.sg_words.proofs.Members.{has-cases, in-here, in-there, in-cases, fresh-out}

-- each number is at least `lo`, and above the one before it
abbrev pub Rises : ℕ → List ℕ → Type 0
Rises lo [] = Unit {0}
Rises lo (x ∷ xs) = (lo ≤ x) × Rises (x + 1) xs

pub rises-from : (lo : ℕ) (xs : List ℕ) → Rises lo xs → (a : ℕ) → In a xs → lo ≤ a
rises-from lo [] r a h = absurd (let z = h in cc)
rises-from lo (x ∷ xs) r a h = let l = r.0 in elim (has-cases a x xs h) [
  | inl e ↦ omega arith
  | inr i ↦ let k = rises-from (x + 1) xs r.1 a i in omega arith
]

pub rises-lower : (lo at : ℕ) (xs : List ℕ) → at ≤ lo → Rises lo xs → Rises at xs
rises-lower lo at [] l r = tt
rises-lower lo at (x ∷ xs) l r = (let k = r.0 in omega arith, r.1)

-- a list that is increasing, and whose numbers are at least `lo`
pub rises-at : (lo : ℕ) (xs : List ℕ) → Rises 0 xs → ((a : ℕ) → In a xs → lo ≤ a) → Rises lo xs
rises-at lo [] r l = tt
rises-at lo (x ∷ xs) r l = (l x (in-here x x xs refl), r.1)

pub rises-append : (lo mid : ℕ) (xs ys : List ℕ) → Rises lo xs → lo ≤ mid → ((a : ℕ) → In a xs → a < mid) → Rises mid ys → Rises lo (xs ++ ys)
rises-append lo mid [] ys r l u k = rises-lower mid lo ys l k
rises-append lo mid (x ∷ xs) ys r l u k =
    (r.0, rises-append (x + 1) mid xs ys r.1 (let z = u x (in-here x x xs refl) in omega arith) (λ a i. u a (in-there a x xs i)) k)

pub rises-filter : (f : ℕ → Bool) (lo : ℕ) (xs : List ℕ) → Rises lo xs → Rises lo (filter f xs)
rises-filter f lo [] r = tt
rises-filter f lo (x ∷ xs) r =
    let more = rises-filter f (x + 1) xs r.1 in
    let l = r.0 in
    elim (cases_Bool (f x)) [
      | inl e ↦ subst (Rises lo) (sym (cond-true _ (x ∷ filter f xs) (filter f xs) e)) (r.0, more)
      | inr e ↦ subst (Rises lo) (sym (cond-false _ (x ∷ filter f xs) (filter f xs) e)) (rises-lower (x + 1) lo (filter f xs) (omega arith) more)
    ]

pub rises-slots : (strong : ℕ → Bool) (at i n : ℕ) → Rises (at + 2 + i) (strong_slots strong at i n)
rises-slots strong at i zero = tt
rises-slots strong at i (suc n) =
    let more = rises-slots strong at (suc i) n in
    elim (cases_Bool (strong i)) [
      | inl e ↦ subst (Rises (at + 2 + i)) (sym (cond-true _ ((at + 2 + i) ∷ strong_slots strong at (suc i) n) (strong_slots strong at (suc i) n) e))
          (omega arith, rises-lower (at + 2 + suc i) (at + 2 + i + 1) (strong_slots strong at (suc i) n) (omega arith) more)
      | inr e ↦ subst (Rises (at + 2 + i)) (sym (cond-false _ ((at + 2 + i) ∷ strong_slots strong at (suc i) n) (strong_slots strong at (suc i) n) e))
          (rises-lower (at + 2 + suc i) (at + 2 + i) (strong_slots strong at (suc i) n) (omega arith) more)
    ]

-- the lists of things that stand one behind another, each list within its thing
pub rises-flat : (address end : ℕ → ℕ) (f : ℕ → List ℕ) (lo : ℕ) (names : List ℕ) → Rises lo (map address names) →
    ((n : ℕ) → In n names → Rises (address n) (f n)) → ((n : ℕ) → In n names → (a : ℕ) → In a (f n) → a < end n) → ((n : ℕ) → In n names → address n ≤ end n) →
    ((m n : ℕ) → In m names → In n names → address m < address n → end m ≤ address n) → (at : ℕ) → ((n : ℕ) → In n names → at ≤ address n) → Rises at
    (flat_map f names)
rises-flat address end f lo [] r each below whole apart at l = tt
rises-flat address end f lo (n ∷ names) r each below whole apart at l =
    let here = in-here n n names refl in
    rises-append at (end n) (f n) (flat_map f names) (rises-lower (address n) at (f n) (l n here) (each n here))
    (let a = l n here in let z = whole n here in omega arith)
    (below n here)
    (rises-flat address end f (address n + 1) names r.1 (λ m i. each m (in-there m n names i)) (λ m i. below m (in-there m n names i))
    (λ m i. whole m (in-there m n names i))
    (λ m k i j. apart m k (in-there m n names i) (in-there k n names j)) (end n)
    (λ m i. apart n m here (in-there m n names i) (let k = rises-from (address n + 1) (map address names) r.1 (address m) (in_address m names i) in omega
    arith)))
  where
    in_address : (m : ℕ) (ns : List ℕ) → In m ns → In (address m) (map address ns)
    in_address m [] i = absurd (let z = i in cc)
    in_address m (k ∷ ns) i = elim (has-cases m k ns i) [
      | inl e ↦ in-here (address m) (address k) (map address ns) (ap address e)
      | inr j ↦ in-there (address m) (address k) (map address ns) (in_address m ns j)
    ]

-- two increasing lists with the same members are one
pub rises-one : (lo : ℕ) (xs ys : List ℕ) → Rises lo xs → Rises lo ys → ((a : ℕ) → In a xs → In a ys) → ((a : ℕ) → In a ys → In a xs) → xs ≡ ys
rises-one lo [] [] r k f g = refl
rises-one lo [] (y ∷ ys) r k f g = absurd (let z = g y (in-here y y ys refl) in cc)
rises-one lo (x ∷ xs) [] r k f g = absurd (let z = f x (in-here x x xs refl) in cc)
rises-one lo (x ∷ xs) (y ∷ ys) r k f g =
    let same : x ≡ y = elim (has-cases x y ys (f x (in-here x x xs refl))) [
      | inl e ↦ e
      | inr i ↦
          let above = rises-from (y + 1) ys k.1 x i in
          elim (has-cases y x xs (g y (in-here y y ys refl))) [
            | inl e ↦ sym e
            | inr j ↦ let under = rises-from (x + 1) xs r.1 y j in absurd (omega arith)
          ]
    ] in
    ap (λ (z : ℕ). z ∷ xs) same ∙ ap (λ (l : List ℕ). y ∷ l)
    (rises-one (x + 1) xs ys r.1 (subst (λ (z : ℕ). Rises (z + 1) ys) (sym same) k.1)
    (λ a i. let l = rises-from (x + 1) xs r.1 a i in elim (has-cases a y ys (f a (in-there a x xs i))) [
      | inl e ↦ absurd (omega arith)
      | inr j ↦ j
    ])
    (λ a i. let l = rises-from (y + 1) ys k.1 a i in elim (has-cases a x xs (g a (in-there a y ys i))) [
      | inl e ↦ absurd (omega arith)
      | inr j ↦ j
    ]))

pub rises-strict : (lo : ℕ) (xs : List ℕ) → Rises lo xs → IsStrictlyIncreasing xs
rises-strict lo [] r k l = absurd (omega arith)
rises-strict lo (x ∷ []) r k l = absurd (omega arith)
rises-strict lo (x ∷ y ∷ ys) r zero l = let z = r.1.0 in omega arith
rises-strict lo (x ∷ y ∷ ys) r (suc k) l =
    subst (λ (z : ℕ). get_or (x ∷ y ∷ ys) (suc k) 0 < get_or (x ∷ y ∷ ys) z 0) (let e : suc (k + 1) ≡ suc k + 1 = omega arith in e)
    (rises-strict (x + 1) (y ∷ ys) r.1 k (omega arith))

pub strict-rises : (lo : ℕ) (xs : List ℕ) → IsStrictlyIncreasing xs → ((a : ℕ) → In a xs → lo ≤ a) → Rises lo xs
strict-rises lo [] up l = tt
strict-rises lo (x ∷ []) up l = (l x (in-here x x [] refl), tt)
strict-rises lo (x ∷ y ∷ ys) up l = (
  l x (in-here x x (y ∷ ys) refl),
  let first : x < y = up 0 (omega arith) in
      let more = strict-rises 0 (y ∷ ys) (λ k u. subst (λ (z : ℕ). get_or (x ∷ y ∷ ys) (suc k) 0 < get_or (x ∷ y ∷ ys) z 0)
      (let e : suc k + 1 ≡ suc (k + 1) = omega arith in e) (up (suc k) (omega arith)))
      (λ a i. omega arith) in
      (omega arith, more.1),
)

pub rises-distinct : (lo : ℕ) (xs : List ℕ) → Rises lo xs → AreDistinct xs
rises-distinct lo [] r = tt
rises-distinct lo (x ∷ xs) r = (fresh-out x xs (λ i. let l = rises-from (x + 1) xs r.1 x i in omega arith), rises-distinct (x + 1) xs r.1)

pub distinct-append : (xs ys : List ℕ) → AreDistinct xs → AreDistinct ys → ((a : ℕ) → In a xs → In a ys → ⊥) → AreDistinct (xs ++ ys)
distinct-append [] ys d e apart = e
distinct-append (x ∷ xs) ys d e apart = (
  fresh-out x (xs ++ ys) (λ i. elim (in-cases x xs ys i) [
    | inl j ↦ fresh-in x xs d.0 j
    | inr j ↦ apart x (in-here x x xs refl) j
  ]),
  distinct-append xs ys d.1 e (λ a i j. apart a (in-there a x xs i) j),
)
  where
    fresh-in : (z : ℕ) (zs : List ℕ) → IsFreshIn z zs → In z zs → ⊥
    fresh-in z [] f i = let k = i in cc
    fresh-in z (u ∷ zs) f i = elim (has-cases z u zs i) [
      | inl k ↦ f.0 k
      | inr k ↦ fresh-in z zs f.1 k
    ]
