-- A list of different objects isn't longer than the space has room for.
use Rattle.std.proofs.Common.{◌≡◌, ◌≢◌, ℕ, ◌+◌, ◌-◌, ◌/◌, ◌<◌, ◌≤◌, inl, inr, refl, Option, Some, List, [], ◌∷◌, map, length, sym, ◌∙◌, subst, arith}
use Rattle.std.proofs.lemmas.Bool.{cases_eq, cases_lt}
use Rattle.std.proofs.lemmas.List.{length-map}
use Rattle.sg_words.specs.Lists.{In}
use Rattle.sg_words.specs.Reach.{IsFreshIn, AreDistinct}
use Rattle.sg_words.proofs.Members.{has-cases, in-here, in-there, fresh-out, among-all, map_in}
use Rattle.sg_words.proofs.Distinct.{few}
use Rattle.sg_space.specs.Space.{Contents}
use Rattle.sg_space.specs.Standing.{IsSoundBy, IsStanding}
use Rattle.sg_mark.specs.Gray.{most_objects}
use Rattle.sg_mark.proofs.Places.{inside}

fresh_not : (x : ℕ) (xs : List ℕ) → IsFreshIn x xs → In x xs → ⊥
fresh_not x [] f h = let z = h in cc
fresh_not x (y ∷ xs) f h = elim (has-cases x y xs h) [
  | inl e ↦ f.0 e
  | inr i ↦ fresh_not x xs f.1 i
]

distinct_map : (f : ℕ → ℕ) (xs : List ℕ) → AreDistinct xs → ((x y : ℕ) → In x xs → In y xs → f x ≡ f y → x ≡ y) → AreDistinct (map f xs)
distinct_map f [] d once = tt
distinct_map f (x ∷ xs) d once = (
  fresh-out (f x) (map f xs) (λ i.
      let q = map_in f (f x) xs i in
      fresh_not x xs d.0 (subst (λ (n : ℕ). In n xs) (sym (once x q.0 (in-here x x xs refl) (in-there q.0 x xs q.1) (sym q.2))) q.1)),
  distinct_map f xs d.1 (λ a b i j e. once a b (in-there a x xs i) (in-there b x xs j) e),
)

-- the pair of words that has an object's first word: no other object has its first word there
pair : ℕ → ℕ
pair a = a / 16 - 255

module _ (t : Contents) (owner : ℕ → Option ℕ) (sound : IsSoundBy t owner) where
  -- an object's second word is no other one's first
  second : (h k : ℕ) → owner h ≡ Some h → owner k ≡ Some k → h < k → h + 1 ≢ k
  second h k a b l e =
      let is = sound.whole h k a (omega arith) (omega arith) in
      let same : Some k ≡ Some h = sym b ∙ is in
      let eq : k ≡ h = cc in
      absurd (omega arith)

  pair_once : (a b : ℕ) → IsStanding owner a → IsStanding owner b → pair a ≡ pair b → a ≡ b
  unfolding pair
  pair_once a b at by e =
      let x = at.2 in
      let y = by.2 in
      let low = (inside t owner sound at.0 at.1).0 in
      let low2 = (inside t owner sound by.0 by.1).0 in
      elim (cases_eq at.0 by.0) [
        | inl same ↦ omega arith
        | inr n ↦ elim (cases_lt at.0 by.0) [
          | inl l ↦ absurd (let f = second at.0 by.0 at.1 by.1 l in omega arith)
          | inr l ↦ absurd (let l2 : by.0 < at.0 = omega arith in let f = second by.0 at.0 by.1 at.1 l2 in omega arith)
        ]
      ]

  pair_bound : (a : ℕ) → IsStanding owner a → (1 ≤ pair a) × (pair a ≤ most_objects t.layout)
  unfolding pair
  pair_bound a at =
      let x = at.2 in
      let is = inside t owner sound at.0 at.1 in
      let low = is.0 in
      let high = is.1 in
      (omega arith, omega arith)

  pub few_gray : (gray : List ℕ) → AreDistinct gray → ((a : ℕ) → In a gray → IsStanding owner a) → length gray ≤ most_objects t.layout
  few_gray gray distinct stand =
      let long = length-map gray pair in
      let most = few (most_objects t.layout) (map pair gray)
      (distinct_map pair gray distinct (λ x y i j e. pair_once x y (stand x i) (stand y j) e))
      (among-all (most_objects t.layout) (map pair gray) (λ b i.
      let q = map_in pair b gray i in
      let e = q.2 in
      let is = pair_bound q.0 (stand q.0 q.1) in
      subst (λ (n : ℕ). (1 ≤ n) × (n ≤ most_objects t.layout)) e is)) in
      omega arith
