-- The places that found objects take, one after another.
use Rattle.std.proofs.Common.{◌≡◌, ℕ, ◌^◌, ◌<◌, ◌⊎◌, List, [], ◌∷◌, ◌++◌, sym, refl, ap, ◌∙◌, subst, inl, inr}
use Rattle.std.specs.Int.Bits.{bit_or}
use Rattle.sg_words.specs.Lists.{In}
use Rattle.sg_words.specs.Objects.{size_of}
use Rattle.sg_words.specs.Words.{put}
use Rattle.sg_words.specs.Blocks.{slot_size}
use Rattle.sg_words.specs.declared.steps.BlockWord.{BlockWord}
use Rattle.sg_words.specs.declared.steps.BlockWord.TheVariants.{Swept}
use Rattle.sg_words.proofs.Members.{in-here, in-there, has-cases}
use Rattle.sg_round.specs.Area.{Area, place}
use Rattle.sg_round.specs.Order.{IsLowest, Fits}
use Rattle.sg_round.specs.Round.{IsPassed}

-- the block words and the occupancies with slot i of block b taken for z words
abbrev pub with_block : (ℕ → BlockWord) → ℕ → ℕ → ℕ → BlockWord
with_block block b z = put block b (Swept z)

abbrev pub with_bit : (ℕ → ℕ) → ℕ → ℕ → ℕ → ℕ
with_bit used b i = put used b (bit_or (used b) (2 ^ i))

module _ (area : Area) (w : ℕ → ℕ) (m : ℕ → ℕ) (x : ℕ) (block' : ℕ → BlockWord) (used' : ℕ → ℕ) where
  -- one more object moves, or fails
  pub fits-moved : (b i : ℕ) → IsLowest area block' used' (slot_size (size_of w x)) b i → m x ≡ place area b (slot_size (size_of w x)) i →
      (block : ℕ → BlockWord) (used : ℕ → ℕ) (moves fails found : List ℕ) → Fits area w m block used moves fails found block' used' →
      Fits area w m block used (moves ++ x ∷ []) fails (found ++ x ∷ []) (with_block block' b (slot_size (size_of w x))) (with_bit used' b i)
  fits-moved b i low at block used moves fails [] p = inl (
    b,
    i,
    [],
    subst (λ (f : ℕ → BlockWord). IsLowest area f used (slot_size (size_of w x)) b i) p.2
        (subst (λ (f : ℕ → ℕ). IsLowest area block' f (slot_size (size_of w x)) b i) p.3 low),
    at,
    ap (λ (l : List ℕ). l ++ x ∷ []) p.0,
    (refl, p.1, ap (λ (f : ℕ → BlockWord). with_block f b (slot_size (size_of w x))) p.2, ap (λ (f : ℕ → ℕ). with_bit f b i) p.3),
  )
  fits-moved b i low at block used moves fails (y ∷ found) p = elim p [
    | inl q ↦ inl (
      q.0,
      q.1,
      q.2 ++ x ∷ [],
      q.3,
      q.4,
      ap (λ (l : List ℕ). l ++ x ∷ []) q.5,
      fits-moved b i low at (with_block block q.0 (slot_size (size_of w y))) (with_bit used q.0 q.1) q.2 fails found q.6,
    )
    | inr q ↦ inr (q.0, q.1, q.2, fits-moved b i low at block used moves q.0 found q.3)
  ]

  pub fits-failed : ((b : ℕ) → b < area.blocks → IsPassed block' used' (slot_size (size_of w x)) b) →
      (block : ℕ → BlockWord) (used : ℕ → ℕ) (moves fails found : List ℕ) → Fits area w m block used moves fails found block' used' →
      Fits area w m block used moves (fails ++ x ∷ []) (found ++ x ∷ []) block' used'
  fits-failed full block used moves fails [] p = inr (
    [],
    (λ b l. subst (λ (f : ℕ → BlockWord). IsPassed f used (slot_size (size_of w x)) b) p.2
        (subst (λ (f : ℕ → ℕ). IsPassed block' f (slot_size (size_of w x)) b) p.3 (full b l))),
    ap (λ (l : List ℕ). l ++ x ∷ []) p.1,
    (p.0, refl, p.2, p.3),
  )
  fits-failed full block used moves fails (y ∷ found) p = elim p [
    | inl q ↦ inl (q.0, q.1, q.2, q.3, q.4, q.5, fits-failed full (with_block block q.0 (slot_size (size_of w y))) (with_bit used q.0 q.1) q.2 fails found q.6)
    | inr q ↦ inr (q.0 ++ x ∷ [], q.1, ap (λ (l : List ℕ). l ++ x ∷ []) q.2, fits-failed full block used moves q.0 found q.3)
  ]

  -- the found ones are those that moved or failed
  pub fits-in : (block : ℕ → BlockWord) (used : ℕ → ℕ) (moves fails found : List ℕ) → Fits area w m block used moves fails found block' used' →
      In x moves ⊎ In x fails → In x found
  fits-in block used moves fails [] p h = elim h [ inl i ↦ subst (λ (l : List ℕ). In x l) p.0 i | inr i ↦ subst (λ (l : List ℕ). In x l) p.1 i ]
  fits-in block used moves fails (y ∷ found) p h = elim p [
    | inl q ↦ elim h [
      | inl i ↦ elim (has-cases x y q.2 (subst (λ (l : List ℕ). In x l) q.5 i)) [
        | inl e ↦ in-here x y found e
        | inr j ↦ in-there x y found (fits-in (with_block block q.0 (slot_size (size_of w y))) (with_bit used q.0 q.1) q.2 fails found q.6 (inl j))
      ]
      | inr i ↦ in-there x y found (fits-in (with_block block q.0 (slot_size (size_of w y))) (with_bit used q.0 q.1) q.2 fails found q.6 (inr i))
    ]
    | inr q ↦ elim h [
      | inl i ↦ in-there x y found (fits-in block used moves q.0 found q.3 (inl i))
      | inr i ↦ elim (has-cases x y q.0 (subst (λ (l : List ℕ). In x l) q.2 i)) [
        | inl e ↦ in-here x y found e
        | inr j ↦ in-there x y found (fits-in block used moves q.0 found q.3 (inr j))
      ]
    ]
  ]

  pub fits-out : (block : ℕ → BlockWord) (used : ℕ → ℕ) (moves fails found : List ℕ) → Fits area w m block used moves fails found block' used' → In x found →
      In x moves ⊎ In x fails
  fits-out block used moves fails [] p h = absurd (let z = h in cc)
  fits-out block used moves fails (y ∷ found) p h = elim p [
    | inl q ↦ elim (has-cases x y found h) [
      | inl e ↦ inl (subst (λ (l : List ℕ). In x l) (sym q.5) (in-here x y q.2 e))
      | inr j ↦ elim (fits-out (with_block block q.0 (slot_size (size_of w y))) (with_bit used q.0 q.1) q.2 fails found q.6 j) [
        | inl i ↦ inl (subst (λ (l : List ℕ). In x l) (sym q.5) (in-there x y q.2 i))
        | inr i ↦ inr i
      ]
    ]
    | inr q ↦ elim (has-cases x y found h) [
      | inl e ↦ inr (subst (λ (l : List ℕ). In x l) (sym q.2) (in-here x y q.0 e))
      | inr j ↦ elim (fits-out block used moves q.0 found q.3 j) [
        | inl i ↦ inl i
        | inr i ↦ inr (subst (λ (l : List ℕ). In x l) (sym q.2) (in-there x y q.0 i))
      ]
    ]
  ]

-- another map that agrees on the moved ones
pub fits-map : (area : Area) (w : ℕ → ℕ) (m m' : ℕ → ℕ) (block' : ℕ → BlockWord) (used' : ℕ → ℕ) (block : ℕ → BlockWord) (used : ℕ → ℕ)
    (moves fails found : List ℕ) →
    ((a : ℕ) → In a moves → m' a ≡ m a) → Fits area w m block used moves fails found block' used' → Fits area w m' block used moves fails found block' used'
fits-map area w m m' block' used' block used moves fails [] same p = p
fits-map area w m m' block' used' block used moves fails (y ∷ found) same p = elim p [
  | inl q ↦ inl (
    q.0,
    q.1,
    q.2,
    q.3,
    same y (subst (λ (l : List ℕ). In y l) (sym q.5) (in-here y y q.2 refl)) ∙ q.4,
    q.5,
    fits-map area w m m' block' used' (with_block block q.0 (slot_size (size_of w y))) (with_bit used q.0 q.1) q.2 fails found
        (λ a h. same a (subst (λ (l : List ℕ). In a l) (sym q.5) (in-there a y q.2 h))) q.6,
  )
  | inr q ↦ inr (q.0, q.1, q.2, fits-map area w m m' block' used' block used moves q.0 found same q.3)
]
