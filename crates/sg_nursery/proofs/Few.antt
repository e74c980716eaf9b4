-- A nursery has few fragments: each has 32 words or more, and they lie apart.
use Rattle.std.proofs.Common.{◌≡◌, ℕ, suc, ◌+◌, ◌*◌, ◌<◌, ◌≤◌, inl, inr, List, [], ◌∷◌, map, length, refl, ap, ◌∙◌, subst, arith, slice_index}
use Rattle.std.specs.List.{Contains}
use Rattle.std.specs.List.Sorted.{IsStrictlyIncreasing}
use Rattle.std.proofs.lemmas.Bool.{cases_lt}
use Rattle.std.proofs.lemmas.List.{length-map, get_or-map}
use Rattle.std.proofs.lemmas.List.Elements.{Contains-append_right}
use Rattle.sg_words.specs.declared.pieces.Piece.{Piece}
use Rattle.sg_words.specs.declared.pieces.Piece.TheVariants.{Frag, Waste}
use Rattle.sg_words.specs.Pieces.{IsPieceOf, place, fronts_of}
use Rattle.sg_words.specs.declared.layout.Layout.{Layout}
use Rattle.sg_space.specs.declared.objects.Object.{Object}
use Rattle.sg_words.specs.Sections.{IsLayout, nursery_base, old_base}
use Rattle.sg_nursery.specs.Pieces.{IsGap, ArePieces}
use Rattle.sg_nursery.proofs.Gaps.{place_is}
use Rattle.sg_words.proofs.Sorted.{sorted_far}

module _ (layout : Layout) (standing : List Object) where
  -- a gap that begins behind another one begins at its end or later
  behind : (x n y k : ℕ) → IsGap layout standing x n → IsGap layout standing y k → x < y → x + n ≤ y
  behind x n y k first second l = elim (cases_lt y (x + n)) [
    | inr up ↦ up
    | inl over ↦ elim second.before [
      | inl e ↦ let from = first.from in absurd (omega arith)
      | inr q ↦ let next = q.1 in absurd (first.free q.0 (omega arith) (omega arith) q.2)
    ]
  ]

  abbrev AreGaps : List Piece → Type 0
  AreGaps pieces = (q : Piece) → Contains pieces q → (x n : ℕ) × IsPieceOf q x n × IsGap layout standing x n

  next_gaps : (q : Piece) (pieces : List Piece) → AreGaps (q ∷ pieces) → AreGaps pieces
  next_gaps q pieces each r i = each r (Contains-append_right (q ∷ []) pieces r i)

  next_order : (q : Piece) (pieces : List Piece) → IsStrictlyIncreasing (map place (q ∷ pieces)) → IsStrictlyIncreasing (map place pieces)
  next_order q pieces up k l =
      let e : suc k + 1 ≡ suc (k + 1) = omega arith in
      subst (λ z. slice_index (map place pieces) k < slice_index (map place (q ∷ pieces)) z) e (up (suc k) (omega arith))

  size_of_frag : (at words x n : ℕ) → IsPieceOf (Frag at words) x n → 32 ≤ n
  size_of_frag at words x n is = is.0

  -- each piece behind the first one begins behind the first one's gap
  later : (q : Piece) (pieces : List Piece) (x n : ℕ) → IsPieceOf q x n → IsGap layout standing x n → AreGaps (q ∷ pieces) → IsStrictlyIncreasing (map place (q ∷ pieces)) →
      (r : Piece) → Contains pieces r → 8 * (x + n) ≤ place r
  later q pieces x n is gap each up r i =
      let w = next_gaps q pieces each r i in
      let there = i.1 in
      let lengths = length-map pieces place in
      let at : slice_index (map place pieces) i.0 ≡ place r = get_or-map place pieces i.0 r 0 i.1 ∙ ap place i.2 in
      let up_to : place q < slice_index (map place pieces) i.0 = sorted_far (map place (q ∷ pieces)) up 0 (suc i.0) (omega arith) (omega arith) in
      let first = place_is q x n is in
      let second = place_is r w.0 w.1 w.2 in
      let apart = behind x n w.0 w.1 gap w.3 (omega arith) in
      omega arith

  counted : (q : Piece) (pieces : List Piece) (f x n : ℕ) → IsPieceOf q x n → f ≤ x → x + n + 32 * length (fronts_of pieces) ≤ old_base layout → f + 32 * length (fronts_of (q ∷ pieces)) ≤ old_base layout
  counted (Frag at words) pieces f x n is start rest = let least = size_of_frag at words x n is in let goal : f + 32 * suc (length (fronts_of pieces)) ≤ old_base layout = omega arith in goal
  counted (Waste at words) pieces f x n is start rest = omega arith

  -- from the word f on, up to the nursery's end
  room : (pieces : List Piece) (f : ℕ) → f ≤ old_base layout → AreGaps pieces → IsStrictlyIncreasing (map place pieces) → ((q : Piece) → Contains pieces q → 8 * f ≤ place q) → f + 32 * length (fronts_of pieces) ≤ old_base layout
  room [] f below each up from = omega arith
  room (q ∷ pieces) f below each up from =
      let here : Contains (q ∷ pieces) q = (0, omega arith, refl) in
      let w = each q here in
      let x = w.0 in
      let n = w.1 in
      let at = place_is q x n w.2 in
      let start = from q here in
      let rest = room pieces (x + n) w.3.within (next_gaps q pieces each) (next_order q pieces up) (later q pieces x n w.2 w.3 each up) in
      counted q pieces f x n w.2 (omega arith) rest

  pub few_fragments : IsLayout layout → (pieces : List Piece) → ArePieces layout standing pieces → length (fronts_of pieces) ≤ 2048
  few_fragments is pieces are =
      let most = is.nursery_most in
      let fits = room pieces nursery_base (omega arith) are.each are.in_order (λ q i.
      let w = are.each q i in
      let from = w.3.from in
      let at = place_is q w.0 w.1 w.2 in
      omega arith) in
      omega arith
