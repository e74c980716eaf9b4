-- The fragments among the pieces of the nursery.
use Rattle.std.proofs.Common.{◌≡◌, ℕ, zero, suc, ◌+◌, ◌*◌, ◌≤◌, ◌<◌, List, [], ◌∷◌, length, map, get_or, slice_index, AllPairs, Contains, sym, refl, ap, ◌∙◌, subst, inl, inr, arith}
use Rattle.std.proofs.lemmas.Bool.{cases_lt}
use Rattle.std.proofs.lemmas.List.{length-map, get_or-map, get_or_past}
use Rattle.std.proofs.lemmas.List.Kept.{AllPairs-from_increasing}
use Rattle.sg_words.specs.Address.{byte_at, word_at}
use Rattle.sg_words.specs.declared.pieces.Piece.{Piece}
use Rattle.sg_words.specs.declared.pieces.Piece.TheVariants.{Frag, Waste}
use Rattle.sg_words.specs.Pieces.{fronts_of, ends_of, place}
use Rattle.sg_words.specs.declared.layout.Layout.{Layout}
use Rattle.sg_words.proofs.Fragments.{same_count}
use Rattle.sg_space.specs.declared.objects.Object.{Object}
use Rattle.sg_nursery.specs.Pieces.{IsGap, ArePieces}

contains-there : (piece other : Piece) (pieces : List Piece) → Contains pieces piece → Contains (other ∷ pieces) piece
contains-there piece other pieces h = (suc h.0, let l = h.1 in omega arith, h.2)

-- fragment f is one of the pieces
pub record IsFragment (pieces : List Piece) (f at words : ℕ) : Type 0 where
  pub there : Contains pieces (Frag at words)
  pub front : slice_index (fronts_of pieces) f ≡ at
  pub behind : slice_index (ends_of pieces) f ≡ at + 8 * words

pub fragment-of : (pieces : List Piece) (f : ℕ) → f < length (fronts_of pieces) → (at words : ℕ) × IsFragment pieces f at words
fragment-of [] f l = absurd (omega arith)
fragment-of (Frag at words ∷ pieces) zero l = (at, words, record { there = (0, omega arith, refl); front = refl; behind = refl })
fragment-of (Frag at words ∷ pieces) (suc f) l =
    let r = fragment-of pieces f (omega arith) in
    (r.0, r.1, record { there = contains-there (Frag r.0 r.1) (Frag at words) pieces r.2.there; front = r.2.front; behind = r.2.behind })
fragment-of (Waste at words ∷ pieces) f l =
    let r = fragment-of pieces f l in
    (r.0, r.1, record { there = contains-there (Frag r.0 r.1) (Waste at words) pieces r.2.there; front = r.2.front; behind = r.2.behind })

tail-pairs : (x : ℕ) (xs : List ℕ) → AllPairs (λ x y. x < y) (x ∷ xs) → AllPairs (λ x y. x < y) xs
tail-pairs x xs h i j d l u = h (suc i) (suc j) d (omega arith) (omega arith)

-- a place behind the first one
above-first : (x : ℕ) (pieces : List Piece) (piece : Piece) → AllPairs (λ x y. x < y) (x ∷ map place pieces) → Contains pieces piece → x < place piece
above-first x pieces piece h c =
    let within = c.1 in
    let lengths = length-map pieces place in
    let up : x < get_or (map place pieces) c.0 0 = h 0 (suc c.0) 0 (omega arith) (omega arith) in
    let is : get_or (map place pieces) c.0 0 ≡ place piece = get_or-map place pieces c.0 piece 0 within ∙ ap place c.2 in
    omega arith

pub fronts-rise : (pieces : List Piece) → AllPairs (λ x y. x < y) (map place pieces) → (f j : ℕ) → f < j → j < length (fronts_of pieces) → slice_index
    (fronts_of pieces) f < slice_index (fronts_of pieces) j
fronts-rise [] h f j l u = absurd (omega arith)
fronts-rise (Frag at words ∷ pieces) h f zero l u = absurd (omega arith)
fronts-rise (Frag at words ∷ pieces) h zero (suc j) l u =
    let r = fragment-of pieces j (omega arith) in
    subst (λ z. at < z) (sym r.2.front) (above-first at pieces (Frag r.0 r.1) h r.2.there)
fronts-rise (Frag at words ∷ pieces) h (suc f) (suc j) l u = fronts-rise pieces (tail-pairs at (map place pieces) h) f j (omega arith) (omega arith)
fronts-rise (Waste at words ∷ pieces) h f j l u = fronts-rise pieces (tail-pairs at (map place pieces) h) f j l u

-- the words of the fragments
abbrev pub next_of : List Piece → ℕ → ℕ
next_of pieces f = word_at (slice_index (fronts_of pieces) f)

abbrev pub limit_of : List Piece → ℕ → ℕ
limit_of pieces f = word_at (slice_index (ends_of pieces) f)

-- there is none behind the last fragment
pub next-beyond : (pieces : List Piece) (f : ℕ) → length (fronts_of pieces) ≤ f → next_of pieces f ≡ 0
next-beyond pieces f l = ap word_at (get_or_past (fronts_of pieces) f 0 l)

pub limit-beyond : (pieces : List Piece) (f : ℕ) → length (fronts_of pieces) ≤ f → limit_of pieces f ≡ 0
limit-beyond pieces f l = let same = same_count pieces in ap word_at (get_or_past (ends_of pieces) f 0 (omega arith))

-- fragment f is a gap of the nursery
pub record IsTile (layout : Layout) (standing : List Object) (pieces : List Piece) (f : ℕ) : Type 0 where
  pub words : ℕ
  pub gap : IsGap layout standing (next_of pieces f) words
  pub behind : limit_of pieces f ≡ next_of pieces f + words
  pub front_at : slice_index (fronts_of pieces) f ≡ byte_at (next_of pieces f)
  pub end_at : slice_index (ends_of pieces) f ≡ byte_at (limit_of pieces f)

module _ (layout : Layout) (standing : List Object) (pieces : List Piece) (are : ArePieces layout standing pieces) where
  pub tile : (f : ℕ) → f < length (fronts_of pieces) → IsTile layout standing pieces f
  tile f l =
      let r = fragment-of pieces f l in
      let e = are.each (Frag r.0 r.1) r.2.there in
      let front = r.2.front in
      let behind = r.2.behind in
      let at : r.0 ≡ 8 * e.0 = e.2.1 in
      let words : r.1 ≡ e.1 = e.2.2 in
      let first : e.0 ≡ next_of pieces f = omega arith in
      record {
        words = e.1;
        gap = subst (λ x. IsGap layout standing x e.1) first e.3;
        behind = omega arith;
        front_at = omega arith;
        end_at = omega arith;
      }

  pub tiles-rise : (f j : ℕ) → f < j → j < length (fronts_of pieces) → next_of pieces f < next_of pieces j
  tiles-rise f j l u =
      let a = (tile f (omega arith)).front_at in
      let c = (tile j u).front_at in
      let rise = fronts-rise pieces (AllPairs-from_increasing (map place pieces) are.in_order) f j l u in
      omega arith

  -- the fragments stand apart
  pub tiles-apart : (f j : ℕ) → f < j → j < length (fronts_of pieces) → limit_of pieces f ≤ next_of pieces j
  tiles-apart f j l u =
      let a = tile f (omega arith) in
      let c = tile j u in
      let rise = tiles-rise f j l u in
      let behind = a.behind in
      elim (cases_lt (next_of pieces j) (limit_of pieces f)) [
        | inl under ↦ elim c.gap.before [
          | inl e ↦ (let from = a.gap.from in omega arith)
          | inr y ↦ (let e = y.1 in absurd (a.gap.free y.0 (omega arith) (omega arith) y.2))
        ]
        | inr over ↦ over
      ]
