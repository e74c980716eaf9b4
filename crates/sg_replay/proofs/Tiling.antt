-- How the nursery is tiled after a pause is determined by the objects that stand in it.
use Rattle.std.proofs.Common.{◌≡◌, ℕ, ◌+◌, inl, inr, List, length, slice_index, sym, ap, ◌∙◌, subst, arith}
use Rattle.std.proofs.lemmas.Bool.{cases_lt}
use Rattle.std.specs.List.{Contains}
use Rattle.sg_words.specs.Pieces.{fronts_of, ends_of, IsPieceOf, place}
use Rattle.sg_words.specs.declared.pieces.Piece.{Piece}
use Rattle.sg_words.specs.declared.pieces.Piece.TheVariants.{Frag, Waste}
use Rattle.sg_program.specs.declared.program.Program.{Program}
use Rattle.sg_graph.specs.Graph.{Graph}
use Rattle.sg_graph.specs.Book.{Book}
use Rattle.sg_graph.specs.Tiling.{IsCovered, IsGap, IsTiled}
use Rattle.sg_replay.proofs.Rising.{one_by_key}

-- the same objects stand at the same places
pub record StandSame (c d : Book) : Type 0 where
  pub stands : (n : ℕ) → c.stands n ≡ d.stands n
  pub address : (n : ℕ) → c.address n ≡ d.address n
  pub section : (n : ℕ) → c.section n ≡ d.section n

turned : (c d : Book) → StandSame c d → StandSame d c
turned c d same = record { stands = λ n. sym (same.stands n); address = λ n. sym (same.address n); section = λ n. sym (same.section n) }

covered : (h : Graph) (c d : Book) (x : ℕ) → StandSame c d → IsCovered h c x → IsCovered h d x
covered h c d x same (n, young, word) = (
  n,
  sym (same.section n) ∙ young,
  record {
    some = word.some;
    stands = sym (same.stands n) ∙ word.stands;
    above = let e = same.address n in let l = word.above in omega arith;
    below = let e = same.address n in let l = word.below in omega arith;
  },
)

gap : (p : Program) (h : Graph) (c d : Book) (x n : ℕ) → StandSame c d → IsGap p h c x n → IsGap p h d x n
gap p h c d x n same g = record {
  some = g.some;
  from = g.from;
  within = g.within;
  free = λ y l k over. g.free y l k (covered h d c y (turned c d same) over);
  before = elim (g.before) [
    | inl e ↦ inl e
    | inr q ↦ inr (q.0, q.1, covered h c d q.0 same q.2)
  ];
  behind = elim (g.behind) [
    | inl e ↦ inl e
    | inr q ↦ inr (covered h c d (x + n) same q)
  ];
}

one_piece : (x n : ℕ) (a b : Piece) → IsPieceOf a x n → IsPieceOf b x n → a ≡ b
one_piece x n (Frag at words) (Frag at' words') h k = λ i. Frag ((h.1 ∙ sym k.1) i) ((h.2 ∙ sym k.2) i)
one_piece x n (Frag at words) (Waste at' words') h k = absurd (let l = h.0 in let m = k.0 in omega arith)
one_piece x n (Waste at words) (Frag at' words') h k = absurd (let l = h.0 in let m = k.0 in omega arith)
one_piece x n (Waste at words) (Waste at' words') h k = λ i. Waste ((h.1 ∙ sym k.1) i) ((h.2 ∙ sym k.2) i)

passed_on : (p : Program) (h : Graph) (c d : Book) (xs ys : List Piece) → StandSame c d → IsTiled p h c xs → IsTiled p h d ys → (a : Piece) → Contains xs a →
    Contains ys a
passed_on p h c d xs ys same x y a i =
    let e = x.each a i in
    let there = y.all e.0 e.1 (gap p h c d e.0 e.1 same e.3) in
    subst (λ z. Contains ys z) (one_piece e.0 e.1 there.0 a there.1 e.2) there.2

module _ (p : Program) (h : Graph) (c d : Book) (xs ys : List Piece) (same : StandSame c d) (x : IsTiled p h c xs) (y : IsTiled p h d ys) where
  pub one_tiling : xs ≡ ys
  one_tiling = one_by_key place xs ys x.in_order y.in_order (passed_on p h c d xs ys same x y) (passed_on p h d c ys xs (turned c d same) y x)

  pub one_count : c.fragments ≡ d.fragments
  one_count = x.fragments ∙ ap (λ (l : List Piece). length (fronts_of l)) one_tiling ∙ sym y.fragments

  pub one_next : (f : ℕ) → c.next f ≡ d.next f
  one_next f = elim (cases_lt f c.fragments) [
    | inl l ↦
        let count = one_count in
        let e = x.next f l in
        let q = y.next f (omega arith) in
        let r : slice_index (fronts_of xs) f ≡ slice_index (fronts_of ys) f = ap (λ (l : List Piece). slice_index (fronts_of l) f) one_tiling in
        omega arith
    | inr past ↦ (x.beyond f past).0 ∙ sym (y.beyond f (let count = one_count in omega arith)).0
  ]

  pub one_limit : (f : ℕ) → c.limit f ≡ d.limit f
  one_limit f = elim (cases_lt f c.fragments) [
    | inl l ↦
        let count = one_count in
        let e = x.limit f l in
        let q = y.limit f (omega arith) in
        let r : slice_index (ends_of xs) f ≡ slice_index (ends_of ys) f = ap (λ (l : List Piece). slice_index (ends_of l) f) one_tiling in
        omega arith
    | inr past ↦ (x.beyond f past).1 ∙ sym (y.beyond f (let count = one_count in omega arith)).1
  ]
