-- One stretch between two objects, and the pieces that stand for the gaps below a word.
use Rattle.std.proofs.Common.{◌≡◌, ℕ, ◌+◌, ◌-◌, ◌*◌, ◌<◌, ◌≤◌, ◌⊎◌, List, [], ◌∷◌, ◌++◌, length, get_or, map, arith, inl, inr, sym, subst, ap, ◌∙◌}
use Rattle.std.specs.List.{Contains}
use Rattle.std.specs.List.Sorted.{IsStrictlyIncreasing}
use Rattle.std.proofs.lemmas.Bool.{cases_eq, cases_lt}
use Rattle.std.proofs.lemmas.List.{get_or-map, length-map, map_push}
use Rattle.std.proofs.lemmas.List.Elements.{Contains-get_or, Contains-append_left, Contains-push, Contains-push_cases}
use Rattle.sg_words.specs.declared.pieces.Piece.{Piece}
use Rattle.sg_words.specs.declared.pieces.Piece.TheVariants.{Frag, Waste}
use Rattle.sg_words.specs.declared.layout.Layout.{Layout}
use Rattle.sg_space.specs.declared.objects.Object.{Object}
use Rattle.sg_words.specs.Sections.{nursery_base, old_base}
use Rattle.sg_words.specs.Pieces.{IsPieceOf, place}
use Rattle.sg_nursery.specs.Pieces.{IsTaken, IsGap, ArePieces, IsGrown}
use Rattle.sg_words.proofs.Sorted.{increasing_push}

-- words from f up to g, without g, that no object has, between objects or edges
pub record IsStretch (layout : Layout) (standing : List Object) (f g : ℕ) : Type 0 where
  pub low : nursery_base ≤ f
  pub order : f ≤ g
  pub high : g ≤ old_base layout
  pub free : (y : ℕ) → f ≤ y → y < g → IsTaken standing y → ⊥
  pub before : (f ≡ nursery_base) ⊎ ((y : ℕ) × (y + 1 ≡ f) × IsTaken standing y)
  pub behind : (g ≡ old_base layout) ⊎ IsTaken standing g

-- the pieces stand for exactly the gaps that begin below word f, in increasing order
pub record AreBelow (layout : Layout) (standing : List Object) (f : ℕ) (pieces : List Piece) : Type 0 where
  pub in_order : IsStrictlyIncreasing (map place pieces)
  pub below : (p : Piece) → Contains pieces p → place p < 8 * f
  pub each : (p : Piece) → Contains pieces p → (x n : ℕ) × IsPieceOf p x n × IsGap layout standing x n
  pub all : (x n : ℕ) → IsGap layout standing x n → x < f → (p : Piece) × IsPieceOf p x n × Contains pieces p

begins_there : (layout : Layout) (standing : List Object) (f g x n : ℕ) → IsStretch layout standing f g → IsGap layout standing x n → f ≤ x → x < g → x ≡ f
begins_there layout standing f g x n s gap l m =
    let low = s.low in
    elim gap.before [
      | inl e ↦ omega arith
      | inr w ↦
          let next = w.1 in
          elim (cases_lt w.0 f) [
            | inl under ↦ omega arith
            | inr over ↦ absurd (s.free w.0 over (omega arith) w.2)
          ]
    ]

ends_there : (layout : Layout) (standing : List Object) (f g x n : ℕ) → IsStretch layout standing f g → IsGap layout standing x n → f ≤ x → x < g → x + n ≡ g
ends_there layout standing f g x n s gap l m =
    let high = s.high in
    let within = gap.within in
    elim (cases_lt (x + n) g) [
      | inl short ↦ elim gap.behind [
        | inl e ↦ absurd (omega arith)
        | inr taken ↦ absurd (s.free (x + n) (omega arith) short taken)
      ]
      | inr long ↦ elim s.behind [
        | inl e ↦ omega arith
        | inr taken ↦ elim (cases_eq (x + n) g) [
          | inl e ↦ e
          | inr d ↦ absurd (gap.free g (omega arith) (omega arith) taken)
        ]
      ]
    ]

some_piece : Piece
some_piece = Waste 0 0

-- an address in the list of places is a piece's
placed : (pieces : List Piece) (a : ℕ) → Contains (map place pieces) a → (p : Piece) × Contains pieces p × (place p ≡ a)
placed pieces a w =
    let lengths = length-map pieces place in
    let within = w.1 in
    let k : w.0 < length pieces = omega arith in
    (get_or pieces w.0 some_piece, Contains-get_or pieces w.0 some_piece k, sym (get_or-map place pieces w.0 some_piece a k) ∙ w.2)

pub place_is : (p : Piece) (x n : ℕ) → IsPieceOf p x n → place p ≡ 8 * x
place_is (Frag at words) x n h = h.1
place_is (Waste at words) x n h = h.1

grown_none : (layout : Layout) (standing : List Object) (f g h : ℕ) (pieces : List Piece) → AreBelow layout standing f pieces → IsStretch layout standing f g → f ≡ g → g ≤ h → ((y : ℕ) → g ≤ y → y < h → IsTaken standing y) → AreBelow layout standing h pieces
grown_none layout standing f g h pieces b s e l taken = record {
  in_order = b.in_order;
  below = λ p w. let under = b.below p w in omega arith;
  each = b.each;
  all = λ x n gap m. elim (cases_lt x f) [
    | inl under ↦ b.all x n gap under
    | inr over ↦ let some = gap.some in absurd (gap.free x (omega arith) (omega arith) (taken x (omega arith) m))
  ];
}

stretch_gap : (layout : Layout) (standing : List Object) (f g : ℕ) → IsStretch layout standing f g → f < g → IsGap layout standing f (g - f)
stretch_gap layout standing f g s m =
    let high = s.high in
    let end : f + (g - f) ≡ g = omega arith in
    record {
      some = omega arith;
      from = s.low;
      within = omega arith;
      free = λ y a b. s.free y a (omega arith);
      before = s.before;
      behind = rw end s.behind;
    }

grown_one : (layout : Layout) (standing : List Object) (f g h : ℕ) (pieces : List Piece) (p : Piece) → AreBelow layout standing f pieces → IsStretch layout standing f g → f < g → IsPieceOf p f (g - f) → g ≤ h → ((y : ℕ) → g ≤ y → y < h → IsTaken standing y) → AreBelow layout standing h (pieces ++ p ∷ [])
grown_one layout standing f g h pieces p b s m is l taken =
    let at = place_is p f (g - f) is in
    record {
      in_order = rw (map_push place pieces p) (increasing_push (map place pieces) (place p) b.in_order (λ a w. let q = placed pieces a w in let under = b.below q.0 q.1 in let same = q.2 in omega arith));
      below = λ q w. elim (Contains-push_cases pieces p q w) [
        | inl old ↦ let under = b.below q old in omega arith
        | inr new ↦ let same = ap place new in omega arith
      ];
      each = λ q w. elim (Contains-push_cases pieces p q w) [
        | inl old ↦ b.each q old
        | inr new ↦ (f, g - f, subst (λ (r : Piece). IsPieceOf r f (g - f)) new is, stretch_gap layout standing f g s m)
      ];
      all = λ x n gap k. elim (cases_lt x f) [
        | inl under ↦ let q = b.all x n gap under in (q.0, q.1, Contains-append_left pieces (p ∷ []) q.0 q.2)
        | inr over ↦ elim (cases_lt x g) [
          | inl inside ↦
              let first : x ≡ f = begins_there layout standing f g x n s gap over inside in
              let last = ends_there layout standing f g x n s gap over inside in
              let size : n ≡ g - f = omega arith in
              (p, rw (first, size) is, Contains-push pieces p)
          | inr past ↦ let some = gap.some in absurd (gap.free x (omega arith) (omega arith) (taken x past k))
        ]
      ];
    }

-- the stretch's piece is added, and the words from g up to h are objects'
pub grown : (layout : Layout) (standing : List Object) (f g h : ℕ) (pieces after : List Piece) → AreBelow layout standing f pieces → IsStretch layout standing f g → IsGrown pieces f (g - f) after → g ≤ h → ((y : ℕ) → g ≤ y → y < h → IsTaken standing y) → AreBelow layout standing h after
grown layout standing f g h pieces after b s grows l taken =
    let order = s.order in
    elim grows [
      | inl w ↦ let none = w.0 in subst (AreBelow layout standing h) (sym w.1) (grown_none layout standing f g h pieces b s (omega arith) l taken)
      | inr w ↦ let some = w.0 in subst (AreBelow layout standing h) (sym w.1.2) (grown_one layout standing f g h pieces w.1.0 b s (omega arith) w.1.1 l taken)
    ]

pub below_none : (layout : Layout) (standing : List Object) → AreBelow layout standing nursery_base []
below_none layout standing = record {
  in_order = λ k l. absurd (omega arith);
  below = λ p w. let l = w.1 in absurd (omega arith);
  each = λ p w. let l = w.1 in absurd (omega arith);
  all = λ x n gap l. let from = gap.from in absurd (omega arith);
}

pub below_all : (layout : Layout) (standing : List Object) (pieces : List Piece) → AreBelow layout standing (old_base layout) pieces → ArePieces layout standing pieces
below_all layout standing pieces b = record {
  in_order = b.in_order;
  each = b.each;
  all = λ x n gap. let some = gap.some in let within = gap.within in b.all x n gap (omega arith);
}
