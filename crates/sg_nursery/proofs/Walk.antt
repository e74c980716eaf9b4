-- The walk over the objects, from the nursery's front to its end.
use Rattle.std.proofs.Common.{◌≡◌, ℕ, ◌+◌, ◌-◌, ◌<◌, ◌≤◌, ◌⊎◌, List, [], length, get_or, arith, inl, inr, sym, subst, refl, ap, ◌∙◌}
use Rattle.std.specs.List.{Contains}
use Rattle.std.proofs.lemmas.Bool.{cases_eq, cases_lt}
use Rattle.std.proofs.lemmas.List.{get_or_default}
use Rattle.std.proofs.lemmas.List.Elements.{Contains-get_or}
use Rattle.sg_words.specs.declared.pieces.Piece.{Piece}
use Rattle.sg_words.specs.declared.layout.Layout.{Layout}
use Rattle.sg_space.specs.declared.objects.Object.{Object}
use Rattle.sg_words.specs.Sections.{nursery_base, old_base}
use Rattle.sg_nursery.specs.Pieces.{AreStanding, IsTaken, IsGrown, ArePieces, first_word, word_behind}
use Rattle.sg_nursery.proofs.Gaps.{IsStretch, AreBelow, grown, below_none, below_all}

-- after i objects, with the word f behind them: the pieces stand for the gaps below f
pub record IsWalked (layout : Layout) (standing : List Object) (i f : ℕ) (pieces : List Piece) : Type 0 where
  pub low : nursery_base ≤ f
  pub high : f ≤ old_base layout
  pub before : (f ≡ nursery_base) ⊎ ((y : ℕ) × (y + 1 ≡ f) × IsTaken standing y)
  pub passed : (k : ℕ) (d : Object) → k < i → word_behind (get_or standing k d) ≤ f
  pub ahead : (k : ℕ) (d : Object) → i ≤ k → k < length standing → f ≤ first_word (get_or standing k d)
  pub built : AreBelow layout standing f pieces

pub walked_none : (layout : Layout) (standing : List Object) → AreStanding layout standing → IsWalked layout standing 0 nursery_base []
walked_none layout standing s = record {
  low = omega arith;
  high = omega arith;
  before = inl refl;
  passed = λ k d l. absurd (omega arith);
  ahead = λ k d l m. (s.each (get_or standing k d) (Contains-get_or standing k d m)).1;
  built = below_none layout standing;
}

-- the object at i, as the walk meets it
pub record IsMet (layout : Layout) (standing : List Object) (i : ℕ) (o : Object) : Type 0 where
  pub apart : AreStanding layout standing
  pub there : i < length standing
  pub is : o ≡ get_or standing i o

met_in : (layout : Layout) (standing : List Object) (i : ℕ) (o : Object) → IsMet layout standing i o → Contains standing o
met_in layout standing i o m = (i, m.there, sym m.is)

pub front_within : (layout : Layout) (standing : List Object) (i f : ℕ) (pieces : List Piece) (o : Object) → IsWalked layout standing i f pieces → IsMet layout standing i o → (f ≤ first_word o) × (word_behind o ≤ old_base layout)
front_within layout standing i f pieces o w m =
    let ahead = w.ahead i o (omega arith) m.there in
    let same = ap first_word m.is in
    (omega arith, (m.apart.each o (met_in layout standing i o m)).2)

free_before : (layout : Layout) (standing : List Object) (i f : ℕ) (pieces : List Piece) (o : Object) → IsWalked layout standing i f pieces → IsMet layout standing i o → (y : ℕ) → f ≤ y → y < first_word o → IsTaken standing y → ⊥
free_before layout standing i f pieces o w m y l u taken =
    let q = taken.0 in
    let k = taken.1.0 in
    let there = taken.1.1 in
    let is = taken.1.2 in
    let from = taken.2 in
    let to = taken.3 in
    let first = ap first_word is in
    let behind = ap word_behind is in
    let here = ap first_word m.is in
    elim (cases_lt k i) [
      | inl earlier ↦ let passed = w.passed k q earlier in omega arith
      | inr later ↦ elim (cases_eq k i) [
        | inl e ↦
            let same = ap first_word (get_or_default standing i o q m.there) in
            let moved = ap (λ j. first_word (get_or standing j q)) e in
            omega arith
        | inr d ↦
            let apart = m.apart.apart i k q (omega arith) there in
            let same = ap first_word (get_or_default standing i o q m.there) in
            omega arith
      ]
    ]

pub walked_more : (layout : Layout) (standing : List Object) (i f : ℕ) (pieces after : List Piece) (o : Object) → IsWalked layout standing i f pieces → IsMet layout standing i o → IsGrown pieces f (first_word o - f) after → IsWalked layout standing (i + 1) (word_behind o) after
walked_more layout standing i f pieces after o w m grows =
    let mine = met_in layout standing i o m in
    let lies = m.apart.each o mine in
    let some = lies.0 in
    let high = lies.2 in
    let low = w.low in
    let order = (front_within layout standing i f pieces o w m).0 in
    let stretch : IsStretch layout standing f (first_word o) = record {
      low = w.low;
      order = order;
      high = omega arith;
      free = free_before layout standing i f pieces o w m;
      before = w.before;
      behind = inr (o, mine, omega arith, omega arith);
    } in
    record {
      low = omega arith;
      high = high;
      before = inr (word_behind o - 1, omega arith, (o, mine, omega arith, omega arith));
      passed = λ k d l. elim (cases_eq k i) [
        | inl e ↦
            let same = ap word_behind (get_or_default standing i d o m.there ∙ sym m.is) in
            let moved = ap (λ j. word_behind (get_or standing j d)) e in
            omega arith
        | inr n ↦ let passed = w.passed k d (omega arith) in omega arith
      ];
      ahead = λ k d l u.
          let apart = m.apart.apart i k d (omega arith) u in
          let same = ap word_behind (get_or_default standing i d o m.there ∙ sym m.is) in
          omega arith;
      built = grown layout standing f (first_word o) (word_behind o) pieces after w.built stretch grows (omega arith) (λ y a b. (o, mine, a, b));
    }

pub walked_all : (layout : Layout) (standing : List Object) (i f : ℕ) (pieces after : List Piece) → length standing ≤ i → IsWalked layout standing i f pieces → IsGrown pieces f (old_base layout - f) after → ArePieces layout standing after
walked_all layout standing i f pieces after l w grows =
    let stretch : IsStretch layout standing f (old_base layout) = record {
      low = w.low;
      order = w.high;
      high = omega arith;
      free = λ y a b taken.
          let there = taken.1.1 in
          let behind = ap word_behind taken.1.2 in
          let to = taken.3 in
          let passed = w.passed taken.1.0 taken.0 (omega arith) in
          omega arith;
      before = w.before;
      behind = inl refl;
    } in
    below_all layout standing after (grown layout standing f (old_base layout) (old_base layout) pieces after w.built stretch grows (omega arith) (λ y a b. absurd (omega arith)))

-- the same at equal numbers
pub regrown : (pieces after : List Piece) (x y n m : ℕ) → IsGrown pieces x n after → x ≡ y → n ≡ m → IsGrown pieces y m after
regrown pieces after x y n m grows first size = rw (← first, ← size) grows

pub walked_to : (layout : Layout) (standing : List Object) (i f g : ℕ) (pieces : List Piece) → IsWalked layout standing i f pieces → f ≡ g → IsWalked layout standing i g pieces
walked_to layout standing i f g pieces w e = subst (λ h. IsWalked layout standing i h pieces) e w
