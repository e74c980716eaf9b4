-- Marks that go again.
use Rattle.std.proofs.Common.{◌≡◌, ◌≢◌, ℕ, ◌-◌, ◌*◌, ◌^◌, ◌<◌, ◌⊎◌, inl, inr, Bool, true, false, Option, Some, List, length, slice_index, slice_set, sym, ap, ◌∙◌, subst, arith}
use Rattle.std.proofs.lemmas.Bool.{cases_eq, cases_lt, cases_Bool, false≢true}
use Rattle.std.proofs.lemmas.List.{length-set, get_or-set_same, get_or-set_other, get_or_past}
use Rattle.std.proofs.lemmas.Nat.Bits.{bit_at-zero, same_from_bits}
use Rattle.std.specs.Int.{bit_at}
use Rattle.std.proofs.lemmas.Grind.{same_number_lists}
use Rattle.sg_words.proofs.Blocks.{class_bounds, slot_fits, bit_cases}
use Rattle.sg_space.specs.Space.{Contents, IsContents}
use Rattle.sg_space.specs.Standing.{word, marks_in, IsSoundBy}
use Rattle.sg_space.specs.Marks.{IsSlotFront, KeepsItself, Marks}
use Rattle.sg_mark.specs.Marking.{HasMarks}
use Rattle.sg_mark.proofs.Places.{not_both, inside, keeps_to}
use Rattle.sg_mark.proofs.Marked.{low_word, top_clear, top_set}

-- a slot's front is in one block
block_same : (t : Contents) (c z i d y j h : ℕ) → IsSlotFront t c z i h → IsSlotFront t d y j h → c ≡ d
block_same t c z i d y j h f g =
    let a = f.front in
    let b = g.front in
    let fits = slot_fits z i f.fits in
    let fits2 = slot_fits y j g.fits in
    let some = (class_bounds z f.class).0 in
    let some2 = (class_bounds y g.class).0 in
    omega arith

module _ (t : Contents) (owner : ℕ → Option ℕ) (now less : ℕ → Bool) (s : Contents) (marks : HasMarks t owner now s) (keeps : (x : ℕ) → less x ≡ true → now x ≡ true) where
  -- the top bit of a word goes
  module _ (contents : IsContents t) (sound : IsSoundBy t owner) (h : ℕ) (stands : owner h ≡ Some h) (itself : KeepsItself t.layout h)
      (drops : (x : ℕ) → now x ≡ true → (less x ≡ true) ⊎ (x ≡ h)) (here : less h ≡ false) where
    plain : word s h - bit_at (word s h) 63 * 2 ^ 63 ≡ word t h
    plain =
        let low = low_word t owner sound h stands in
        elim (cases_Bool (now h)) [
          | inl y ↦
              let w = marks.top h stands itself y in
              let b : bit_at (word s h) 63 ≡ 1 = ap (λ (m : ℕ). bit_at m 63) w ∙ top_set (word t h) low in
              omega arith
          | inr n ↦
              let w = marks.rest h (λ q. false≢true (sym n ∙ q.2)) in
              let b : bit_at (word s h) 63 ≡ 0 = ap (λ (m : ℕ). bit_at m 63) w ∙ top_clear (word t h) low in
              omega arith
        ]

    in_word : HasMarks t owner less (record s { words = slice_set s.words h (word s h - bit_at (word s h) 63 * 2 ^ 63) })
    in_word =
        let v = word s h - bit_at (word s h) 63 * 2 ^ 63 in
        let end = (inside t owner sound h stands).1 in
        let many = contents.words in
        let long = marks.words_length in
        let there : h < length s.words = omega arith in
        record {
          same = ap (λ (x : Contents). record x { words = slice_set s.words h v }) marks.same;
          words_length = length-set s.words h v ∙ marks.words_length;
          marks_length = marks.marks_length;
          top = λ x o l y.
              let n : x ≢ h = λ e. false≢true (sym here ∙ ap less (sym e) ∙ y) in
              get_or-set_other s.words h x v 0 n ∙ marks.top x o l (keeps x y);
          rest = λ x out. elim (cases_eq x h) [
            | inl e ↦ ap (slice_index (slice_set s.words h v)) e ∙ get_or-set_same s.words h v 0 there ∙ plain ∙ ap (word t) (sym e)
            | inr n ↦ get_or-set_other s.words h x v 0 n ∙ marks.rest x (λ q. elim (drops x q.2) [ inl y ↦ out (q.0, q.1, y) | inr e ↦ n e ])
          ];
          set = λ x c z i o f y. marks.set x c z i o f (keeps x y);
          only = λ c i b.
              let q = marks.only c i b in (
                q.0,
                q.1,
                q.2,
                q.3,
                elim (drops q.0 q.4) [
                  | inl y ↦ y
                  | inr e ↦ absurd (not_both t c q.1 i q.0 q.3 (subst (KeepsItself t.layout) (sym e) itself))
                ],
              );
        }

    pub without_word : (new : Contents) → Marks s h false new → HasMarks t owner less new
    without_word new m = subst (HasMarks t owner less) (sym (m.by_word (keeps_to t owner now s marks h itself))) in_word

  -- the marks of a block go
  module _ (c : ℕ) (drops : (x : ℕ) → now x ≡ true → (less x ≡ true) ⊎ ((z : ℕ) × (i : ℕ) × IsSlotFront t c z i x)) (none : (x z i : ℕ) → IsSlotFront t c z i x → less x ≡ false) where
    zero_marks : marks_in (record s { marks = slice_set s.marks c 0 }) c ≡ 0
    zero_marks = elim (cases_lt c (length s.marks)) [
      | inl l ↦ get_or-set_same s.marks c 0 0 l
      | inr l ↦ let long = length-set s.marks c 0 in get_or_past (slice_set s.marks c 0) c 0 (omega arith)
    ]

    pub without_block : HasMarks t owner less (record s { marks = slice_set s.marks c 0 })
    without_block = record {
      same = ap (λ (x : Contents). record x { marks = slice_set s.marks c 0 }) marks.same;
      words_length = marks.words_length;
      marks_length = length-set s.marks c 0 ∙ marks.marks_length;
      top = λ x o l y. marks.top x o l (keeps x y);
      rest = λ x out. marks.rest x (λ q. elim (drops x q.2) [ inl y ↦ out (q.0, q.1, y) | inr f ↦ not_both t c f.0 f.1 x f.2 q.1 ]);
      set = λ x d z i o f y.
          let n : d ≢ c = λ e. false≢true (sym (none x z i (subst (λ (b : ℕ). IsSlotFront t b z i x) e f)) ∙ y) in
          ap (λ (m : ℕ). bit_at m i) (get_or-set_other s.marks c d 0 0 n) ∙ marks.set x d z i o f (keeps x y);
      only = λ d i b. elim (cases_eq d c) [
        | inl e ↦
            let z = bit_at-zero i in
            let is : bit_at (marks_in (record s { marks = slice_set s.marks c 0 }) d) i ≡ bit_at 0 i =
            ap (λ (m : ℕ). bit_at (marks_in (record s { marks = slice_set s.marks c 0 }) m) i) e ∙ ap (λ (m : ℕ). bit_at m i) zero_marks in
            absurd (omega arith)
        | inr n ↦
            let q = marks.only d i (sym (ap (λ (m : ℕ). bit_at m i) (get_or-set_other s.marks c d 0 0 n)) ∙ b) in (
              q.0,
              q.1,
              q.2,
              q.3,
              elim (drops q.0 q.4) [
                | inl y ↦ y
                | inr f ↦ absurd (n (block_same t d q.1 i c f.0 f.1 q.0 q.3 f.2))
              ],
            )
      ];
    }

-- a space with no mark
module _ (t : Contents) (owner : ℕ → Option ℕ) (now : ℕ → Bool) (s : Contents) (unmarked : (c : ℕ) → marks_in t c ≡ 0) (marks : HasMarks t owner now s) (none : (h : ℕ) → now h ≡ false) where
  bits : (c i : ℕ) → bit_at (marks_in s c) i ≡ bit_at (marks_in t c) i
  bits c i =
      let z = bit_at-zero i in
      let clear : bit_at (marks_in t c) i ≡ 0 = ap (λ (m : ℕ). bit_at m i) (unmarked c) ∙ z in
      elim (bit_cases (marks_in s c) i) [
        | inl b ↦ absurd (let q = marks.only c i b in false≢true (sym (none q.0) ∙ q.4))
        | inr b ↦ b ∙ sym clear
      ]

  pub is_bare : s ≡ t
  is_bare =
      marks.same ∙
      ap (λ (xs : List ℕ). record t { words = xs; marks = s.marks })
      (same_number_lists s.words t.words marks.words_length (λ x l. marks.rest x (λ q. false≢true (sym (none x) ∙ q.2)))) ∙
      ap (λ (xs : List ℕ). record t { words = t.words; marks = xs })
      (same_number_lists s.marks t.marks marks.marks_length (λ c l. same_from_bits (marks_in s c) (marks_in t c) (bits c)))
