-- Which objects are marked, and one more.
use Rattle.std.proofs.Common.{◌≡◌, ◌≢◌, ℕ, ◌+◌, ◌*◌, ◌^◌, ◌<◌, ◌⊎◌, inl, inr, Bool, true, false, Option, Some, length, slice_index, slice_set, sym, ap, ◌∙◌, subst, le_refl, arith}
use Rattle.std.proofs.lemmas.Bool.{cases_eq, cases_Bool, false≢true}
use Rattle.std.proofs.lemmas.List.{length-set, get_or-set_same, get_or-set_other}
use Rattle.std.proofs.lemmas.Option.{slice_get_within}
use Rattle.std.proofs.lemmas.Nat.Bits.{bit_at_above, and_pow}
use Rattle.std.specs.Int.{bit_at}
use Rattle.std.specs.Int.Bits.{bit_or, bit_and, or_add_and}
use Rattle.sg_words.specs.Blocks.{slot_base, IsOf}
use Rattle.sg_words.specs.declared.steps.BlockWord.{BlockWord}
use Rattle.sg_words.specs.declared.steps.BlockWord.TheVariants.{Free, Swept, Need, Sweeping}
use Rattle.sg_words.proofs.Blocks.{bit_set, bit_same, bit_kept}
use Rattle.sg_space.specs.Space.{Contents, IsContents}
use Rattle.sg_space.specs.Standing.{word, block_in, marks_in, IsSoundBy}
use Rattle.sg_space.specs.Marks.{IsSlotFront, KeepsItself, IsMarked, ByWord, BySlot, Marks}
use Rattle.sg_mark.specs.Marking.{HasMarks}
use Rattle.sg_mark.proofs.Places.{not_both, place_of, inside, front_to, front_from, keeps_to}

-- a plain word's top bit isn't set, and with it set the word is 2^63 more
pub top_clear : (n : ℕ) → n < 2 ^ 63 → bit_at n 63 ≡ 0
top_clear n l = bit_at_above n 63 63 l (le_refl 63)

or_top : (n : ℕ) → n < 2 ^ 63 → bit_or n (2 ^ 63) ≡ n + 2 ^ 63
or_top n l =
    let e = or_add_and n (2 ^ 63) in
    let f : bit_and n (2 ^ 63) ≡ 0 = and_pow n 63 ∙ ap (λ b. b * 2 ^ 63) (top_clear n l) in
    omega arith

pub top_set : (n : ℕ) → n < 2 ^ 63 → bit_at (n + 2 ^ 63) 63 ≡ 1
top_set n l = subst (λ (m : ℕ). bit_at m 63 ≡ 1) (or_top n l) (bit_set n 63)

-- a block has slots of one size
of_once : (state : BlockWord) (y z : ℕ) → IsOf state y → IsOf state z → y ≡ z
of_once Free y z a b = elim a [ ]
of_once (Swept size) y z a b = sym a ∙ b
of_once (Need size) y z a b = sym a ∙ b
of_once (Sweeping size) y z a b = sym a ∙ b

module _ (t : Contents) (owner : ℕ → Option ℕ) (sound : IsSoundBy t owner) (h : ℕ) (stands : owner h ≡ Some h) where
  -- an object's first word in the space without marks is a plain tag
  pub low_word : word t h < 2 ^ 63
  low_word =
      let o = sound.objects h stands in
      let tag = o.tag in
      let class = slice_get_within t.shapes o.class o.shape o.shape_is in
      let few = sound.classes in
      omega arith

  module _ (now : ℕ → Bool) (s : Contents) (marks : HasMarks t owner now s) where
    -- the mark tells of an object whether it is one of those
    pub is_now : IsMarked s h → now h ≡ true
    is_now (ByWord k e) = elim (cases_Bool (now h)) [
      | inl y ↦ y
      | inr n ↦
          let same : word s h ≡ word t h = marks.rest h (λ q. false≢true (sym n ∙ q.2)) in
          let clear : bit_at (word s h) 63 ≡ 0 = ap (λ (m : ℕ). bit_at m 63) same ∙ top_clear (word t h) low_word in
          absurd (omega arith)
    ]
    is_now (BySlot c z i f e) =
        let q = marks.only c i e in
        let g = front_from t owner now s marks c z i h f in
        let o = q.3 in
        let size : z ≡ q.1 = of_once (block_in t c) z q.1 g.sized o.sized in
        let same : q.0 ≡ h = o.front ∙ ap (λ (n : ℕ). slot_base t.layout c n i) (sym size) ∙ sym g.front in
        subst (λ (n : ℕ). now n ≡ true) same q.4

    pub now_is : now h ≡ true → IsMarked s h
    now_is y = elim (place_of t owner sound h stands) [
      | inl k ↦ ByWord (keeps_to t owner now s marks h k) (ap (λ (m : ℕ). bit_at m 63) (marks.top h stands k y) ∙ top_set (word t h) low_word)
      | inr q ↦ BySlot q.0 q.1 q.2 (front_to t owner now s marks q.0 q.1 q.2 h q.3) (marks.set h q.0 q.1 q.2 stands q.3 y)
    ]

    module _ (contents : IsContents t) (off : now h ≡ false) (more : ℕ → Bool) (keeps : (x : ℕ) → now x ≡ true → more x ≡ true)
        (adds : (x : ℕ) → more x ≡ true → (now x ≡ true) ⊎ (x ≡ h)) (here : more h ≡ true) where
      same_word : word s h ≡ word t h
      same_word = marks.rest h (λ q. false≢true (sym off ∙ q.2))

      in_word : KeepsItself t.layout h → HasMarks t owner more (record s { words = slice_set s.words h (bit_or (word s h) (2 ^ 63)) })
      in_word k =
          let v = bit_or (word s h) (2 ^ 63) in
          let low = low_word in
          let is : v ≡ word t h + 2 ^ 63 = ap (λ (n : ℕ). bit_or n (2 ^ 63)) same_word ∙ or_top (word t h) low_word in
          let lies = inside t owner sound h stands in
          let end = lies.1 in
          let many = contents.words in
          let long = marks.words_length in
          let there : h < length s.words = omega arith in
          record {
            same = ap (λ (x : Contents). record x { words = slice_set s.words h v }) marks.same;
            words_length = length-set s.words h v ∙ marks.words_length;
            marks_length = marks.marks_length;
            top = λ x o l y. elim (cases_eq x h) [
              | inl e ↦ ap (slice_index (slice_set s.words h v)) e ∙ get_or-set_same s.words h v 0 there ∙ is ∙ ap (λ (n : ℕ). word t n + 2 ^ 63) (sym e)
              | inr n ↦ get_or-set_other s.words h x v 0 n ∙ marks.top x o l (elim (adds x y) [ inl a ↦ a | inr e ↦ absurd (n e) ])
            ];
            rest = λ x no.
                let n : x ≢ h = λ e. no (subst (λ (m : ℕ). owner m ≡ Some m) (sym e) stands, subst (KeepsItself t.layout) (sym e) k, ap more e ∙ here) in
                get_or-set_other s.words h x v 0 n ∙ marks.rest x (λ q. no (q.0, q.1, keeps x q.2));
            set = λ x c z i o f y. elim (adds x y) [
              | inl a ↦ marks.set x c z i o f a
              | inr e ↦ absurd (not_both t c z i h (subst (IsSlotFront t c z i) e f) k)
            ];
            only = λ c i e. let q = marks.only c i e in (q.0, q.1, q.2, q.3, keeps q.0 q.4);
          }

      in_slot : (c z i : ℕ) → IsSlotFront t c z i h →
          ((d y j : ℕ) → IsSlotFront t d y j h → record s { marks = slice_set s.marks c (bit_or (marks_in s c) (2 ^ i)) } ≡ record s { marks = slice_set s.marks d (bit_or (marks_in s d) (2 ^ j)) }) →
          HasMarks t owner more (record s { marks = slice_set s.marks c (bit_or (marks_in s c) (2 ^ i)) })
      in_slot c z i f once =
          let v = bit_or (marks_in s c) (2 ^ i) in
          let new : Contents = record s { marks = slice_set s.marks c v } in
          let many = contents.marks in
          let long = marks.marks_length in
          let below : (d y j x : ℕ) → IsSlotFront t d y j x → d < length s.marks = λ d y j x g. let there = g.there in omega arith in
          record {
            same = ap (λ (x : Contents). record x { marks = slice_set s.marks c v }) marks.same;
            words_length = marks.words_length;
            marks_length = length-set s.marks c v ∙ marks.marks_length;
            top = λ x o l y. elim (adds x y) [
              | inl a ↦ marks.top x o l a
              | inr e ↦ absurd (not_both t c z i h f (subst (KeepsItself t.layout) e l))
            ];
            rest = λ x no. marks.rest x (λ q. no (q.0, q.1, keeps x q.2));
            set = λ x d y j o g q. elim (adds x q) [
              | inl a ↦
                  let old : bit_at (marks_in s d) j ≡ 1 = marks.set x d y j o g a in
                  elim (cases_eq d c) [
                    | inl e ↦
                        let is : marks_in new d ≡ v = ap (slice_index (slice_set s.marks c v)) e ∙ get_or-set_same s.marks c v 0 (below c z i h f) in
                        ap (λ (m : ℕ). bit_at m j) is ∙ bit_kept (marks_in s c) i j (ap (λ (b : ℕ). bit_at (marks_in s b) j) (sym e) ∙ old)
                    | inr n ↦ ap (λ (m : ℕ). bit_at m j) (get_or-set_other s.marks c d v 0 n) ∙ old
                  ]
              | inr e ↦
                  let g2 : IsSlotFront t d y j h = subst (IsSlotFront t d y j) e g in
                  ap (λ (x : Contents). bit_at (marks_in x d) j) (once d y j g2) ∙
                  ap (λ (m : ℕ). bit_at m j) (get_or-set_same s.marks d (bit_or (marks_in s d) (2 ^ j)) 0 (below d y j h g2)) ∙ bit_set (marks_in s d) j
            ];
            only = λ d j b.
                let old : bit_at (marks_in s d) j ≡ 1 → (x : ℕ) × (y : ℕ) × (owner x ≡ Some x) × IsSlotFront t d y j x × (more x ≡ true) = λ e. let q = marks.only d j e in (q.0, q.1, q.2, q.3, keeps q.0 q.4) in
                elim (cases_eq d c) [
                  | inl e ↦
                      let is : marks_in new d ≡ v = ap (slice_index (slice_set s.marks c v)) e ∙ get_or-set_same s.marks c v 0 (below c z i h f) in
                      elim (cases_eq j i) [
                        | inl ej ↦ (h, z, stands, subst (λ (m : ℕ). IsSlotFront t m z j h) (sym e) (subst (λ (m : ℕ). IsSlotFront t c z m h) (sym ej) f), here)
                        | inr nj ↦ old (ap (λ (b : ℕ). bit_at (marks_in s b) j) e ∙ sym (bit_same (marks_in s c) i j nj) ∙ sym (ap (λ (m : ℕ). bit_at m j) is) ∙ b)
                      ]
                  | inr n ↦ old (sym (ap (λ (m : ℕ). bit_at m j) (get_or-set_other s.marks c d v 0 n)) ∙ b)
                ];
          }

      -- once it is marked they are those and this one
      pub marks_more : (new : Contents) → Marks s h true new → HasMarks t owner more new
      marks_more new m = elim (place_of t owner sound h stands) [
        | inl k ↦ subst (HasMarks t owner more) (sym (m.by_word (keeps_to t owner now s marks h k))) (in_word k)
        | inr q ↦
            let is = λ (d y j : ℕ) (g : IsSlotFront t d y j h). m.by_slot d y j (front_to t owner now s marks d y j h g) in
            subst (HasMarks t owner more) (sym (is q.0 q.1 q.2 q.3)) (in_slot q.0 q.1 q.2 q.3 (λ d y j g. sym (is q.0 q.1 q.2 q.3) ∙ is d y j g))
      ]

-- what is marked by one test is marked by one that tells the same
pub marks_as : (t : Contents) (owner : ℕ → Option ℕ) (now more : ℕ → Bool) (s : Contents) → ((x : ℕ) → now x ≡ more x) → HasMarks t owner now s → HasMarks t owner more s
marks_as t owner now more s is marks = record {
  same = marks.same;
  words_length = marks.words_length;
  marks_length = marks.marks_length;
  top = λ h o k y. marks.top h o k (is h ∙ y);
  rest = λ x no. marks.rest x (λ q. no (q.0, q.1, sym (is x) ∙ q.2));
  set = λ h c z i o f y. marks.set h c z i o f (is h ∙ y);
  only = λ c i e. let q = marks.only c i e in (q.0, q.1, q.2, q.3, sym (is q.0) ∙ q.4);
}
