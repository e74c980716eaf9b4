-- Two objects of two fields each, at the front of a nursery that is otherwise free.
use Rattle.std.proofs.Common.{◌≡◌, ℕ, zero, suc, ◌+◌, ◌<◌, ◌≤◌, inr, List, Some, None, refl, sym, ap, ◌∙◌, subst, arith, slice_get, slice_index, slice_set}
use Rattle.sg_words.specs.Address.{word_at}
use Rattle.sg_desc.specs.declared.shapes.Shape.{Shape}
use Rattle.sg_words.specs.declared.layout.Layout.{Layout}
use Rattle.sg_words.specs.Sections.{IsLayout}
use Rattle.sg_space.specs.Space.{Contents, AreShapes, clear_space}
use Rattle.sg_space.specs.Standing.{IsSoundBy, IsSound}
use Rattle.sg_space.proofs.Fresh.{clear_is_sound}
use Rattle.sg_space.proofs.Placed.{advanced, advanced_is_sound, placed, owner_with, TakesRoom, outside_is, placed_is_sound}

abbrev put : Contents → ℕ → ℕ → Contents
put s x v = record s { words = slice_set s.words x v }

module _ (layout : Layout) (shapes : List Shape) (is_layout : IsLayout layout) (are_shapes : AreShapes shapes) (shape : Shape)
    (first : slice_get shapes 0 ≡ Some shape) (two : shape.fields ≡ 2) where
  free : IsSoundBy (advanced (clear_space layout shapes) 0 4160) (λ x. None)
  free = let nursery = is_layout.nursery_least in
      advanced_is_sound (clear_space layout shapes) (λ x. None) (clear_is_sound layout shapes is_layout are_shapes) 0 4160 (omega arith) (omega arith) (omega arith) refl

  behind : (f : ℕ) → f < 1 → (h : ℕ) → h ≤ 520 → h ≤ word_at (slice_index (advanced (clear_space layout shapes) 0 4160).next f)
  behind zero below h most = omega arith
  behind (suc f) below h most = absurd (omega arith)

  room_first : TakesRoom (advanced (clear_space layout shapes) 0 4160) (λ x. None) 512 (shape.fields + 2)
  room_first = let nursery = is_layout.nursery_least in record {
    small = omega arith;
    above = omega arith;
    below = omega arith;
    unowned = λ x from to. refl;
    taken = λ f below. inr (behind f below (512 + (shape.fields + 2)) (omega arith));
  }

  one : IsSoundBy (placed (advanced (clear_space layout shapes) 0 4160) 512 0 shape.fields) (owner_with (λ x. None) 512 (shape.fields + 2))
  one = placed_is_sound (advanced (clear_space layout shapes) 0 4160) (λ x. None) free 512 0 shape first room_first

  room_second : TakesRoom (placed (advanced (clear_space layout shapes) 0 4160) 512 0 shape.fields) (owner_with (λ x. None) 512 (shape.fields + 2)) 516 (shape.fields + 2)
  room_second = let nursery = is_layout.nursery_least in record {
    small = omega arith;
    above = omega arith;
    below = omega arith;
    unowned = λ x from to. outside_is (advanced (clear_space layout shapes) 0 4160) (λ x. None) free 512 0 shape first room_first x (inr (omega arith));
    taken = λ f below. inr (behind f below (516 + (shape.fields + 2)) (omega arith));
  }

  pair : IsSoundBy (placed (placed (advanced (clear_space layout shapes) 0 4160) 512 0 shape.fields) 516 0 shape.fields) (owner_with (owner_with (λ x. None) 512 (shape.fields + 2)) 516 (shape.fields + 2))
  pair = placed_is_sound (placed (advanced (clear_space layout shapes) 0 4160) 512 0 shape.fields) (owner_with (λ x. None) 512 (shape.fields + 2)) one 516 0 shape first room_second

  pair_of_two : IsSound (put (put (put (put (advanced (clear_space layout shapes) 0 4160) 513 2) 512 8) 517 2) 516 8)
  pair_of_two = subst (λ n. IsSound (placed (placed (advanced (clear_space layout shapes) 0 4160) 512 0 n) 516 0 n)) two (_, pair)

  pub pair_is_sound : (s0 s1 s2 s3 s4 s5 : Contents) (a b a1 b1 : ℕ) → word_at a ≡ 512 → word_at b ≡ 516 → word_at a1 ≡ 513 → word_at b1 ≡ 517 →
      s0 ≡ clear_space layout shapes → s1 ≡ advanced s0 0 4160 → s2 ≡ record s1 { words = slice_set s1.words (word_at a1) 2 } → s3 ≡ record s2 { words = slice_set s2.words (word_at a) 8 } →
      s4 ≡ record s3 { words = slice_set s3.words (word_at b1) 2 } → s5 ≡ record s4 { words = slice_set s4.words (word_at b) 8 } → IsSound s5
  pair_is_sound s0 s1 s2 s3 s4 s5 a b a1 b1 is_a is_b is_a1 is_b1 e0 e1 e2 e3 e4 e5 =
      let t1 = e1 ∙ ap (λ (t : Contents). advanced t 0 4160) e0 in
      let t2 = e2 ∙ ap (λ (x : ℕ). put s1 x 2) is_a1 ∙ ap (λ (t : Contents). put t 513 2) t1 in
      let t3 = e3 ∙ ap (λ (x : ℕ). put s2 x 8) is_a ∙ ap (λ (t : Contents). put t 512 8) t2 in
      let t4 = e4 ∙ ap (λ (x : ℕ). put s3 x 2) is_b1 ∙ ap (λ (t : Contents). put t 517 2) t3 in
      let t5 = e5 ∙ ap (λ (x : ℕ). put s4 x 8) is_b ∙ ap (λ (t : Contents). put t 516 8) t4 in
      subst IsSound (sym t5) pair_of_two
