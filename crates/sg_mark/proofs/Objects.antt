-- What is read of an object, be it marked or not.
use Rattle.std.proofs.Common.{◌≡◌, ℕ, ◌+◌, ◌^◌, ◌<◌, ◌≤◌, ◌⊎◌, inl, inr, Bool, Option, Some, slice_get, sym, ap, ◌∙◌, subst, arith}
use Rattle.std.proofs.lemmas.Bool.{cases_Bool, false≢true}
use Rattle.std.proofs.lemmas.Option.{slice_get_within}
use Rattle.sg_words.specs.Address.{word_at}
use Rattle.sg_words.specs.Tags.{plain_word}
use Rattle.sg_words.specs.Sections.{IsInSection}
use Rattle.sg_desc.specs.declared.shapes.Shape.{Shape}
use Rattle.sg_space.specs.Space.{Contents}
use Rattle.sg_space.specs.Standing.{word, size_at, IsStanding}
use Rattle.sg_mark.specs.Gray.{IsPartly}
use Rattle.sg_mark.proofs.Places.{inside, place_of, not_both, layout_same, stands_at}

-- a word with its class, be the object marked or not
abbrev pub IsFirstWord : ℕ → ℕ → Type 0
IsFirstWord class w = (w ≡ plain_word class) ⊎ (w ≡ plain_word class + 2 ^ 63)

module _ (t : Contents) (owner : ℕ → Option ℕ) (now : ℕ → Bool) (s : Contents) (is : IsPartly t owner now s) where
  pub shapes_same : s.shapes ≡ t.shapes
  shapes_same = ap (λ (x : Contents). x.shapes) is.has.same

  -- a word that is no object's first is as it was
  pub word_kept : (x : ℕ) → (owner x ≡ Some x → ⊥) → word s x ≡ word t x
  word_kept x out = is.has.rest x (λ q. out q.0)

  module _ (a : ℕ) (at : IsStanding owner a) where
    stands : owner (word_at a) ≡ Some (word_at a)
    stands = stands_at owner a at

    pub is_behind : (x : ℕ) → word_at a < x → x < word_at a + size_at t (word_at a) → owner x ≡ Some x → ⊥
    is_behind x low high o =
        let q = is.sound.whole (word_at a) x stands (omega arith) high in
        let e : Some x ≡ Some (word_at a) = sym o ∙ q in
        let n : x ≡ word_at a = cc in
        absurd (omega arith)

    -- an object's words lie in the sections
    pub words_inside : (x : ℕ) → word_at a ≤ x → x < word_at a + size_at t (word_at a) → IsInSection s.layout x
    words_inside x low high =
        let lies = inside t owner is.sound (word_at a) stands in
        let l = lies.0 in
        let m = lies.1 in
        subst (λ l. IsInSection l x) (sym (layout_same t owner now s is.has)) (omega arith, omega arith)

    -- its class is that of its first word
    pub first_word : (class : ℕ) × (shape : Shape) × (slice_get t.shapes class ≡ Some shape) × (word t (word_at a) ≡ plain_word class) × (class < 256) × IsFirstWord class (word s (word_at a))
    first_word =
        let o = is.sound.objects (word_at a) stands in
        let class = slice_get_within t.shapes o.class o.shape o.shape_is in
        let few = is.sound.classes in
        (o.class, o.shape, o.shape_is, o.tag, omega arith, reads o.class o.tag)
      where
        reads : (class : ℕ) → word t (word_at a) ≡ plain_word class → IsFirstWord class (word s (word_at a))
        reads class tag = elim (place_of t owner is.sound (word_at a) stands) [
          | inl k ↦ elim (cases_Bool (now (word_at a))) [
            | inl y ↦ inr (is.has.top (word_at a) stands k y ∙ ap (λ (n : ℕ). n + 2 ^ 63) tag)
            | inr n ↦ inl (is.has.rest (word_at a) (λ q. false≢true (sym n ∙ q.2)) ∙ tag)
          ]
          | inr f ↦ inl (is.has.rest (word_at a) (λ q. not_both t f.0 f.1 f.2 (word_at a) f.3 q.1) ∙ tag)
        ]

    -- how many fields it has
    pub fields_same : word s (word_at a + 1) ≡ word t (word_at a + 1)
    fields_same = word_kept (word_at a + 1) (is_behind (word_at a + 1) (omega arith) (omega arith))

    pub fields_few : word t (word_at a + 1) < 2 ^ 22
    fields_few =
        let lies = inside t owner is.sound (word_at a) stands in
        let m = lies.1 in
        let n = is.contents.layout.nursery_most in
        let b = is.contents.layout.blocks_most in
        let p = is.contents.layout.pages in
        omega arith
