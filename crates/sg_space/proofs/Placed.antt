-- A space stays sound where a fragment's next word moves up, and where a new object gets its header on words that no object
-- has and no fragment gives away.
use Rattle.std.proofs.Common.{◌≡◌, ◌≢◌, ℕ, ◌+◌, ◌%◌, ◌<◌, ◌≤◌, ◌⊎◌, inl, inr, List, length, Option, Some, None, refl, sym, ◌∙◌, subst, arith, slice_get}
use Rattle.std.proofs.Common.{slice_index, slice_set}
use Rattle.std.proofs.lemmas.Bool.{cases_lt, cases_eq}
use Rattle.std.proofs.lemmas.List.{length-set, get_or-set_same, get_or-set_other}
use Rattle.std.proofs.lemmas.Option.{none-some, same_Some}
use Rattle.sg_words.specs.Address.{word_at}
use Rattle.sg_words.specs.Tags.{plain_word}
use Rattle.sg_desc.specs.declared.shapes.Shape.{Shape}
use Rattle.sg_words.specs.Sections.{nursery_base, old_base, globals_base}
use Rattle.sg_space.specs.Space.{Contents}
use Rattle.sg_space.specs.Standing.{word, size_at, IsObject, IsPlaced, IsGarbage, IsSoundBy}
use Rattle.sg_space.proofs.Kept.{place_kept, block_kept, page_kept}

-- the space with this next word
abbrev pub advanced : Contents → ℕ → ℕ → Contents
advanced s f v = record s { next = slice_set s.next f v }

module _ (s : Contents) (owner : ℕ → Option ℕ) (sound : IsSoundBy s owner) (f v : ℕ) (there : f < length s.ends)
    (up : slice_index s.next f ≤ v) (most : v ≤ slice_index s.ends f) (whole : v % 8 ≡ 0) where
  next_is : (j : ℕ) → j < length s.ends → (j ≡ f) ⊎ (j ≢ f) → (slice_index s.next j ≤ slice_index (slice_set s.next f v) j) × (slice_index (slice_set s.next f v) j ≤ slice_index s.ends j) × (slice_index (slice_set s.next f v) j % 8 ≡ 0)
  next_is j below (inl same) =
      let number = sound.fragments in
      let is : slice_index (slice_set s.next f v) j ≡ v = subst (λ i. slice_index (slice_set s.next f v) i ≡ v) (sym same) (get_or-set_same s.next f v 0 (omega arith)) in
      let from = subst (λ i. slice_index s.next i ≤ v) (sym same) up in
      let to = subst (λ i. v ≤ slice_index s.ends i) (sym same) most in
      (omega arith, omega arith, subst (λ n. n % 8 ≡ 0) (sym is) whole)
  next_is j below (inr other) =
      let is = get_or-set_other s.next f j v 0 other in
      let o = sound.ordered j below in
      let a = sound.addresses j below in
      (omega (arith, is), subst (λ n. n ≤ slice_index s.ends j) (sym is) o.0, subst (λ n. n % 8 ≡ 0) (sym is) a.0)

  next_at : (j : ℕ) → j < length s.ends → (slice_index s.next j ≤ slice_index (slice_set s.next f v) j) × (slice_index (slice_set s.next f v) j ≤ slice_index s.ends j) × (slice_index (slice_set s.next f v) j % 8 ≡ 0)
  next_at j below = next_is j below (cases_eq j f)

  pub advanced_is_sound : IsSoundBy (advanced s f v) owner
  advanced_is_sound = record {
    words = sound.words;
    classes = sound.classes;
    owned = sound.owned;
    whole = sound.whole;
    objects = λ h e. let o = sound.objects h e in record { class = o.class; shape = o.shape; shape_is = o.shape_is; tag = o.tag; size = o.size };
    places = λ h e. place_kept s s.words (slice_set s.next f v) h refl (sound.places h e);
    blocks = λ c l. block_kept s s.words (slice_set s.next f v) owner owner (λ h e. e) c (sound.blocks c l);
    pages = λ j l. page_kept s s.words (slice_set s.next f v) owner owner (λ h e. e) (λ h e. refl) j (sound.pages j l);
    clear = λ x e above below garbage. sound.clear x e above below (λ g. garbage (record {
      block = g.block;
      size = g.size;
      slot = g.slot;
      there = g.there;
      owing = g.owing;
      fits = g.fits;
      unmarked = g.unmarked;
      from = g.from;
      to = g.to;
    }));
    fragments = length-set s.next f v ∙ sound.fragments;
    ordered = λ j below. let n = next_at j below in let o = sound.ordered j below in (n.1, o.1, omega (arith, n.0, o.2));
    apart = λ i j less below. let n = next_at j below in let a = sound.apart i j less below in omega (arith, n.0, a);
    addresses = λ j below. let n = next_at j below in (n.2, (sound.addresses j below).1);
    free = λ j x below from to. let n = next_at j below in sound.free j x below (omega (arith, n.0, from)) to;
  }

-- the space with this header at the word h
abbrev pub placed : Contents → ℕ → ℕ → ℕ → Contents
placed s h class fields = record s { words = slice_set (slice_set s.words (h + 1) fields) h (plain_word class) }

-- the owner h for the n words from h on
pub pick : Option ℕ → (x h n : ℕ) → (x < h) ⊎ (h ≤ x) → (x < h + n) ⊎ (h + n ≤ x) → Option ℕ
pick o x h n (inl before) b = o
pick o x h n (inr from) (inl inside) = Some h
pick o x h n (inr from) (inr behind) = o

pub owner_with : (ℕ → Option ℕ) → ℕ → ℕ → ℕ → Option ℕ
owner_with owner h n x = pick (owner x) x h n (cases_lt x h) (cases_lt x (h + n))

pick_in : (o : Option ℕ) (x h n : ℕ) (a : (x < h) ⊎ (h ≤ x)) (b : (x < h + n) ⊎ (h + n ≤ x)) → h ≤ x → x < h + n → pick o x h n a b ≡ Some h
unfolding pick
pick_in o x h n (inl before) b above below = absurd (omega arith)
pick_in o x h n (inr from) (inl inside) above below = refl
pick_in o x h n (inr from) (inr behind) above below = absurd (omega arith)

pub pick_out : (o : Option ℕ) (x h n : ℕ) (a : (x < h) ⊎ (h ≤ x)) (b : (x < h + n) ⊎ (h + n ≤ x)) → (x < h) ⊎ (h + n ≤ x) → pick o x h n a b ≡ o
unfolding pick
pick_out o x h n (inl before) b out = refl
pick_out o x h n (inr from) (inl inside) out = absurd (omega (arith, out))
pick_out o x h n (inr from) (inr behind) out = refl

range_cases : (x h n : ℕ) → (x < h) ⊎ (h ≤ x) → (x < h + n) ⊎ (h + n ≤ x) → ((h ≤ x) × (x < h + n)) ⊎ ((x < h) ⊎ (h + n ≤ x))
range_cases x h n (inl before) b = inr (inl before)
range_cases x h n (inr from) (inl inside) = inl (from, inside)
range_cases x h n (inr from) (inr behind) = inr (inr behind)

-- what an object takes: free words of the nursery that no fragment gives away
pub record TakesRoom (s : Contents) (owner : ℕ → Option ℕ) (h n : ℕ) : Type 0 where
  pub small : n ≤ 64
  pub above : nursery_base ≤ h
  pub below : h + n ≤ old_base s.layout
  pub unowned : (x : ℕ) → h ≤ x → x < h + n → owner x ≡ None
  pub taken : (f : ℕ) → f < length s.ends → (word_at (slice_index s.ends f) ≤ h) ⊎ (h + n ≤ word_at (slice_index s.next f))

module _ (s : Contents) (owner : ℕ → Option ℕ) (sound : IsSoundBy s owner) (h class : ℕ) (shape : Shape)
    (shape_is : slice_get s.shapes class ≡ Some shape) (room : TakesRoom s owner h (shape.fields + 2)) where
  inside_is : (x : ℕ) → h ≤ x → x < h + (shape.fields + 2) → owner_with owner h (shape.fields + 2) x ≡ Some h
  unfolding owner_with
  inside_is x above below = pick_in (owner x) x h (shape.fields + 2) (cases_lt x h) (cases_lt x (h + (shape.fields + 2))) above below

  pub outside_is : (x : ℕ) → (x < h) ⊎ (h + (shape.fields + 2) ≤ x) → owner_with owner h (shape.fields + 2) x ≡ owner x
  unfolding owner_with
  outside_is x out = pick_out (owner x) x h (shape.fields + 2) (cases_lt x h) (cases_lt x (h + (shape.fields + 2))) out

  cases : (x : ℕ) → ((h ≤ x) × (x < h + (shape.fields + 2))) ⊎ ((x < h) ⊎ (h + (shape.fields + 2) ≤ x))
  cases x = range_cases x h (shape.fields + 2) (cases_lt x h) (cases_lt x (h + (shape.fields + 2)))

  -- the words after it
  tag_is : word (placed s h class shape.fields) h ≡ plain_word class
  tag_is = let words = sound.words in let below = room.below in get_or-set_same (slice_set s.words (h + 1) shape.fields) h (plain_word class) 0 (omega (arith, length-set s.words (h + 1) shape.fields))

  fields_is : word (placed s h class shape.fields) (h + 1) ≡ shape.fields
  fields_is = let words = sound.words in let below = room.below in
      get_or-set_other (slice_set s.words (h + 1) shape.fields) h (h + 1) (plain_word class) 0 (omega arith) ∙ get_or-set_same s.words (h + 1) shape.fields 0 (omega arith)

  other_is : (x : ℕ) → x ≢ h → x ≢ h + 1 → word (placed s h class shape.fields) x ≡ word s x
  other_is x a b = get_or-set_other (slice_set s.words (h + 1) shape.fields) h x (plain_word class) 0 a ∙ get_or-set_other s.words (h + 1) x shape.fields 0 b

  -- what had an owner before is elsewhere, and each object there is as it was
  elsewhere : (x g : ℕ) → owner x ≡ Some g → (x < h) ⊎ (h + (shape.fields + 2) ≤ x)
  elsewhere x g e = elim (cases x) [
    | inl inside ↦ absurd (none-some g (sym (room.unowned x inside.0 inside.1) ∙ e))
    | inr out ↦ out
  ]

  front_elsewhere : (g : ℕ) → owner g ≡ Some g → (g + 1 < h) ⊎ (h + (shape.fields + 2) ≤ g)
  front_elsewhere g e =
      let first = elsewhere g g e in
      let second = elsewhere (g + 1) g (sound.whole g (g + 1) e (omega arith) (omega arith)) in
      grind (arith, first, second)

  same_tag : (g : ℕ) → owner g ≡ Some g → word (placed s h class shape.fields) g ≡ word s g
  same_tag g e = let out = front_elsewhere g e in other_is g (grind (arith, out)) (grind (arith, out))

  same_fields : (g : ℕ) → owner g ≡ Some g → word (placed s h class shape.fields) (g + 1) ≡ word s (g + 1)
  same_fields g e = let out = front_elsewhere g e in other_is (g + 1) (grind (arith, out)) (grind (arith, out))

  still : (x g : ℕ) → owner x ≡ Some g → owner_with owner h (shape.fields + 2) x ≡ Some g
  still x g e = outside_is x (elsewhere x g e) ∙ e

  new_object : IsObject (placed s h class shape.fields) h
  new_object = record { class = class; shape = shape; shape_is = shape_is; tag = tag_is; size = λ _. fields_is }

  new_place : IsPlaced (placed s h class shape.fields) h
  new_place =
      let small = room.small in
      let below = room.below in
      inl (record { above = room.above; within = omega (arith, fields_is); small = omega (arith, fields_is) })

  old_object : (g : ℕ) → owner g ≡ Some g → IsObject (placed s h class shape.fields) g
  old_object g e =
      let o = sound.objects g e in
      let size = same_fields g e in
      record {
        class = o.class;
        shape = o.shape;
        shape_is = o.shape_is;
        tag = same_tag g e ∙ o.tag;
        size = λ v. size ∙ o.size v;
      }

  -- the words after it
  abbrev words_after : List ℕ
  words_after = slice_set (slice_set s.words (h + 1) shape.fields) h (plain_word class)

  -- the objects after it
  front_cases : (g : ℕ) → owner_with owner h (shape.fields + 2) g ≡ Some g → (h ≡ g) ⊎ (owner g ≡ Some g)
  front_cases g e = elim (cases g) [
    | inl inside ↦ inl (same_Some h g (sym (inside_is g inside.0 inside.1) ∙ e))
    | inr out ↦ inr (sym (outside_is g out) ∙ e)
  ]

  placed_owned : (x g : ℕ) → owner_with owner h (shape.fields + 2) x ≡ Some g → (g ≤ x) × (x < g + size_at (placed s h class shape.fields) g) × (owner_with owner h (shape.fields + 2) g ≡ Some g)
  placed_owned x g e = elim (cases x) [
    | inl inside ↦
        let same : h ≡ g = same_Some h g (sym (inside_is x inside.0 inside.1) ∙ e) in
        subst (λ z. (z ≤ x) × (x < z + size_at (placed s h class shape.fields) z) × (owner_with owner h (shape.fields + 2) z ≡ Some z)) same
        (inside.0, omega (arith, inside.1, fields_is), inside_is h (omega arith) (omega arith))
    | inr out ↦
        let o = sound.owned x g (sym (outside_is x out) ∙ e) in
        let size = same_fields g o.2 in
        (o.0, omega (arith, o.1, size), still g g o.2)
  ]

  placed_whole : (g x : ℕ) → owner_with owner h (shape.fields + 2) g ≡ Some g → g ≤ x → x < g + size_at (placed s h class shape.fields) g → owner_with owner h (shape.fields + 2) x ≡ Some g
  placed_whole g x e above below = elim (front_cases g e) [
    | inl same ↦ subst (λ z. z ≤ x → x < z + size_at (placed s h class shape.fields) z → owner_with owner h (shape.fields + 2) x ≡ Some z) same
        (λ a b. inside_is x a (omega (arith, fields_is))) above below
    | inr before ↦ let size = same_fields g before in still x g (sound.whole g x before above (omega (arith, size)))
  ]

  placed_clear : (x : ℕ) → owner_with owner h (shape.fields + 2) x ≡ None → nursery_base ≤ x → x < globals_base s.layout →
      (IsGarbage (placed s h class shape.fields) x → ⊥) → word (placed s h class shape.fields) x ≡ 0
  placed_clear x e above below garbage = elim (cases x) [
    | inl inside ↦ absurd (none-some h (sym e ∙ inside_is x inside.0 inside.1))
    | inr out ↦ other_is x (grind (arith, out)) (grind (arith, out)) ∙ sound.clear x (sym (outside_is x out) ∙ e) above below (λ g. garbage (record {
      block = g.block;
      size = g.size;
      slot = g.slot;
      there = g.there;
      owing = g.owing;
      fits = g.fits;
      unmarked = g.unmarked;
      from = g.from;
      to = g.to;
    }))
  ]

  pub placed_is_sound : IsSoundBy (placed s h class shape.fields) (owner_with owner h (shape.fields + 2))
  placed_is_sound = record {
    words = length-set (slice_set s.words (h + 1) shape.fields) h (plain_word class) ∙ length-set s.words (h + 1) shape.fields ∙ sound.words;
    classes = sound.classes;
    owned = placed_owned;
    whole = placed_whole;
    objects = λ g e. elim (front_cases g e) [
      | inl same ↦ subst (λ z. IsObject (placed s h class shape.fields) z) same new_object
      | inr before ↦ old_object g before
    ];
    places = λ g e. elim (front_cases g e) [
      | inl same ↦ subst (λ z. IsPlaced (placed s h class shape.fields) z) same new_place
      | inr before ↦ place_kept s words_after s.next g (same_fields g before) (sound.places g before)
    ];
    blocks = λ c l. block_kept s words_after s.next owner (owner_with owner h (shape.fields + 2)) (λ g e. still g g e) c (sound.blocks c l);
    pages = λ j l. page_kept s words_after s.next owner (owner_with owner h (shape.fields + 2)) (λ g e. still g g e) (λ g e. same_fields g e) j
        (sound.pages j l);
    clear = placed_clear;
    fragments = sound.fragments;
    ordered = sound.ordered;
    apart = sound.apart;
    addresses = sound.addresses;
    free = λ f x below from to. let taken = room.taken f below in outside_is x (grind (arith, taken, from, to)) ∙ sound.free f x below from to;
  }
