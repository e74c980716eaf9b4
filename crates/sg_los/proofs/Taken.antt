-- A space stays sound where a new object gets its header on a run of pages that was taken for it.
use Rattle.std.proofs.Common.{◌≡◌, ◌≢◌, ℕ, ◌+◌, ◌/◌, ◌<◌, ◌≤◌, ◌⊎◌, inl, inr}
use Rattle.std.proofs.Common.{false, Option, Some, None, ap, sym, ◌∙◌, subst, arith, slice_set, slice_get}
use Rattle.std.proofs.lemmas.Bool.{cases_lt}
use Rattle.std.proofs.lemmas.List.{length-set, get_or-set_same, get_or-set_other}
use Rattle.std.proofs.lemmas.Option.{none-some, same_Some}
use Rattle.sg_words.specs.Blocks.{slot_size, slots, slot_base, IsOf}
use Rattle.sg_words.specs.Tags.{plain_word}
use Rattle.sg_desc.specs.declared.shapes.Shape.{Shape}
use Rattle.sg_desc.specs.Shapes.{is_vector}
use Rattle.sg_words.specs.Sections.{nursery_base, old_base, globals_base}
use Rattle.sg_space.specs.Space.{Contents}
use Rattle.sg_space.specs.Laws.{PlacingLaw}
use Rattle.sg_space.specs.Standing.{word, block_in, page_in, page_base, size_at, IsObject}
use Rattle.sg_space.specs.Standing.{IsInNursery, IsInSlot, IsInPages, IsPlaced, IsSoundBlock, IsGarbage, IsSoundBy}
use Rattle.sg_los.specs.Pages.{IsFreeRun, SetsPages}
use Rattle.sg_los.specs.Laws.{with_object, headed}
use Rattle.sg_los.proofs.Owners.{with_inside, with_outside}
use Rattle.sg_los.proofs.Standing.{run_apart}

-- a run of pages was taken for an object of one class, with so many fields
pub record IsTakenFor (s : Contents) (j h class fields : ℕ) (t : Contents) : Type 0 where
  pub shape : Shape
  pub shape_is : slice_get s.shapes class ≡ Some shape
  pub size : is_vector shape.kind ≡ false → fields ≡ shape.fields
  pub large : 64 < fields + 2
  pub front : h ≡ page_base s.layout j
  pub run : IsFreeRun s j ((fields + 2 + 127) / 128)
  pub sets : SetsPages s j (j + (fields + 2 + 127) / 128) (j + 1) t

module _ (law : PlacingLaw) (s : Contents) (owner : ℕ → Option ℕ) (sound : IsSoundBy s owner) (j h class fields : ℕ) (t : Contents)
    (is : IsTakenFor s j h class fields t) where
  -- the space afterwards
  abbrev after : Contents
  after = record s { words = slice_set (slice_set s.words (h + 1) fields) h (plain_word class); pages = t.pages }

  abbrev other : ℕ → Option ℕ
  other = with_object owner h (fields + 2)

  ends : h + (fields + 2) ≤ globals_base s.layout
  ends = let front = is.front in let within = is.run.within in omega (arith, front, within)

  cases : (x : ℕ) → ((h ≤ x) × (x < h + (fields + 2))) ⊎ ((x < h) ⊎ (h + (fields + 2) ≤ x))
  cases x = elim (cases_lt x h) [
    | inl before ↦ inr (inl before)
    | inr from ↦ elim (cases_lt x (h + (fields + 2))) [ inl inside ↦ inl (from, inside) | inr behind ↦ inr (inr behind) ]
  ]

  inside_is : (x : ℕ) → h ≤ x → x < h + (fields + 2) → other x ≡ Some h
  inside_is x from to = with_inside owner h (fields + 2) x from to

  outside_is : (x : ℕ) → (x < h) ⊎ (h + (fields + 2) ≤ x) → other x ≡ owner x
  outside_is x out = with_outside owner h (fields + 2) x out

  unowned : (x : ℕ) → h ≤ x → x < h + (fields + 2) → owner x ≡ None
  unowned x from to =
      let front = is.front in
      (run_apart law s owner sound j ((fields + 2 + 127) / 128) x is.run (omega (arith, front, from)) (omega (arith, front, to))).0

  -- the words after it
  tag_is : word after h ≡ plain_word class
  tag_is = let words = sound.words in let e = ends in let l = length-set s.words (h + 1) fields in
      get_or-set_same (slice_set s.words (h + 1) fields) h (plain_word class) 0 (omega (arith, words, e, l))

  fields_is : word after (h + 1) ≡ fields
  fields_is = let words = sound.words in let e = ends in
      get_or-set_other (slice_set s.words (h + 1) fields) h (h + 1) (plain_word class) 0 (omega arith) ∙
      get_or-set_same s.words (h + 1) fields 0 (omega (arith, words, e))

  other_is : (x : ℕ) → x ≢ h → x ≢ h + 1 → word after x ≡ word s x
  other_is x a b = get_or-set_other (slice_set s.words (h + 1) fields) h x (plain_word class) 0 a ∙ get_or-set_other s.words (h + 1) x fields 0 b

  -- what had an owner before is elsewhere, and each object there is as it was
  elsewhere : (x g : ℕ) → owner x ≡ Some g → (x < h) ⊎ (h + (fields + 2) ≤ x)
  elsewhere x g e = elim (cases x) [
    | inl inside ↦ absurd (none-some g (sym (unowned x inside.0 inside.1) ∙ e))
    | inr out ↦ out
  ]

  front_elsewhere : (g : ℕ) → owner g ≡ Some g → (g + 1 < h) ⊎ (h + (fields + 2) ≤ g)
  front_elsewhere g e =
      let first = elsewhere g g e in
      let second = elsewhere (g + 1) g (sound.whole g (g + 1) e (omega arith) (omega arith)) in
      grind (arith, first, second)

  same_tag : (g : ℕ) → owner g ≡ Some g → word after g ≡ word s g
  same_tag g e = let out = front_elsewhere g e in other_is g (grind (arith, out)) (grind (arith, out))

  same_fields : (g : ℕ) → owner g ≡ Some g → word after (g + 1) ≡ word s (g + 1)
  same_fields g e = let out = front_elsewhere g e in other_is (g + 1) (grind (arith, out)) (grind (arith, out))

  still : (x g : ℕ) → owner x ≡ Some g → other x ≡ Some g
  still x g e = outside_is x (elsewhere x g e) ∙ e

  -- a page that wasn't free is as it was
  page_after : (k q : ℕ) → page_in s k ≡ q + 1 → page_in t k ≡ q + 1
  page_after k q named = is.sets.others k (λ from to. let free = is.run.free k from to in omega (arith, free, named)) ∙ named

  new_object : IsObject after h
  new_object = record { class = class; shape = is.shape; shape_is = is.shape_is; tag = tag_is; size = λ v. fields_is ∙ is.size v }

  new_place : IsPlaced after h
  new_place =
      let large = is.large in
      let front = is.front in
      let e = ends in
      let f = fields_is in
      inr (inr (record {
        page = j;
        front = front;
        large = omega (arith, large, f);
        within = omega (arith, e, f);
        takes = λ k from to. is.sets.set k from (omega (arith, front, from, to, f));
      }))

  old_object : (g : ℕ) → owner g ≡ Some g → IsObject after g
  old_object g e =
      let o = sound.objects g e in
      let size = same_fields g e in
      record {
        class = o.class;
        shape = o.shape;
        shape_is = o.shape_is;
        tag = same_tag g e ∙ o.tag;
        size = λ v. size ∙ o.size v;
      }

  -- another object stands where it stood
  module _ (g : ℕ) (same : word after (g + 1) ≡ word s (g + 1)) where
    nursery_after : IsInNursery s g → IsInNursery after g
    nursery_after y = record {
      above = y.above;
      within = subst (λ (n : ℕ). g + (n + 2) ≤ old_base s.layout) (sym same) y.within;
      small = subst (λ (n : ℕ). n + 2 ≤ 64) (sym same) y.small;
    }

    slot_after : IsInSlot s g → IsInSlot after g
    slot_after y = record {
      block = y.block;
      slot = y.slot;
      there = y.there;
      sized = subst (λ (n : ℕ). IsOf (block_in s y.block) (slot_size (n + 2))) (sym same) y.sized;
      fits = subst (λ (n : ℕ). y.slot < slots (slot_size (n + 2))) (sym same) y.fits;
      front = subst (λ (n : ℕ). g ≡ slot_base s.layout y.block (slot_size (n + 2)) y.slot) (sym same) y.front;
      taken = y.taken;
      small = subst (λ (n : ℕ). n + 2 ≤ 64) (sym same) y.small;
    }

    pages_after : IsInPages s g → IsInPages after g
    pages_after y = record {
      page = y.page;
      front = y.front;
      large = subst (λ (n : ℕ). 64 < n + 2) (sym same) y.large;
      within = subst (λ (n : ℕ). g + (n + 2) ≤ globals_base s.layout) (sym same) y.within;
      takes = λ k from to. page_after k y.page (y.takes k from (subst (λ (n : ℕ). page_base s.layout k < g + (n + 2)) same to));
    }

    place_after : IsPlaced s g → IsPlaced after g
    place_after y = elim y [ inl z ↦ inl (nursery_after z) | inr q ↦ inr (elim q [ inl z ↦ inl (slot_after z) | inr z ↦ inr (pages_after z) ]) ]

  block_after : (c : ℕ) → IsSoundBlock s owner c → IsSoundBlock after other c
  block_after c b = record {
    settled = b.settled;
    sized = b.sized;
    bare = b.bare;
    filled = λ z i of set. let f = b.filled z i of set in (f.0, still (slot_base s.layout c z i) (slot_base s.layout c z i) f.1);
    marked = b.marked;
  }

  page_cases : (k : ℕ) → ((j ≤ k) × (k < j + (fields + 2 + 127) / 128)) ⊎ (j ≤ k → k < j + (fields + 2 + 127) / 128 → ⊥)
  page_cases k = elim (cases_lt k j) [
    | inl below ↦ inr (λ from to. omega (arith, below, from))
    | inr from ↦ elim (cases_lt k (j + (fields + 2 + 127) / 128)) [ inl to ↦ inl (from, to) | inr past ↦ inr (λ a b. omega (arith, past, b)) ]
  ]

  named_after : (k q : ℕ) → k < s.layout.pages → page_in t k ≡ q + 1 →
      ((j ≤ k) × (k < j + (fields + 2 + 127) / 128)) ⊎ (j ≤ k → k < j + (fields + 2 + 127) / 128 → ⊥) →
      (other (page_base s.layout q) ≡ Some (page_base s.layout q)) × (q ≤ k) ×
      (page_base s.layout k < page_base s.layout q + size_at after (page_base s.layout q))
  named_after k q there named (inl in_run) =
      let set = is.sets.set k in_run.0 in_run.1 in
      let same : j ≡ q = omega (arith, set, named) in
      let front : h ≡ page_base s.layout q = is.front ∙ ap (page_base s.layout) same in
      let f = fields_is in
      let from = in_run.0 in
      let to = in_run.1 in
      subst (λ (z : ℕ). (other z ≡ Some z) × (q ≤ k) × (page_base s.layout k < z + size_at after z)) front
      (inside_is h (omega arith) (omega arith), omega (arith, same, from), omega (arith, front, same, f, to))
  named_after k q there named (inr out) =
      let n = (sound.pages k there).named q (sym (is.sets.others k out) ∙ named) in
      let size = same_fields (page_base s.layout q) n.0 in
      let to = n.2 in
      (still (page_base s.layout q) (page_base s.layout q) n.0, n.1, omega (arith, to, size))

  -- the objects after it
  front_cases : (g : ℕ) → other g ≡ Some g → (h ≡ g) ⊎ (owner g ≡ Some g)
  front_cases g e = elim (cases g) [
    | inl inside ↦ inl (same_Some h g (sym (inside_is g inside.0 inside.1) ∙ e))
    | inr out ↦ inr (sym (outside_is g out) ∙ e)
  ]

  taken_owned : (x g : ℕ) → other x ≡ Some g → (g ≤ x) × (x < g + size_at after g) × (other g ≡ Some g)
  taken_owned x g e = elim (cases x) [
    | inl inside ↦
        let same : h ≡ g = same_Some h g (sym (inside_is x inside.0 inside.1) ∙ e) in
        let f = fields_is in
        let to = inside.1 in
        subst (λ (z : ℕ). (z ≤ x) × (x < z + size_at after z) × (other z ≡ Some z)) same
        (inside.0, omega (arith, to, f), inside_is h (omega arith) (omega arith))
    | inr out ↦
        let o = sound.owned x g (sym (outside_is x out) ∙ e) in
        let size = same_fields g o.2 in
        let to = o.1 in
        (o.0, omega (arith, to, size), still g g o.2)
  ]

  taken_whole : (g x : ℕ) → other g ≡ Some g → g ≤ x → x < g + size_at after g → other x ≡ Some g
  taken_whole g x e from to = elim (front_cases g e) [
    | inl same ↦ subst (λ (z : ℕ). z ≤ x → x < z + size_at after z → other x ≡ Some z) same
        (λ a b. let f = fields_is in inside_is x a (omega (arith, b, f))) from to
    | inr before ↦ let size = same_fields g before in still x g (sound.whole g x before from (omega (arith, to, size)))
  ]

  taken_clear : (x : ℕ) → other x ≡ None → nursery_base ≤ x → x < globals_base s.layout → (IsGarbage after x → ⊥) → word after x ≡ 0
  taken_clear x e low high garbage = elim (cases x) [
    | inl inside ↦ absurd (none-some h (sym e ∙ inside_is x inside.0 inside.1))
    | inr out ↦ other_is x (grind (arith, out)) (grind (arith, out)) ∙ sound.clear x (sym (outside_is x out) ∙ e) low high (λ g. garbage (record {
      block = g.block;
      size = g.size;
      slot = g.slot;
      there = g.there;
      owing = g.owing;
      fits = g.fits;
      unmarked = g.unmarked;
      from = g.from;
      to = g.to;
    }))
  ]

  sound_after : IsSoundBy after other
  sound_after = record {
    words = length-set (slice_set s.words (h + 1) fields) h (plain_word class) ∙ length-set s.words (h + 1) fields ∙ sound.words;
    classes = sound.classes;
    owned = taken_owned;
    whole = taken_whole;
    objects = λ g e. elim (front_cases g e) [
      | inl same ↦ subst (λ (z : ℕ). IsObject after z) same new_object
      | inr before ↦ old_object g before
    ];
    places = λ g e. elim (front_cases g e) [
      | inl same ↦ subst (λ (z : ℕ). IsPlaced after z) same new_place
      | inr before ↦ place_after g (same_fields g before) (sound.places g before)
    ];
    blocks = λ c l. block_after c (sound.blocks c l);
    pages = λ k there. record { named = λ q named. named_after k q there named (page_cases k) };
    clear = taken_clear;
    fragments = sound.fragments;
    ordered = sound.ordered;
    apart = sound.apart;
    addresses = sound.addresses;
    free = λ f x below from to.
        let o = (sound.ordered f below).1 in
        let front = is.front in
        outside_is x (inl (omega (arith, o, front, to))) ∙ sound.free f x below from to;
  }

  pub taken_is_sound : IsSoundBy (headed t h class fields) other
  taken_is_sound = subst (λ (z : Contents). IsSoundBy (headed z h class fields) other) (sym is.sets.still) sound_after
