-- A space with seven objects of four words each at the nursery's front.
use Rattle.std.proofs.Common.{◌≡◌, ℕ, zero, suc, ◌+◌, ◌-◌, ◌*◌, ◌/◌, ◌%◌, ◌<◌, ◌≤◌, ◌⊎◌, inl, inr, true, false, Option, Some, None, List, [], ◌∷◌, slice_get, slice_index, refl, sym, ap, ◌∙◌, subst, arith}
use Rattle.std.proofs.lemmas.Bool.{cases_lt, false≢true}
use Rattle.std.proofs.lemmas.Option.{none-some, same_Some}
use Rattle.std.proofs.lemmas.Nat.Bits.{bit_at-zero}
use Rattle.std.specs.Int.{bit_at}
use Rattle.std.specs.List.{Contains}
use Rattle.sg_words.specs.Address.{word_at}
use Rattle.sg_words.specs.Tags.{plain_word}
use Rattle.sg_words.specs.Blocks.{IsOf}
use Rattle.sg_words.specs.declared.layout.Layout.{Layout}
use Rattle.sg_words.specs.declared.steps.BlockWord.{BlockWord}
use Rattle.sg_words.specs.declared.steps.BlockWord.TheVariants.{Free}
use Rattle.sg_desc.specs.declared.shapes.Shape.{Shape}
use Rattle.sg_desc.specs.declared.shapes.Descriptor.TheVariants.{Run, VectorRefs}
use Rattle.sg_desc.specs.Shapes.{holds_reference, is_vector}
use Rattle.sg_space.specs.Space.{Contents, IsContents, clear_space}
use Rattle.sg_space.specs.Standing.{word, size_at, block_in, used_in, marks_in, IsObject, IsPlaced, IsSoundBlock, IsSoundBy, RefersSoundly, Refers}
use Rattle.sg_mark.specs.Marking.{CanMark}

abbrev pub layout : Layout
layout = record { nursery = 256; blocks = 1; pages = 0 }

abbrev pub link : Shape
link = record { fields = 2; kind = Run 0 1 }

abbrev pub vector : Shape
vector = record { fields = 0; kind = VectorRefs }

abbrev pub shapes : List Shape
shapes = link ∷ vector ∷ []

abbrev pub row : List ℕ
row = 8 ∷ 2 ∷ 4128 ∷ 4288 ∷ 8 ∷ 2 ∷ 4160 ∷ 0 ∷ 8 ∷ 2 ∷ 4096 ∷ 0 ∷ 16 ∷ 2 ∷ 4160 ∷ 4224 ∷ 8 ∷ 2 ∷ 0 ∷ 0 ∷ 8 ∷ 2 ∷ 4224 ∷ 0 ∷ 8 ∷ 2 ∷ 4096 ∷ 0 ∷ []

-- the owner of a word: the objects begin at each fourth word
pick : (x : ℕ) → (x < 512) ⊎ (512 ≤ x) → (x < 540) ⊎ (540 ≤ x) → Option ℕ
pick x (inl before) b = None
pick x (inr from) (inl inside) = Some (x - x % 4)
pick x (inr from) (inr behind) = None

pub owner_of : ℕ → Option ℕ
owner_of x = pick x (cases_lt x 512) (cases_lt x 540)

IsPicked : ℕ → Option ℕ → Type 0
IsPicked x o = ((512 ≤ x) × (x < 540) × (o ≡ Some (x - x % 4))) ⊎ (((x < 512) ⊎ (540 ≤ x)) × (o ≡ None))

picked : (x : ℕ) (a : (x < 512) ⊎ (512 ≤ x)) (b : (x < 540) ⊎ (540 ≤ x)) → IsPicked x (pick x a b)
unfolding pick IsPicked
picked x (inl before) b = inr (inl before, refl)
picked x (inr from) (inl inside) = inl (from, inside, refl)
picked x (inr from) (inr behind) = inr (inr behind, refl)

where_is : (x : ℕ) → ((512 ≤ x) × (x < 540) × (owner_of x ≡ Some (x - x % 4))) ⊎ (((x < 512) ⊎ (540 ≤ x)) × (owner_of x ≡ None))
unfolding owner_of IsPicked
where_is x = picked x (cases_lt x 512) (cases_lt x 540)

owns : (x h : ℕ) → owner_of x ≡ Some h → (512 ≤ x) × (x < 540) × (h ≡ x - x % 4)
owns x h e = elim (where_is x) [ inl w ↦ (w.0, w.1, same_Some h (x - x % 4) (sym e ∙ w.2)) | inr w ↦ absurd (none-some h (sym w.1 ∙ e)) ]

owned_by : (x h : ℕ) → 512 ≤ x → x < 540 → h ≡ x - x % 4 → owner_of x ≡ Some h
owned_by x h from to is = elim (where_is x) [ inl w ↦ w.2 ∙ ap (λ (n : ℕ). Some n) (sym is) | inr w ↦ absurd (omega (arith, w.0)) ]

outside : (x : ℕ) → owner_of x ≡ None → (x < 512) ⊎ (540 ≤ x)
outside x e = elim (where_is x) [ inl w ↦ absurd (none-some (x - x % 4) (sym e ∙ w.2)) | inr w ↦ w.0 ]

free_of : (x : ℕ) → 540 ≤ x → owner_of x ≡ None
free_of x behind = elim (where_is x) [ inl w ↦ let to = w.1 in absurd (omega arith) | inr w ↦ w.1 ]

-- the first words
front : (h : ℕ) → owner_of h ≡ Some h → (j : ℕ) × (j < 7) × (h ≡ 512 + 4 * j)
front h e =
    let o = owns h h e in
    let from = o.0 in
    let to = o.1 in
    let is = o.2 in
    ((h - 512) / 4, omega arith, omega arith)

pub is_front : (j : ℕ) → j < 7 → owner_of (512 + 4 * j) ≡ Some (512 + 4 * j)
is_front j l = owned_by (512 + 4 * j) (512 + 4 * j) (omega arith) (omega arith) (omega arith)

seven : (P : ℕ → Type 0) → P 0 → P 1 → P 2 → P 3 → P 4 → P 5 → P 6 → (j : ℕ) → j < 7 → P j
seven P a b c d e f g zero l = a
seven P a b c d e f g (suc zero) l = b
seven P a b c d e f g (suc (suc zero)) l = c
seven P a b c d e f g (suc (suc (suc zero))) l = d
seven P a b c d e f g (suc (suc (suc (suc zero)))) l = e
seven P a b c d e f g (suc (suc (suc (suc (suc zero))))) l = f
seven P a b c d e f g (suc (suc (suc (suc (suc (suc zero)))))) l = g
seven P a b c d e f g (suc (suc (suc (suc (suc (suc (suc j))))))) l = absurd (omega arith)

two : (P : ℕ → Type 0) → P 0 → P 1 → (i : ℕ) → i < 2 → P i
two P a b zero l = a
two P a b (suc zero) l = b
two P a b (suc (suc i)) l = absurd (omega arith)

abbrev IsAimed : ℕ → Type 0
IsAimed v = (v ≡ 0) ⊎ ((k : ℕ) × (k < 7) × (v ≡ 4096 + 32 * k))

record IsRow (j : ℕ) : Type 0 where
  class : ℕ
  shape : Shape
  shape_is : slice_get shapes class ≡ Some shape
  tag : slice_index row (4 * j) ≡ plain_word class
  size : is_vector shape.kind ≡ false → 2 ≡ shape.fields
  fields : slice_index row (4 * j + 1) ≡ 2
  refers : (i : ℕ) → i < 2 → holds_reference shape.kind i 2 ≡ true → IsAimed (slice_index row (4 * j + 2 + i))

rows : (j : ℕ) → j < 7 → IsRow j
rows = seven IsRow
    (record { class = 0; shape = link; shape_is = refl; tag = refl; size = λ e. refl; fields = refl; refers = two _ (λ e. inr (1, omega arith, refl)) (λ e. absurd (false≢true e)) })
    (record { class = 0; shape = link; shape_is = refl; tag = refl; size = λ e. refl; fields = refl; refers = two _ (λ e. inr (2, omega arith, refl)) (λ e. absurd (false≢true e)) })
    (record { class = 0; shape = link; shape_is = refl; tag = refl; size = λ e. refl; fields = refl; refers = two _ (λ e. inr (0, omega arith, refl)) (λ e. absurd (false≢true e)) })
    (record { class = 1; shape = vector; shape_is = refl; tag = refl; size = λ e. absurd (false≢true (sym e)); fields = refl; refers = two _ (λ e. inr (2, omega arith, refl)) (λ e. inr (4, omega arith, refl)) })
    (record { class = 0; shape = link; shape_is = refl; tag = refl; size = λ e. refl; fields = refl; refers = two _ (λ e. inl refl) (λ e. absurd (false≢true e)) })
    (record { class = 0; shape = link; shape_is = refl; tag = refl; size = λ e. refl; fields = refl; refers = two _ (λ e. inr (4, omega arith, refl)) (λ e. absurd (false≢true e)) })
    (record { class = 0; shape = link; shape_is = refl; tag = refl; size = λ e. refl; fields = refl; refers = two _ (λ e. inr (0, omega arith, refl)) (λ e. absurd (false≢true e)) })

abbrev pub seven_space : List ℕ → Contents
seven_space words = record (clear_space layout shapes) { next = 4320 ∷ []; words = words }

module _ (words : List ℕ) (contents : IsContents (seven_space words)) (written : (i : ℕ) → i < 28 → slice_index words (512 + i) ≡ slice_index row i)
    (others : (x : ℕ) → (x < 512) ⊎ (540 ≤ x) → slice_index words x ≡ 0) where
  abbrev s : Contents
  s = seven_space words

  word_of : (j i : ℕ) → j < 7 → i < 4 → word s (512 + 4 * j + i) ≡ slice_index row (4 * j + i)
  word_of j i l m = ap (slice_index words) (let e : 512 + 4 * j + i ≡ 512 + (4 * j + i) = omega arith in e) ∙ written (4 * j + i) (omega arith)

  tag_is : (j : ℕ) (l : j < 7) → word s (512 + 4 * j) ≡ plain_word (rows j l).class
  tag_is j l = written (4 * j) (omega arith) ∙ (rows j l).tag

  fields_is : (h : ℕ) → owner_of h ≡ Some h → word s (h + 1) ≡ 2
  fields_is h e =
      let f = front h e in
      ap (λ (n : ℕ). word s (n + 1)) f.2 ∙ word_of f.0 1 f.1 (omega arith) ∙ (rows f.0 f.1).fields

  owned : (x h : ℕ) → owner_of x ≡ Some h → (h ≤ x) × (x < h + size_at s h) × (owner_of h ≡ Some h)
  owned x h e =
      let o = owns x h e in
      let from = o.0 in
      let to = o.1 in
      let is = o.2 in
      let own = owned_by h h (omega arith) (omega arith) (omega arith) in
      let size = fields_is h own in
      (omega arith, omega arith, own)

  whole : (h x : ℕ) → owner_of h ≡ Some h → h ≤ x → x < h + size_at s h → owner_of x ≡ Some h
  whole h x e low high =
      let f = front h e in
      let l = f.1 in
      let is = f.2 in
      let size = fields_is h e in
      owned_by x h (omega arith) (omega arith) (omega arith)

  object : (h : ℕ) → owner_of h ≡ Some h → IsObject s h
  object h e =
      let f = front h e in
      let r = rows f.0 f.1 in
      record {
        class = r.class;
        shape = r.shape;
        shape_is = r.shape_is;
        tag = ap (word s) f.2 ∙ tag_is f.0 f.1;
        size = λ no_vector. fields_is h e ∙ r.size no_vector;
      }

  place : (h : ℕ) → owner_of h ≡ Some h → IsPlaced s h
  place h e =
      let f = front h e in
      let l = f.1 in
      let is = f.2 in
      let size = fields_is h e in
      inl (record { above = omega arith; within = omega arith; small = omega arith })

  free_block : (c : ℕ) → c < 1 → block_in s c ≡ Free
  free_block zero l = refl
  free_block (suc c) l = absurd (omega arith)

  bare_block : (c : ℕ) → c < 1 → (used_in s c ≡ 0) × (marks_in s c ≡ 0)
  bare_block zero l = (refl, refl)
  bare_block (suc c) l = absurd (omega arith)

  no_slots : (c z : ℕ) → c < 1 → IsOf (block_in s c) z → ⊥
  no_slots c z l h = subst (λ (state : BlockWord). IsOf state z) (free_block c l) h

  block : (c : ℕ) → c < 1 → IsSoundBlock s owner_of c
  block c l = record {
    settled = λ z e. let f = free_block c l in cc;
    sized = λ z h. absurd (no_slots c z l h);
    bare = λ e. bare_block c l;
    filled = λ z i h. absurd (no_slots c z l h);
    marked = λ i b. let m = (bare_block c l).1 in let z = bit_at-zero i in absurd (let e = ap (λ (v : ℕ). bit_at v i) m in omega arith);
  }

  ordered : (f : ℕ) → f < 1 → (slice_index s.next f ≤ slice_index s.ends f) × (slice_index s.ends f ≤ 6144) × (4096 ≤ slice_index s.next f)
  ordered zero below = (omega arith, omega arith, omega arith)
  ordered (suc f) below = absurd (omega arith)

  addresses : (f : ℕ) → f < 1 → (slice_index s.next f % 8 ≡ 0) × (slice_index s.ends f % 8 ≡ 0)
  addresses zero below = (refl, refl)
  addresses (suc f) below = absurd (omega arith)

  behind : (f x : ℕ) → f < 1 → word_at (slice_index s.next f) ≤ x → 540 ≤ x
  behind zero x below from = omega arith
  behind (suc f) x below from = absurd (omega arith)

  sound : IsSoundBy s owner_of
  sound = record {
    words = contents.words;
    classes = omega arith;
    owned = owned;
    whole = whole;
    objects = object;
    places = place;
    blocks = block;
    pages = λ j l. absurd (omega arith);
    clear = λ x e above below garbage. others x (outside x e);
    fragments = refl;
    ordered = ordered;
    apart = λ f j less below. absurd (omega arith);
    addresses = addresses;
    free = λ f x below from to. free_of x (behind f x below from);
  }

  aimed : (v : ℕ) → IsAimed v → Refers owner_of v
  aimed v (inl e) = inl e
  aimed v (inr (k, l, e)) = inr (512 + 4 * k, is_front k l, (let is : v ≡ 8 * (512 + 4 * k) = omega arith in is))

  fields : (h i class : ℕ) (shape : Shape) → owner_of h ≡ Some h → slice_get shapes class ≡ Some shape → word s h ≡ plain_word class → i < word s (h + 1) →
      holds_reference shape.kind i (word s (h + 1)) ≡ true → Refers owner_of (word s (h + 2 + i))
  fields h i class shape e shape_is tag within holds =
      let f = front h e in
      let r = rows f.0 f.1 in
      let size = fields_is h e in
      let mine = ap (word s) f.2 ∙ tag_is f.0 f.1 in
      let same : class ≡ r.class = omega arith in
      let one : Some shape ≡ Some r.shape = sym shape_is ∙ ap (slice_get shapes) same ∙ r.shape_is in
      let shaped : shape ≡ r.shape = cc in
      let few : i < 2 = omega arith in
      let reference = subst (λ (d : Shape). holds_reference d.kind i 2 ≡ true) shaped (subst (λ (n : ℕ). holds_reference shape.kind i n ≡ true) size holds) in
      let here : word s (h + 2 + i) ≡ slice_index row (4 * f.0 + 2 + i) = ap (λ (n : ℕ). word s (n + 2 + i)) f.2 ∙
      ap (slice_index words) (let l : 512 + 4 * f.0 + 2 + i ≡ 512 + (4 * f.0 + 2 + i) = omega arith in l) ∙ written (4 * f.0 + 2 + i) (let l = f.1 in omega arith) in
      subst (Refers owner_of) (sym here) (aimed (slice_index row (4 * f.0 + 2 + i)) (r.refers i few reference))

  refers : RefersSoundly s owner_of
  refers = record {
    fields = fields;
    globals = λ x l. inl (others (1024 + x) (inr (omega arith)));
    links = λ x l. inl (others (2112 + x) (inr (omega arith)));
    ready = λ j low high. inl (others (1088 + j) (inr (omega arith)));
    registered = λ j l. absurd (omega arith);
    pairs = λ j l. absurd (omega arith);
  }

  unmarked : (c : ℕ) → marks_in s c ≡ 0
  unmarked zero = refl
  unmarked (suc c) = refl

  pub can : (roots : List ℕ) → ((a : ℕ) → Contains roots a → (j : ℕ) × (j < 7) × (a ≡ 4096 + 32 * j)) → CanMark s owner_of (λ x. false) s roots
  can roots some = record {
    contents = contents;
    sound = sound;
    refers = refers;
    unmarked = unmarked;
    has = record {
      same = refl;
      words_length = refl;
      marks_length = refl;
      top = λ h o k y. absurd (false≢true y);
      rest = λ x out. refl;
      set = λ h c z i o f y. absurd (false≢true y);
      only = λ c i b. let z = bit_at-zero i in absurd (let e = ap (λ (v : ℕ). bit_at v i) (unmarked c) in omega arith);
    };
    closed = λ h k y. absurd (false≢true y);
    stand = λ a c. let q = some a c in let e = q.2 in (512 + 4 * q.0, is_front q.0 q.1, (let is : a ≡ 8 * (512 + 4 * q.0) = omega arith in is));
  }
