-- A space with one old object: a vector of 62 references, at the front of its one block, whose last field holds the address of the nursery's first
-- word; the first two cards are dirty.
use Rattle.std.proofs.Common.{◌≡◌, ◌≢◌, ℕ, ◌+◌, ◌<◌, ◌≤◌, ◌⊎◌, inl, inr, true, Option, Some, None, List, length}
use Rattle.std.proofs.Common.{refl, sym, ap, true≢false, ◌∙◌, subst, arith, replicate, slice_get, slice_index, slice_set, get_or}
use Rattle.std.proofs.lemmas.Bool.{cases_eq, cases_lt}
use Rattle.std.proofs.lemmas.List.{length-set, length-replicate, get_or-replicate, get_or_past, get_or-set_same, get_or-set_other}
use Rattle.std.proofs.lemmas.Option.{none-some, same_Some}
use Rattle.std.proofs.lemmas.Nat.Bits.{bit_at-zero, bit_at-pow_same, bit_at-pow_other}
use Rattle.std.specs.Int.{bit_at}
use Rattle.sg_words.specs.Address.{word_at}
use Rattle.sg_words.specs.Sections.{IsLayout, old_base, words_end}
use Rattle.sg_words.specs.Blocks.{slot_size, slots, slot_base, card_of, IsOf, is_taken, IsSizeClass}
use Rattle.sg_words.specs.declared.layout.Layout.{Layout}
use Rattle.sg_words.specs.declared.steps.BlockWord.{BlockWord}
use Rattle.sg_words.specs.declared.steps.BlockWord.TheVariants.{Free, Swept}
use Rattle.sg_desc.specs.declared.shapes.Shape.{Shape}
use Rattle.sg_desc.specs.Shapes.{is_vector}
use Rattle.sg_space.specs.Space.{Contents, AreShapes, clear_space, cards_in}
use Rattle.sg_space.specs.Standing.{size_at, block_in, used_in, marks_in, IsObject, IsPlaced, IsSoundBlock, IsSoundBy, IsSound}
use Rattle.sg_space.proofs.Fresh.{clear_is_sound}
use Rattle.sg_cards.specs.Seeds.{AreCarded}

-- the owner h of the 64 words from h on
pick : (x h : ℕ) → (x < h) ⊎ (h ≤ x) → (x < h + 64) ⊎ (h + 64 ≤ x) → Option ℕ
pick x h (inl before) b = None
pick x h (inr from) (inl inside) = Some h
pick x h (inr from) (inr behind) = None

owner_of : ℕ → ℕ → Option ℕ
owner_of h x = pick x h (cases_lt x h) (cases_lt x (h + 64))

-- where a word with this owner is
IsPicked : ℕ → ℕ → Option ℕ → Type 0
IsPicked x h o = ((h ≤ x) × (x < h + 64) × (o ≡ Some h)) ⊎ (((x < h) ⊎ (h + 64 ≤ x)) × (o ≡ None))

picked : (x h : ℕ) (a : (x < h) ⊎ (h ≤ x)) (b : (x < h + 64) ⊎ (h + 64 ≤ x)) → IsPicked x h (pick x h a b)
unfolding pick IsPicked
picked x h (inl before) b = inr (inl before, refl)
picked x h (inr from) (inl inside) = inl (from, inside, refl)
picked x h (inr from) (inr behind) = inr (inr behind, refl)

where_is : (h x : ℕ) → ((h ≤ x) × (x < h + 64) × (owner_of h x ≡ Some h)) ⊎ (((x < h) ⊎ (h + 64 ≤ x)) × (owner_of h x ≡ None))
unfolding owner_of IsPicked
where_is h x = picked x h (cases_lt x h) (cases_lt x (h + 64))

owns : (h x g : ℕ) → owner_of h x ≡ Some g → (g ≡ h) × (h ≤ x) × (x < h + 64)
owns h x g e = elim (where_is h x) [ inl w ↦ (same_Some g h (sym e ∙ w.2), w.0, w.1) | inr w ↦ absurd (none-some g (sym w.1 ∙ e)) ]

owned : (h x : ℕ) → h ≤ x → x < h + 64 → owner_of h x ≡ Some h
owned h x from to = elim (where_is h x) [ inl w ↦ w.2 | inr w ↦ absurd (omega (arith, w.0)) ]

outside : (h x : ℕ) → owner_of h x ≡ None → (x < h) ⊎ (h + 64 ≤ x)
outside h x e = elim (where_is h x) [ inl w ↦ absurd (none-some h (sym e ∙ w.2)) | inr w ↦ w.0 ]

free_of : (h x : ℕ) → x < h → owner_of h x ≡ None
free_of h x below = elim (where_is h x) [ inl w ↦ let from = w.0 in absurd (omega arith) | inr w ↦ w.1 ]

abbrev pub zeroes : ℕ → List ℕ
zeroes n = replicate n 0

zeroes_count : (n : ℕ) → length (zeroes n) ≡ n
zeroes_count n = length-replicate n 0

zeros : (n x : ℕ) → get_or (zeroes n) x 0 ≡ 0
zeros n x = elim (cases_lt x n) [
  | inl l ↦ get_or-replicate n x 0 0 l
  | inr l ↦ let size = zeroes_count n in get_or_past (zeroes n) x 0 (omega arith)
]

-- zeros but the header of such a vector at h, and its last field
pub vector_words : ℕ → ℕ → List ℕ
vector_words n h = slice_set (slice_set (slice_set (zeroes n) (h + 1) 62) h 8) (h + 63) 4096

module _ (n h : ℕ) (fits : h + 64 ≤ n) where
  words_count : length (vector_words n h) ≡ n
  unfolding vector_words
  words_count = length-set (slice_set (slice_set (zeroes n) (h + 1) 62) h 8) (h + 63) 4096 ∙ length-set (slice_set (zeroes n) (h + 1) 62) h 8 ∙
      length-set (zeroes n) (h + 1) 62 ∙ zeroes_count n

  word_tag : slice_index (vector_words n h) h ≡ 8
  unfolding vector_words
  word_tag = let size : length (slice_set (zeroes n) (h + 1) 62) ≡ n = length-set (zeroes n) (h + 1) 62 ∙ zeroes_count n in
      get_or-set_other (slice_set (slice_set (zeroes n) (h + 1) 62) h 8) (h + 63) h 4096 0 (λ e. absurd (omega arith)) ∙
      get_or-set_same (slice_set (zeroes n) (h + 1) 62) h 8 0 (omega arith)

  word_fields : slice_index (vector_words n h) (h + 1) ≡ 62
  unfolding vector_words
  word_fields = let size = zeroes_count n in
      get_or-set_other (slice_set (slice_set (zeroes n) (h + 1) 62) h 8) (h + 63) (h + 1) 4096 0 (λ e. absurd (omega arith)) ∙
      get_or-set_other (slice_set (zeroes n) (h + 1) 62) h (h + 1) 8 0 (λ e. absurd (omega arith)) ∙
      get_or-set_same (zeroes n) (h + 1) 62 0 (omega arith)

  word_else : (x : ℕ) → x ≢ h → x ≢ h + 1 → x ≢ h + 63 → slice_index (vector_words n h) x ≡ 0
  unfolding vector_words
  word_else x a b c =
      get_or-set_other (slice_set (slice_set (zeroes n) (h + 1) 62) h 8) (h + 63) x 4096 0 c ∙
      get_or-set_other (slice_set (zeroes n) (h + 1) 62) h x 8 0 a ∙ get_or-set_other (zeroes n) (h + 1) x 62 0 b ∙ zeros n x

-- only the last field holds an address of the nursery
only_last : (n h x : ℕ) → h + 64 ≤ n → 4096 ≤ slice_index (vector_words n h) x → x ≡ h + 63
only_last n h x fits most = elim (cases_eq x (h + 63)) [
  | inl e ↦ e
  | inr c ↦ elim (cases_eq x h) [
    | inl e ↦ let w = ap (slice_index (vector_words n h)) e ∙ word_tag n h fits in absurd (omega arith)
    | inr a ↦ elim (cases_eq x (h + 1)) [
      | inl e ↦ let w = ap (slice_index (vector_words n h)) e ∙ word_fields n h fits in absurd (omega arith)
      | inr b ↦ let w = word_else n h fits x a b c in absurd (omega arith)
    ]
  ]
]

abbrev pub vector_space : Layout → List Shape → Contents
vector_space layout shapes = record (clear_space layout shapes) {
  blocks = slice_set (replicate layout.blocks Free) 0 (Swept 64);
  used = slice_set (zeroes layout.blocks) 0 1;
  words = vector_words (words_end layout) (old_base layout);
  cards = slice_set (slice_set (zeroes (cards_in layout)) 0 1) 1 1;
}

module _ (layout : Layout) (shapes : List Shape) (is_layout : IsLayout layout) (are_shapes : AreShapes shapes) (one : layout.blocks ≡ 1)
    (none : layout.pages ≡ 0) (shape : Shape) (first : slice_get shapes 0 ≡ Some shape) (vector : is_vector shape.kind ≡ true) where
  abbrev s : Contents
  s = vector_space layout shapes

  abbrev h : ℕ
  h = old_base layout

  block_is : (c : ℕ) → c < layout.blocks → block_in s c ≡ Swept 64
  block_is c l = let zero_is : c ≡ 0 = omega arith in let size : length (replicate layout.blocks Free) ≡ layout.blocks = length-replicate layout.blocks Free in
      ap (λ (d : ℕ). block_in s d) zero_is ∙ get_or-set_same (replicate layout.blocks Free) 0 (Swept 64) Free (omega arith)

  used_is : (c : ℕ) → c < layout.blocks → used_in s c ≡ 1
  used_is c l = let zero_is : c ≡ 0 = omega arith in let size = zeroes_count layout.blocks in
      ap (λ (d : ℕ). used_in s d) zero_is ∙ get_or-set_same (zeroes layout.blocks) 0 1 0 (omega arith)

  size_is : size_at s h ≡ 64
  size_is = ap (λ (n : ℕ). n + 2) (word_fields (words_end layout) h (omega arith))

  first_bit : (i : ℕ) → bit_at 1 i ≡ 1 → i ≡ 0
  first_bit i e = elim (cases_eq i 0) [ inl z ↦ z | inr n ↦ let o : bit_at 1 i ≡ 0 = bit_at-pow_other 0 i n in absurd (omega arith) ]

  vector_object : (g : ℕ) → owner_of h g ≡ Some g → IsObject s g
  vector_object g e = subst (λ (x : ℕ). IsObject s x) (sym (owns h g g e).0) (record {
    class = 0;
    shape = shape;
    shape_is = first;
    tag = word_tag (words_end layout) h (omega arith);
    size = λ no. absurd (true≢false (sym vector ∙ no));
  })

  slot_is : slot_size (size_at s h) ≡ 64
  unfolding slot_size
  slot_is = ap slot_size size_is

  vector_place : (g : ℕ) → owner_of h g ≡ Some g → IsPlaced s g
  vector_place g e = subst (λ (x : ℕ). IsPlaced s x) (sym (owns h g g e).0) (inr (inl (record {
    block = 0;
    slot = 0;
    there = omega arith;
    sized = subst (λ (b : BlockWord). IsOf b (slot_size (size_at s h))) (sym (block_is 0 (omega arith))) (sym slot_is);
    fits = subst (λ (n : ℕ). 0 < slots n) (sym slot_is) (omega arith);
    front = subst (λ (n : ℕ). h ≡ slot_base layout 0 n 0) (sym slot_is) (omega arith);
    taken = subst (λ (b : BlockWord). is_taken b (used_in s 0) (marks_in s 0) 0 ≡ 1) (sym (block_is 0 (omega arith)))
        (ap (λ (v : ℕ). bit_at v 0) (used_is 0 (omega arith)) ∙ bit_at-pow_same 0);
    small = let size = size_is in omega arith;
  })))

  module _ (c : ℕ) (l : c < layout.blocks) where
    size_of : (z : ℕ) → IsOf (block_in s c) z → 64 ≡ z
    size_of z o = subst (λ (b : BlockWord). IsOf b z) (block_is c l) o

    taken_first : (i : ℕ) → is_taken (block_in s c) (used_in s c) (marks_in s c) i ≡ 1 → i ≡ 0
    taken_first i e = first_bit i (sym (ap (λ (v : ℕ). bit_at v i) (used_is c l)) ∙
        subst (λ (b : BlockWord). is_taken b (used_in s c) (marks_in s c) i ≡ 1) (block_is c l) e)

    vector_filled : (z i : ℕ) → IsOf (block_in s c) z → is_taken (block_in s c) (used_in s c) (marks_in s c) i ≡ 1 →
        (i < slots z) × (owner_of h (slot_base layout c z i) ≡ Some (slot_base layout c z i))
    vector_filled z i o e =
        let start = taken_first i e in
        let first_slot : slot_base layout c z 0 ≡ h = omega arith in
        let place : slot_base layout c z i ≡ h = ap (λ (k : ℕ). slot_base layout c z k) start ∙ first_slot in
        let few : i < slots 64 = omega arith in (
          subst (λ (n : ℕ). i < slots n) (size_of z o) few,
          ap (owner_of h) place ∙ owned h h (omega arith) (omega arith) ∙ ap (λ (x : ℕ). Some x) (sym place),
        )

    vector_block : IsSoundBlock s (owner_of h) c
    vector_block = record {
      settled = λ z e. let f = block_is c l in cc;
      sized = λ z o. subst IsSizeClass (size_of z o) refl;
      bare = λ e. absurd (let f = block_is c l in cc);
      filled = vector_filled;
      marked = λ i b. let m = get_or-replicate layout.blocks c 0 0 l in let z = bit_at-zero i in
          absurd (let e = ap (λ (v : ℕ). bit_at v i) m in omega arith);
    }

  vector_owned : (x g : ℕ) → owner_of h x ≡ Some g → (g ≤ x) × (x < g + size_at s g) × (owner_of h g ≡ Some g)
  vector_owned x g e =
      let o = owns h x g e in
      let from = o.1 in
      let to = o.2 in
      let size = size_is in
      subst (λ (y : ℕ). (y ≤ x) × (x < y + size_at s y) × (owner_of h y ≡ Some y)) (sym o.0)
      (from, omega arith, owned h h (omega arith) (omega arith))

  vector_whole : (g x : ℕ) → owner_of h g ≡ Some g → g ≤ x → x < g + size_at s g → owner_of h x ≡ Some g
  vector_whole g x e from to =
      let is = (owns h g g e).0 in
      let end = subst (λ (y : ℕ). x < y + size_at s y) is to in
      let size = size_is in
      owned h x (omega arith) (omega arith) ∙ ap (λ (y : ℕ). Some y) (sym is)

  vector_sound : IsSoundBy s (owner_of h)
  vector_sound = let clear = clear_is_sound layout shapes is_layout are_shapes in record {
    words = words_count (words_end layout) h (omega arith);
    classes = clear.classes;
    owned = vector_owned;
    whole = vector_whole;
    objects = vector_object;
    places = vector_place;
    blocks = vector_block;
    pages = λ j l. absurd (omega arith);
    clear = λ x e above below garbage. let out = outside h x e in
        word_else (words_end layout) h (omega arith) x (λ e. absurd (omega (arith, out))) (λ e. absurd (omega (arith, out))) (λ e. absurd (omega (arith, out)));
    fragments = clear.fragments;
    ordered = clear.ordered;
    apart = clear.apart;
    addresses = clear.addresses;
    free = λ f x below from to. let o = clear.ordered f below in free_of h x (omega arith);
  }

  pub vector_is_sound : IsSound s
  vector_is_sound = (owner_of h, vector_sound)

  pub vector_is_carded : AreCarded s
  vector_is_carded = λ owner sound x q.
      let young = q.young in
      let address = young.1 in
      let above = young.2.0 in
      let last = only_last (words_end layout) h x (omega arith) (omega arith) in
      let card : card_of layout x ≡ 0 = omega arith in
      let size : length (zeroes (cards_in layout)) ≡ cards_in layout = zeroes_count (cards_in layout) in
      ap (slice_index s.cards) card ∙ get_or-set_other (slice_set (zeroes (cards_in layout)) 0 1) 1 0 1 0 (λ e. absurd (omega arith)) ∙
      get_or-set_same (zeroes (cards_in layout)) 0 1 0 (omega arith)

-- how it is made
step_block : Contents → Contents
step_block t = record t { blocks = slice_set t.blocks 0 (Swept 64) }

step_used : Contents → Contents
step_used t = record t { used = slice_set t.used 0 1 }

step_word : Contents → ℕ → ℕ → Contents
step_word t x v = record t { words = slice_set t.words x v }

step_card : Contents → ℕ → Contents
step_card t c = record t { cards = slice_set t.cards c 1 }

pub vector_made : (layout : Layout) (shapes : List Shape) (s0 s1 s2 s3 s4 s5 s6 s7 : Contents) (a b d : ℕ) → word_at a ≡ old_base layout + 1 →
    word_at b ≡ old_base layout → word_at d ≡ old_base layout + 63 → s0 ≡ clear_space layout shapes →
    s1 ≡ record s0 { blocks = slice_set s0.blocks 0 (Swept 64) } → s2 ≡ record s1 { used = slice_set s1.used 0 1 } →
    s3 ≡ record s2 { words = slice_set s2.words (word_at a) 62 } → s4 ≡ record s3 { words = slice_set s3.words (word_at b) 8 } →
    s5 ≡ record s4 { words = slice_set s4.words (word_at d) 4096 } → s6 ≡ record s5 { cards = slice_set s5.cards 0 1 } →
    s7 ≡ record s6 { cards = slice_set s6.cards 1 1 } → s7 ≡ vector_space layout shapes
unfolding step_block step_used step_word step_card vector_words
vector_made layout shapes s0 s1 s2 s3 s4 s5 s6 s7 a b d is_a is_b is_d e0 e1 e2 e3 e4 e5 e6 e7 =
    let t1 = e1 ∙ ap step_block e0 in
    let t2 = e2 ∙ ap step_used t1 in
    let t3 = e3 ∙ ap (λ (x : ℕ). step_word s2 x 62) is_a ∙ ap (λ (t : Contents). step_word t (old_base layout + 1) 62) t2 in
    let t4 = e4 ∙ ap (λ (x : ℕ). step_word s3 x 8) is_b ∙ ap (λ (t : Contents). step_word t (old_base layout) 8) t3 in
    let t5 = e5 ∙ ap (λ (x : ℕ). step_word s4 x 4096) is_d ∙ ap (λ (t : Contents). step_word t (old_base layout + 63) 4096) t4 in
    let t6 = e6 ∙ ap (λ (t : Contents). step_card t 0) t5 in
    e7 ∙ ap (λ (t : Contents). step_card t 1) t6
