-- A space with two young objects and two in a block, made by hand for a test, holds their graph.
use Rattle.std.proofs.Common.{◌≡◌, ◌≢◌, ℕ, zero, suc, ◌+◌, ◌*◌, ◌/◌, ◌%◌, ◌^◌, ◌<◌, ◌≤◌, ◌⊎◌, inl, inr, eqb, ltb, cond, true, false, List, [], ◌∷◌, length, get_or, set, replicate, slice_index, refl, sym, ap, ◌∙◌, subst, arith}
use Rattle.std.proofs.lemmas.Bool.{cond-true, cond-false, cases_eq, cases_lt, eq-eqb, ne_eqb, ltb-true, lt-ltb, le-ltb}
use Rattle.std.proofs.lemmas.List.{get_or-replicate, get_or_past, length-replicate, get_or-set_same, get_or-set_other}
use Rattle.std.proofs.Math.ListN.{length-set}
use Rattle.std.proofs.lemmas.Nat.Bits.{bit_at-zero}
use Rattle.std.proofs.lemmas.Nat.{pow_pos}
use Rattle.std.proofs.Math.Nat.{div-eq_of_lt}
use Rattle.std.specs.Int.{bit_at}
use Rattle.sg_words.specs.Blocks.{slots, slot_size, IsSizeClass, IsOf}
use Rattle.sg_words.specs.declared.layout.Layout.{Layout}
use Rattle.sg_words.specs.declared.steps.BlockWord.{BlockWord}
use Rattle.sg_words.specs.declared.steps.BlockWord.TheVariants.{Free, Swept, Sweeping}
use Rattle.sg_desc.specs.declared.shapes.Shape.{Shape}
use Rattle.sg_desc.specs.declared.shapes.Descriptor.TheVariants.{PtrFree}
use Rattle.sg_program.specs.declared.program.Program.{Program}
use Rattle.sg_program.specs.Scripts.{words_for}
use Rattle.sg_graph.specs.Graph.{Graph, Int, no_objects}
use Rattle.sg_graph.specs.Book.{Book, Young, Old, slot_words, block_at}
use Rattle.sg_graph.specs.Blocks.{IsOldAt, IsBlock, IsTakenAt, IsClear, AreSettled}
use Rattle.sg_graph.specs.Heap.{Owner, Of, Frag, Nobody, IsLaid, IsHeap}
use Rattle.sg_space.specs.Space.{Contents, clear_space, words_of}
use Rattle.sg_space.specs.Standing.{word}
use Rattle.sg_heap.specs.Holding.{IsSpaceOf}
use Rattle.sg_sections.specs.Parts.{HoldsSwept}

abbrev pub layout : Layout
layout = record { nursery = 256; blocks = 2; pages = 0 }

abbrev pub shapes : List Shape
shapes = record { fields = 3; kind = PtrFree } ∷ []

abbrev program : Program
program = record {
  config = record { nursery = 256; blocks = 2; pages = 0; buffer = 32; workers = 1; cement = 1 };
  classes = record { name = []; shape = record { fields = 3; kind = PtrFree } } ∷ [];
  mutators = [];
}

abbrev size : ℕ → ℕ
size zero = 0
size (suc n) = 3

abbrev address : ℕ → ℕ
address zero = 0
address (suc zero) = 512
address (suc (suc zero)) = 517
address (suc (suc (suc zero))) = 1024
address (suc (suc (suc (suc n)))) = 1036

abbrev graph : Graph
graph = record (no_objects program) { count = 4; size = size; field = λ n i. Int 0 }

abbrev book : Book
book = record {
  stands = λ n. ltb n 5;
  address = address;
  section = λ n. cond (ltb n 3) Young Old;
  owed = λ _. false;
  fragments = 1;
  next = λ _. 522;
  limit = λ _. 768;
  from = λ _. 0;
  to = λ _. 0;
}

-- a space of these words, with the next word of its fragment, its blocks and their occupancies
abbrev pub with_words : List ℕ → ℕ → List BlockWord → List ℕ → List ℕ → Contents
with_words words next blocks used cards = record (clear_space layout shapes) { words = words; next = next ∷ []; blocks = blocks; used = used; cards = cards }

abbrev pub final : List ℕ → List ℕ → Contents
final words cards = with_words words 4176 (Free ∷ Swept 6 ∷ []) (0 ∷ 5 ∷ []) cards

-- what the words hold
abbrev seen : ℕ → ℕ
seen y = cond (eqb y 1036) 8 (cond (eqb y 1037) 3 (cond (eqb y 1024) 8 (cond (eqb y 1025) 3 (cond (eqb y 517) 8 (cond (eqb y 518) 3 (cond (eqb y 512) 8 (cond (eqb y 513) 3 0)))))))

other : (y k v w : ℕ) → y ≢ k → cond (eqb y k) v w ≡ w
other y k v w ne = cond-false _ _ _ (ne_eqb y k ne)

-- y is no first or second word of an object
record IsBare (y : ℕ) : Type 0 where
  pub first : (y ≢ 512) × (y ≢ 513)
  pub second : (y ≢ 517) × (y ≢ 518)
  pub third : (y ≢ 1024) × (y ≢ 1025)
  pub fourth : (y ≢ 1036) × (y ≢ 1037)

seen_bare : (y : ℕ) → IsBare y → seen y ≡ 0
seen_bare y h =
    other y 1036 _ _ h.fourth.0 ∙ other y 1037 _ _ h.fourth.1 ∙ other y 1024 _ _ h.third.0 ∙ other y 1025 _ _ h.third.1
    ∙ other y 517 _ _ h.second.0 ∙ other y 518 _ _ h.second.1 ∙ other y 512 _ _ h.first.0 ∙ other y 513 _ _ h.first.1

-- each word's owner
abbrev owner : ℕ → Owner
owner x = cond (ltb x 2) (Of 0) (cond (ltb x 512) Nobody (cond (ltb x 517) (Of 1) (cond (ltb x 522) (Of 2) (cond (ltb x 768) (Frag 0)
    (cond (ltb x 1024) Nobody (cond (ltb x 1029) (Of 3) (cond (ltb x 1036) Nobody (cond (ltb x 1041) (Of 4) Nobody))))))))

past : (x k : ℕ) (a b : Owner) → k ≤ x → cond (ltb x k) a b ≡ b
past x k a b l = cond-false _ _ _ (le-ltb x k l)

before : (x k : ℕ) (a b : Owner) → x < k → cond (ltb x k) a b ≡ a
before x k a b l = cond-true _ _ _ (lt-ltb x k l)

at_nothing : (x : ℕ) → x < 2 → owner x ≡ Of 0
at_nothing x l = before x 2 _ _ l

at_first : (x : ℕ) → 512 ≤ x → x < 517 → owner x ≡ Of 1
at_first x from to = past x 2 _ _ (omega arith) ∙ past x 512 _ _ from ∙ before x 517 _ _ to

at_second : (x : ℕ) → 517 ≤ x → x < 522 → owner x ≡ Of 2
at_second x from to = past x 2 _ _ (omega arith) ∙ past x 512 _ _ (omega arith) ∙ past x 517 _ _ from ∙ before x 522 _ _ to

at_rest : (x : ℕ) → 522 ≤ x → x < 768 → owner x ≡ Frag 0
at_rest x from to = past x 2 _ _ (omega arith) ∙ past x 512 _ _ (omega arith) ∙ past x 517 _ _ (omega arith) ∙ past x 522 _ _ from ∙ before x 768 _ _ to

behind_nursery : (x : ℕ) → 768 ≤ x → owner x ≡ cond (ltb x 1024) Nobody (cond (ltb x 1029) (Of 3) (cond (ltb x 1036) Nobody (cond (ltb x 1041) (Of 4) Nobody)))
behind_nursery x from = past x 2 _ _ (omega arith) ∙ past x 512 _ _ (omega arith) ∙ past x 517 _ _ (omega arith) ∙ past x 522 _ _ (omega arith) ∙ past x 768 _ _ from

at_third : (x : ℕ) → 1024 ≤ x → x < 1029 → owner x ≡ Of 3
at_third x from to = behind_nursery x (omega arith) ∙ past x 1024 _ _ from ∙ before x 1029 _ _ to

at_fourth : (x : ℕ) → 1036 ≤ x → x < 1041 → owner x ≡ Of 4
at_fourth x from to = behind_nursery x (omega arith) ∙ past x 1024 _ _ (omega arith) ∙ past x 1029 _ _ (omega arith) ∙ past x 1036 _ _ from ∙ before x 1041 _ _ to

-- what holds in each range holds of each word and its owner
ranges : (P : ℕ → Owner → Type 0) → ((x : ℕ) → x < 2 → P x (Of 0)) → ((x : ℕ) → 512 ≤ x → x < 517 → P x (Of 1)) → ((x : ℕ) → 517 ≤ x → x < 522 → P x (Of 2)) →
    ((x : ℕ) → P x (Frag 0)) → ((x : ℕ) → 1024 ≤ x → x < 1029 → P x (Of 3)) → ((x : ℕ) → 1036 ≤ x → x < 1041 → P x (Of 4)) → ((x : ℕ) → P x Nobody) → (x : ℕ) → P x (owner x)
ranges P nothing first second rest third fourth nobody x = elim (cases_lt x 2) [
  | inl l ↦ subst (P x) (sym (at_nothing x l)) (nothing x l)
  | inr a ↦ elim (cases_lt x 512) [
    | inl l ↦ subst (P x) (sym (past x 2 _ _ a ∙ before x 512 _ _ l)) (nobody x)
    | inr a ↦ elim (cases_lt x 517) [
      | inl l ↦ subst (P x) (sym (at_first x a l)) (first x a l)
      | inr a ↦ elim (cases_lt x 522) [
        | inl l ↦ subst (P x) (sym (at_second x a l)) (second x a l)
        | inr a ↦ elim (cases_lt x 768) [
          | inl l ↦ subst (P x) (sym (at_rest x a l)) (rest x)
          | inr a ↦ subst (P x) (sym (behind_nursery x a)) (behind x)
        ]
      ]
    ]
  ]
]
  where
    behind : (x : ℕ) → P x (cond (ltb x 1024) Nobody (cond (ltb x 1029) (Of 3) (cond (ltb x 1036) Nobody (cond (ltb x 1041) (Of 4) Nobody))))
    behind x = elim (cases_lt x 1024) [
      | inl l ↦ subst (P x) (sym (before x 1024 _ _ l)) (nobody x)
      | inr a ↦ elim (cases_lt x 1029) [
        | inl l ↦ subst (P x) (sym (past x 1024 _ _ a ∙ before x 1029 _ _ l)) (third x a l)
        | inr b ↦ elim (cases_lt x 1036) [
          | inl l ↦ subst (P x) (sym (past x 1024 _ _ a ∙ past x 1029 _ _ b ∙ before x 1036 _ _ l)) (nobody x)
          | inr c ↦ elim (cases_lt x 1041) [
            | inl l ↦ subst (P x) (sym (past x 1024 _ _ a ∙ past x 1029 _ _ b ∙ past x 1036 _ _ c ∙ before x 1041 _ _ l)) (fourth x c l)
            | inr d ↦ subst (P x) (sym (past x 1024 _ _ a ∙ past x 1029 _ _ b ∙ past x 1036 _ _ c ∙ past x 1041 _ _ d)) (nobody x)
          ]
        ]
      ]
    ]

abbrev IsOwn : ℕ → ℕ → Type 0
IsOwn n x = (ltb n 5 ≡ true) × (address n ≤ x) × (x < address n + words_for (size n))

own : (m n x : ℕ) → IsOwn m x → Of m ≡ Of n → IsOwn n x
own m n x h e = let same : m ≡ n = cc in subst (λ k. IsOwn k x) same h

owned : (n x : ℕ) → owner x ≡ Of n → IsOwn n x
owned n x = ranges (λ y o. o ≡ Of n → IsOwn n y)
    (λ y l e. own 0 n y (refl, omega arith, omega arith) e)
    (λ y a l e. own 1 n y (refl, a, l) e)
    (λ y a l e. own 2 n y (refl, a, l) e)
    (λ y e. absurd (let f = e in cc))
    (λ y a l e. own 3 n y (refl, a, l) e)
    (λ y a l e. own 4 n y (refl, a, l) e)
    (λ y e. absurd (let f = e in cc)) x

-- what holds of each of the four objects
objects : (P : ℕ → Type 0) → P 1 → P 2 → P 3 → P 4 → (n : ℕ) → 1 ≤ n → ltb n 5 ≡ true → P n
objects P a b c d zero some e = absurd (omega arith)
objects P a b c d (suc zero) some e = a
objects P a b c d (suc (suc zero)) some e = b
objects P a b c d (suc (suc (suc zero))) some e = c
objects P a b c d (suc (suc (suc (suc zero)))) some e = d
objects P a b c d (suc (suc (suc (suc (suc n))))) some e = absurd (let l = ltb-true _ _ e in omega arith)

owns : (n x : ℕ) → ltb n 5 ≡ true → address n ≤ x → x < address n + words_for (size n) → owner x ≡ Of n
owns zero x e from to = at_nothing x to
owns (suc n) x e from to = objects (λ m. address m ≤ x → x < address m + words_for (size m) → owner x ≡ Of m)
    (at_first x) (at_second x) (at_third x) (at_fourth x) (suc n) (omega arith) e from to

-- the bits of 5
bits_of_five : (P : ℕ → Type 0) → P 0 → P 2 → (i : ℕ) → bit_at 5 i ≡ 1 → P i
bits_of_five P a b zero e = a
bits_of_five P a b (suc zero) e = absurd (let f = e in omega arith)
bits_of_five P a b (suc (suc zero)) e = b
bits_of_five P a b (suc (suc (suc i))) e = absurd (let f = sym (no_more i) ∙ e in omega arith)
  where
    no_more : (i : ℕ) → bit_at 5 (suc (suc (suc i))) ≡ 0
    no_more i =
        let big : 8 ≤ 2 ^ suc (suc (suc i)) = (let pos = pow_pos i in omega arith) in
        let none : 5 / 2 ^ suc (suc (suc i)) ≡ 0 = div-eq_of_lt (omega arith) in
        ap (λ z. z % 2) none

module _ (words cards : List ℕ) (reads : (y : ℕ) → get_or words y 0 ≡ seen y) where
  abbrev made : Contents
  made = final words cards

  bare : (y : ℕ) → IsBare y → word made y ≡ 0
  bare y h = reads y ∙ seen_bare y h

  between : (y : ℕ) → 519 ≤ y → y < 1024 → word made y ≡ 0
  between y from to = bare y (record { first = (omega arith, omega arith); second = (omega arith, omega arith); third = (omega arith, omega arith); fourth = (omega arith, omega arith) })

  behind : (y : ℕ) → 1038 ≤ y → word made y ≡ 0
  behind y from = bare y (record { first = (omega arith, omega arith); second = (omega arith, omega arith); third = (omega arith, omega arith); fourth = (omega arith, omega arith) })

  in_field : (n i : ℕ) → 1 ≤ n → ltb n 5 ≡ true → i < 3 → word made (address n + 2 + i) ≡ 0
  in_field n i some stands l = objects (λ m. word made (address m + 2 + i) ≡ 0)
      (bare _ (record { first = (omega arith, omega arith); second = (omega arith, omega arith); third = (omega arith, omega arith); fourth = (omega arith, omega arith) }))
      (bare _ (record { first = (omega arith, omega arith); second = (omega arith, omega arith); third = (omega arith, omega arith); fourth = (omega arith, omega arith) }))
      (bare _ (record { first = (omega arith, omega arith); second = (omega arith, omega arith); third = (omega arith, omega arith); fourth = (omega arith, omega arith) }))
      (bare _ (record { first = (omega arith, omega arith); second = (omega arith, omega arith); third = (omega arith, omega arith); fourth = (omega arith, omega arith) }))
      n some stands

  some_size : (n i : ℕ) → i < size n → (1 ≤ n) × (i < 3)
  some_size zero i l = absurd (let k = l in omega arith)
  some_size (suc n) i l = (omega arith, l)

  young_clear : (x : ℕ) → 512 ≤ x → x < 768 → ((n : ℕ) → owner x ≢ Of n) → word made x ≡ 0
  young_clear x from to none = elim (cases_lt x 517) [
    | inl l ↦ absurd (none 1 (at_first x from l))
    | inr a ↦ elim (cases_lt x 522) [
      | inl l ↦ absurd (none 2 (at_second x a l))
      | inr a ↦ between x (omega arith) (omega arith)
    ]
  ]

  old_clear : (x : ℕ) → 1024 ≤ x → ((n : ℕ) → owner x ≢ Of n) → word made x ≡ 0
  old_clear x from none = elim (cases_lt x 1029) [
    | inl l ↦ absurd (none 3 (at_third x from l))
    | inr a ↦ elim (cases_lt x 1036) [
      | inl l ↦ bare x (record { first = (omega arith, omega arith); second = (omega arith, omega arith); third = (omega arith, omega arith); fourth = (omega arith, omega arith) })
      | inr c ↦ elim (cases_lt x 1041) [
        | inl l ↦ absurd (none 4 (at_fourth x c l))
        | inr d ↦ behind x (omega arith)
      ]
    ]
  ]

  laid : IsLaid program (word made) graph book owner
  laid = record {
    nothing = record { stands_nil = refl; at_nil = refl; no_size = refl };
    objects = record {
      given = λ n stands. (let l = ltb-true n 5 stands in omega arith);
      shaped = λ n some stands. (let l = ltb-true n 5 stands in (omega arith, objects (λ m. (size m ≤ 62) × (false ≡ false → size m ≡ 3)) (omega arith, λ e. refl) (omega arith, λ e. refl) (omega arith, λ e. refl) (omega arith, λ e. refl) n some stands));
      owns = owns;
      owned = owned;
      inside = objects (λ m. ((book.section m ≡ Young) × (512 ≤ address m) × (address m + words_for (size m) ≤ 768)) ⊎ ((book.section m ≡ Old) × (768 ≤ address m) × (address m + words_for (size m) ≤ 1280)))
          (inl (refl, omega arith, omega arith)) (inl (refl, omega arith, omega arith)) (inr (refl, omega arith, omega arith)) (inr (refl, omega arith, omega arith));
    };
    fields = record {
      holds = λ n i stands l. (let k = some_size n i l in in_field n i k.0 stands k.1);
      known = λ n i stands l. tt;
      sorted = λ n i stands l. tt;
    };
    globals = record {
      holds = λ x l. behind (1280 + x) (omega arith);
      known = λ x l. (refl, inl refl);
      empty = λ x from to. behind x (omega arith);
    };
    clear = record { large = λ x from to. absurd (omega arith); clear = young_clear };
    fragments = record {
      owns = λ f x l from to. at_rest x from to ∙ ap Frag (let e : 0 ≡ f = omega arith in e);
      inside = λ f l. (omega arith, omega arith, omega arith);
      ordered = λ f j l m. absurd (omega arith);
    };
    buffers = record {
      owns = λ k x from to. absurd (omega arith);
      inside = λ k l. absurd (omega arith);
    };
  }

  heap : IsHeap program (word made) graph book owner
  heap = record {
    laid = laid;
    headed = objects (λ m. (word made (address m) ≡ 8) × (word made (address m + 1) ≡ size m))
        (reads 512, reads 513) (reads 517, reads 518) (reads 1024, reads 1025) (reads 1036, reads 1037);
  }

  six : slot_words 3 ≡ 6
  unfolding slot_size
  six = refl

  in_slot : (i : ℕ) → bit_at 5 i ≡ 1 → (n : ℕ) × IsOldAt size book.stands address book.section n (1024 + 6 * i) 6
  in_slot = bits_of_five (λ i. (n : ℕ) × IsOldAt size book.stands address book.section n (1024 + 6 * i) 6)
      (3, record { some = omega arith; standing = refl; old = refl; at = refl; sized = six })
      (4, record { some = omega arith; standing = refl; old = refl; at = refl; sized = six })

  first_block : IsBlock program 0 size book.stands address book.section book.owed 0 Free 0
  first_block = record {
    filled = λ z i of fits taken. absurd of;
    bare = λ e. refl;
    owing = λ z owing. absurd owing;
    kept = λ z i owing set. absurd owing;
    unmarked = λ e. refl;
    within = λ z e i set. absurd (let k = e in cc);
  }

  second_block : IsBlock program 0 size book.stands address book.section book.owed 1 (Swept 6) 5
  second_block = record {
    filled = λ z i of fits taken. subst (λ y. (n : ℕ) × IsOldAt size book.stands address book.section n (1024 + y * i) y) of (in_slot i taken);
    bare = λ e. absurd (let k = e in cc);
    owing = λ z owing. absurd owing;
    kept = λ z i owing set. absurd owing;
    unmarked = λ e. refl;
    within = λ z e i set. absurd (let k = sym (bit_at-zero i) ∙ set in omega arith);
  }

  -- what holds of each block
  each_block : (P : ℕ → Type 0) → P 0 → P 1 → (c : ℕ) → c < 2 → P c
  each_block P a b zero l = a
  each_block P a b (suc zero) l = b
  each_block P a b (suc (suc c)) l = absurd (omega arith)

  abbrev state : ℕ → BlockWord
  state c = (words_of made).block c

  abbrev IsPlacedOld : ℕ → Type 0
  IsPlacedOld m = book.section m ≡ Old → (c : ℕ) × (c < 2) × IsTakenAt program ((words_of made).marks c) (address m) (slot_words (size m)) c (state c) ((words_of made).used c)

  in_second : (x i : ℕ) → i < 42 → bit_at 5 i ≡ 1 → x ≡ 1024 + 6 * i → (c : ℕ) × (c < 2) × IsTakenAt program ((words_of made).marks c) x (slot_words 3) c (state c) ((words_of made).used c)
  in_second x i fits set at = (1, omega arith, subst (λ z. IsTakenAt program 0 x z 1 (Swept 6) 5) (sym six) (record { slot = i; fits = fits; address = at; of = refl; taken = set }))

  placed : (n : ℕ) → 1 ≤ n → ltb n 5 ≡ true → IsPlacedOld n
  placed = objects IsPlacedOld (λ e. absurd (let k = e in cc)) (λ e. absurd (let k = e in cc))
      (λ e. in_second 1024 0 (omega arith) refl refl) (λ e. in_second 1036 2 (omega arith) refl refl)

  settled : AreSettled program (words_of made) graph book owner
  settled = record {
    blocks = record {
      placed = placed;
      each = each_block (λ c. IsBlock program ((words_of made).marks c) size book.stands address book.section book.owed c (state c) ((words_of made).used c)) first_block second_block;
      clear = each_block (λ c. IsClear program ((words_of made).marks c) (word made) owner c (state c))
          (λ x from to none clean. between x (omega arith) (omega arith)) (λ x from to none clean. old_clear x from none);
      sized = λ c z l. each_block (λ c. (z : ℕ) → IsOf (state c) z → IsSizeClass z) (λ z of. absurd of) (λ z of. subst IsSizeClass of refl) c l z;
    };
    settled = λ c z l. each_block (λ c. (z : ℕ) → state c ≡ Sweeping z → ⊥) (λ z e. let k = e in cc) (λ z e. let k = e in cc) c l z;
    inhabited = λ c z l. each_block (λ c. (z : ℕ) → state c ≡ Swept z → (n : ℕ) × (1 ≤ n) × (ltb n 5 ≡ true) × (block_at program c ≤ address n) × (address n < block_at program c + 256))
        (λ z e. absurd (let k = e in cc)) (λ z e. (3, omega arith, refl, omega arith, omega arith)) c l z;
    owes = λ c l e. absurd (let k = e in cc);
    cards = record { dirty = λ n i m some stands old l strong. absurd (let k = strong in cc) };
  }

  first_only : (P : ℕ → Type 0) → P 0 → (f : ℕ) → f < 1 → P f
  first_only P a zero l = a
  first_only P a (suc f) l = absurd (omega arith)

  space : IsSpaceOf program made book
  space = record {
    layout = refl;
    shapes = refl;
    fragments = refl;
    same = refl;
    next = first_only (λ f. slice_index (4176 ∷ []) f ≡ 4176) refl;
    limit = first_only (λ f. slice_index (6144 ∷ []) f ≡ 6144) refl;
    fits = λ c z i l. each_block (λ c. (z i : ℕ) → state c ≡ Swept z → bit_at ((words_of made).used c) i ≡ 1 → i < slots z)
        (λ z i e set. absurd (let k = e in cc))
        (λ z i e set. (let size : 6 ≡ z = cc in subst (λ y. i < slots y) size (bits_of_five (λ k. k < 42) (omega arith) (omega arith) i set))) c l z i;
    pages = λ j. get_or_past [] j 0 (omega arith);
    head = refl;
    made = refl;
    registered = refl;
    pairs = refl;
  }

  pub holds : HoldsSwept (final words cards)
  holds = (program, graph, book, (space, (owner, heap, settled)), λ c l. refl)

-- the words after an object of three fields was written at x
abbrev pub written : ℕ → List ℕ → List ℕ
written x words = set (set words (x + 1) 3) x 8

read_written : (x y : ℕ) (words : List ℕ) → x + 1 < length words → get_or (written x words) y 0 ≡ cond (eqb y x) 8 (cond (eqb y (x + 1)) 3 (get_or words y 0))
read_written x y words l = elim (cases_eq y x) [
  | inl e ↦ subst (λ z. get_or (written x words) z 0 ≡ cond (eqb z x) 8 (cond (eqb z (x + 1)) 3 (get_or words z 0))) (sym e)
      (get_or-set_same (set words (x + 1) 3) x 8 0 (omega (arith, length-set words (x + 1) 3)) ∙ sym (cond-true _ _ _ (eq-eqb x x refl)))
  | inr d ↦ get_or-set_other (set words (x + 1) 3) x y 8 0 d ∙ (elim (cases_eq y (x + 1)) [
    | inl e ↦ subst (λ z. get_or (set words (x + 1) 3) z 0 ≡ cond (eqb y x) 8 (cond (eqb y (x + 1)) 3 (get_or words y 0))) (sym e)
        (get_or-set_same words (x + 1) 3 0 l ∙ sym (other y x _ _ d ∙ cond-true _ _ _ (eq-eqb y (x + 1) e)))
    | inr f ↦ get_or-set_other words (x + 1) y 3 0 f ∙ sym (other y x _ _ d ∙ other y (x + 1) _ _ f)
  ])
]

many_written : (x : ℕ) (words : List ℕ) → length (written x words) ≡ length words
many_written x words = length-set (set words (x + 1) 3) x 8 ∙ length-set words (x + 1) 3

abbrev pub all_written : List ℕ → List ℕ
all_written words = written 1036 (written 1024 (written 517 (written 512 words)))

all_read : (zeros : List ℕ) → length zeros ≡ 2432 → ((y : ℕ) → get_or zeros y 0 ≡ 0) → (y : ℕ) → get_or (all_written zeros) y 0 ≡ seen y
all_read zeros long none y =
    let one = many_written 512 zeros in
    let two = many_written 517 (written 512 zeros) in
    let three = many_written 1024 (written 517 (written 512 zeros)) in
    read_written 1036 y (written 1024 (written 517 (written 512 zeros))) (omega arith)
    ∙ ap (λ z. cond (eqb y 1036) 8 (cond (eqb y 1037) 3 z)) (read_written 1024 y (written 517 (written 512 zeros)) (omega arith)
    ∙ ap (λ z. cond (eqb y 1024) 8 (cond (eqb y 1025) 3 z)) (read_written 517 y (written 512 zeros) (omega arith)
    ∙ ap (λ z. cond (eqb y 517) 8 (cond (eqb y 518) 3 z)) (read_written 512 y zeros (omega arith)
    ∙ ap (λ z. cond (eqb y 512) 8 (cond (eqb y 513) 3 z)) (none y))))

all_zero : (n y : ℕ) → slice_index (replicate n 0) y ≡ 0
all_zero n y = elim (cases_lt y n) [
  | inl l ↦ get_or-replicate n y 0 0 l
  | inr far ↦ get_or_past (replicate n 0) y 0 (let many = length-replicate {A = ℕ} n 0 in omega arith)
]

-- the space before its first object, of which the words and the cards are named
abbrev pub bare_space : List ℕ → List ℕ → Contents
bare_space words cards = with_words words 4096 (Free ∷ Free ∷ []) (0 ∷ 0 ∷ []) cards

pub bare_is : (s : Contents) → s ≡ clear_space layout shapes → s ≡ bare_space s.words s.cards
bare_is s e = e ∙ ap (λ (z : Contents). bare_space z.words z.cards) (sym e)

pub written_over : (s t : Contents) (x : ℕ) (words : List ℕ) (next : ℕ) (blocks : List BlockWord) (used cards : List ℕ) → s ≡ with_words words next blocks used cards →
    t ≡ record s { words = set (set s.words (x + 1) 3) x 8 } → t ≡ with_words (written x words) next blocks used cards
written_over s t x words next blocks used cards e f = f ∙ ap (λ (z : Contents). record z { words = set (set z.words (x + 1) 3) x 8 }) e

-- from the clear space by the steps of the test
pub four_made : (s0 s1 s2 s3 s4 s5 s6 s7 : Contents) → s0 ≡ clear_space layout shapes → s1 ≡ record s0 { next = set s0.next 0 4176 } →
    s2 ≡ record s1 { blocks = set s1.blocks 1 (Swept 6) } → s3 ≡ record s2 { used = set s2.used 1 5 } →
    s4 ≡ record s3 { words = set (set s3.words 513 3) 512 8 } → s5 ≡ record s4 { words = set (set s4.words 518 3) 517 8 } →
    s6 ≡ record s5 { words = set (set s5.words 1025 3) 1024 8 } → s7 ≡ record s6 { words = set (set s6.words 1037 3) 1036 8 } →
    HoldsSwept s7
four_made s0 s1 s2 s3 s4 s5 s6 s7 e0 e1 e2 e3 e4 e5 e6 e7 =
    let words = s0.words in
    let cards = s0.cards in
    let f0 = bare_is s0 e0 in
    let f1 : s1 ≡ with_words words 4176 (Free ∷ Free ∷ []) (0 ∷ 0 ∷ []) cards = e1 ∙ ap (λ (z : Contents). record z { next = set z.next 0 4176 }) f0 in
    let f2 : s2 ≡ with_words words 4176 (Free ∷ Swept 6 ∷ []) (0 ∷ 0 ∷ []) cards = e2 ∙ ap (λ (z : Contents). record z { blocks = set z.blocks 1 (Swept 6) }) f1 in
    let f3 : s3 ≡ with_words words 4176 (Free ∷ Swept 6 ∷ []) (0 ∷ 5 ∷ []) cards = e3 ∙ ap (λ (z : Contents). record z { used = set z.used 1 5 }) f2 in
    let f4 = written_over s3 s4 512 words 4176 (Free ∷ Swept 6 ∷ []) (0 ∷ 5 ∷ []) cards f3 e4 in
    let f5 = written_over s4 s5 517 (written 512 words) 4176 (Free ∷ Swept 6 ∷ []) (0 ∷ 5 ∷ []) cards f4 e5 in
    let f6 = written_over s5 s6 1024 (written 517 (written 512 words)) 4176 (Free ∷ Swept 6 ∷ []) (0 ∷ 5 ∷ []) cards f5 e6 in
    let f7 = written_over s6 s7 1036 (written 1024 (written 517 (written 512 words))) 4176 (Free ∷ Swept 6 ∷ []) (0 ∷ 5 ∷ []) cards f6 e7 in
    let clear : words ≡ replicate 2432 0 = ap (λ (z : Contents). z.words) e0 in
    let long : length words ≡ 2432 = ap length clear ∙ length-replicate {A = ℕ} 2432 0 in
    subst HoldsSwept (sym f7) (holds (all_written words) cards (all_read words long (λ y. ap (λ (z : List ℕ). get_or z y 0) clear ∙ all_zero 2432 y)))
