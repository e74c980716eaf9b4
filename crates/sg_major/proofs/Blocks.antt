-- The blocks, one after another: their marks are taken away, and the swept ones become owed.
use Rattle.std.proofs.Common.{◌≡◌, ℕ, ◌+◌, ◌≤◌, ◌<◌, List, length, slice_index, slice_set, slice_index_or, refl, sym, ap, ◌∙◌, subst, inl, inr, arith}
use Rattle.std.proofs.lemmas.Bool.{cases_eq, cases_lt}
use Rattle.std.proofs.lemmas.List.{length-set, get_or-set_same, get_or-set_other, get_or_past}
use Rattle.sg_words.specs.declared.steps.BlockWord.{BlockWord}
use Rattle.sg_words.specs.declared.steps.BlockWord.TheVariants.{Free, Swept, Need, Sweeping}
use Rattle.sg_space.specs.Space.{Contents, IsContents}
use Rattle.sg_space.specs.Standing.{block_in, marks_in}
use Rattle.sg_major.specs.Parts.{IsUnmarked, OwesBlocks, owed_word}

-- the marks of the first n blocks are taken away
pub record UnmarkedBelow (s t : Contents) (n : ℕ) : Type 0 where
  pub same : t ≡ record s { marks = t.marks }
  pub as_many : length t.marks ≡ length s.marks
  pub none : (c : ℕ) → c < n → marks_in t c ≡ 0

pub unmarked_none : (s : Contents) → UnmarkedBelow s s 0
unmarked_none s = record { same = refl; as_many = refl; none = λ c l. absurd (omega arith) }

pub unmarked_more : (s t u : Contents) (n : ℕ) → UnmarkedBelow s t n → n < length s.marks → u ≡ record t { marks = slice_set t.marks n 0 } → UnmarkedBelow s u (n + 1)
unmarked_more s t u n h l e =
    let marks : u.marks ≡ slice_set t.marks n 0 = ap (λ (z : Contents). z.marks) e in
    let many = h.as_many in
    record {
      same = e ∙ ap (λ (z : Contents). record z { marks = slice_set t.marks n 0 }) h.same ∙ ap (λ (z : List ℕ). record s { marks = z }) (sym marks);
      as_many = ap length marks ∙ length-set t.marks n 0 ∙ many;
      none = λ c k. ap (λ (z : List ℕ). slice_index z c) marks ∙ elim (cases_eq c n) [
        | inl q ↦ ap (λ z. slice_index (slice_set t.marks n 0) z) q ∙ get_or-set_same t.marks n 0 0 (omega arith)
        | inr d ↦ get_or-set_other t.marks n c 0 0 d ∙ h.none c (omega arith)
      ];
    }

pub unmarked_all : (s t : Contents) (n : ℕ) → UnmarkedBelow s t n → length s.marks ≤ n → IsUnmarked s t
unmarked_all s t n h l = record {
  same = h.same;
  as_many = h.as_many;
  none = λ c. elim (cases_lt c n) [
    | inl k ↦ h.none c k
    | inr k ↦ get_or_past t.marks c 0 (let many = h.as_many in omega arith)
  ];
}

pub contents_unmarked : (s t : Contents) → t ≡ record s { marks = t.marks } → length t.marks ≡ length s.marks → IsContents s → IsContents t
contents_unmarked s t e many contents = subst IsContents (sym e) (record {
  layout = contents.layout;
  shapes = contents.shapes;
  words = contents.words;
  fragments = contents.fragments;
  few = contents.few;
  blocks = contents.blocks;
  used = contents.used;
  marks = many ∙ contents.marks;
  cards = contents.cards;
  bits = contents.bits;
  pages = contents.pages;
  made = contents.made;
  registered = contents.registered;
})

-- the first n blocks are owed where they were swept
pub record OwedBelow (s t : Contents) (n : ℕ) : Type 0 where
  pub same : t ≡ record s { blocks = t.blocks }
  pub as_many : length t.blocks ≡ length s.blocks
  pub done : (c : ℕ) → c < n → block_in t c ≡ owed_word (block_in s c)
  pub rest : (c : ℕ) → n ≤ c → block_in t c ≡ block_in s c

pub owed_none : (s : Contents) → OwedBelow s s 0
owed_none s = record { same = refl; as_many = refl; done = λ c l. absurd (omega arith); rest = λ c l. refl }

pub owed_more : (s t u : Contents) (n z : ℕ) → OwedBelow s t n → n < length s.blocks → block_in t n ≡ Swept z → u ≡ record t { blocks = slice_set t.blocks n (Need z) } →
    OwedBelow s u (n + 1)
owed_more s t u n z h l was e =
    let blocks : u.blocks ≡ slice_set t.blocks n (Need z) = ap (λ (z : Contents). z.blocks) e in
    let many = h.as_many in
    let here : block_in s n ≡ Swept z = sym (h.rest n (omega arith)) ∙ was in
    record {
      same = e ∙ ap (λ (q : Contents). record q { blocks = slice_set t.blocks n (Need z) }) h.same ∙ ap (λ (q : List BlockWord). record s { blocks = q }) (sym blocks);
      as_many = ap length blocks ∙ length-set t.blocks n (Need z) ∙ many;
      done = λ c k. ap (λ (q : List BlockWord). slice_index_or q c Free) blocks ∙ elim (cases_eq c n) [
        | inl q ↦ ap (λ x. slice_index_or (slice_set t.blocks n (Need z)) x Free) q ∙ get_or-set_same t.blocks n (Need z) Free (omega arith)
            ∙ sym (ap owed_word (ap (block_in s) q ∙ here))
        | inr d ↦ get_or-set_other t.blocks n c (Need z) Free d ∙ h.done c (omega arith)
      ];
      rest = λ c k. ap (λ (q : List BlockWord). slice_index_or q c Free) blocks ∙ get_or-set_other t.blocks n c (Need z) Free (λ q. absurd (omega arith)) ∙
          h.rest c (omega arith);
    }

-- a block that wasn't swept stays
pub owed_else : (s t : Contents) (n : ℕ) → OwedBelow s t n → ((z : ℕ) → block_in t n ≡ Swept z → ⊥) → OwedBelow s t (n + 1)
owed_else s t n h not = record {
  same = h.same;
  as_many = h.as_many;
  done = λ c k. elim (cases_eq c n) [
    | inl q ↦ (let e = ap (block_in t) q in let f = ap (block_in s) q in
        e ∙ stays (block_in t n) not ∙ ap owed_word (h.rest n (omega arith) ∙ sym f))
    | inr d ↦ h.done c (omega arith)
  ];
  rest = λ c k. h.rest c (omega arith);
}
  where
    stays : (w : BlockWord) → ((z : ℕ) → w ≡ Swept z → ⊥) → w ≡ owed_word w
    stays Free never = refl
    stays (Swept z) never = absurd (never z refl)
    stays (Need z) never = refl
    stays (Sweeping z) never = refl

pub owed_all : (s t : Contents) (n : ℕ) → OwedBelow s t n → length s.blocks ≤ n → OwesBlocks s t
owed_all s t n h l = record {
  same = h.same;
  each = λ c. elim (cases_lt c n) [
    | inl k ↦ h.done c k
    | inr k ↦ h.rest c k ∙ beyond c (omega arith)
  ];
}
  where
    beyond : (c : ℕ) → length s.blocks ≤ c → block_in s c ≡ owed_word (block_in s c)
    beyond c k = let e : block_in s c ≡ Free = get_or_past s.blocks c Free k in e ∙ sym (ap owed_word e)

pub contents_owed : (s t : Contents) (n : ℕ) → OwedBelow s t n → IsContents s → IsContents t
contents_owed s t n h contents = subst IsContents (sym h.same) (record {
  layout = contents.layout;
  shapes = contents.shapes;
  words = contents.words;
  fragments = contents.fragments;
  few = contents.few;
  blocks = h.as_many ∙ contents.blocks;
  used = contents.used;
  marks = contents.marks;
  cards = contents.cards;
  bits = contents.bits;
  pages = contents.pages;
  made = contents.made;
  registered = contents.registered;
})
