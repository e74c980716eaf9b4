-- Block after block is swept.
use Rattle.std.proofs.Common.{◌≡◌, ◌≢◌, ℕ, ◌+◌, ◌≤◌, ◌<◌, length, refl, sym, ap, ◌∙◌, subst, inl, inr, arith}
use Rattle.std.proofs.Math.Numerals.{add-one}
use Rattle.std.proofs.lemmas.Bool.{cases_eq, cases_lt}
use Rattle.std.proofs.lemmas.List.{get_or_past}
use Rattle.std.specs.Int.{bit_at}
use Rattle.sg_words.specs.declared.steps.BlockWord.{BlockWord}
use Rattle.sg_words.specs.declared.steps.BlockWord.TheVariants.{Free}
use Rattle.sg_words.specs.declared.layout.Layout.{Layout}
use Rattle.sg_words.specs.Blocks.{IsOwing, slot_base}
use Rattle.sg_words.specs.Sweeps.{swept_word, swept_used}
use Rattle.sg_space.specs.Space.{Contents, IsContents}
use Rattle.sg_space.specs.Standing.{word, block_in, used_in, marks_in}
use Rattle.sg_space.specs.Swept.{HasSwept}
use Rattle.sg_finish.specs.Finishing.{IsGarbageOf, HasSweptOf, freed_of, freed_below}

pub swept_nothing : (s : Contents) → HasSweptOf s (λ c. c < 0) s
swept_nothing s = record {
  still = refl;
  words = refl;
  blocks = refl;
  used = refl;
  states = λ c l. absurd (omega arith);
  occupied = λ c l. absurd (omega arith);
  others = λ c l. (refl, refl);
  zero = λ c x l. absurd (omega arith);
  kept = λ x out. refl;
}

-- what of a space says which words are garbage of a block
garbage_as : (s t : Contents) (c x : ℕ) → t.layout ≡ s.layout → block_in t c ≡ block_in s c → marks_in t c ≡ marks_in s c → IsGarbageOf s c x →
    IsGarbageOf t c x
garbage_as s t c x layout block marks g = record {
  size = g.size;
  slot = g.slot;
  owing = subst (λ (w : BlockWord). IsOwing w g.size) (sym block) g.owing;
  fits = g.fits;
  unmarked = ap (λ (m : ℕ). bit_at m g.slot) marks ∙ g.unmarked;
  from = subst (λ (layout : Layout). slot_base layout c g.size g.slot ≤ x) (sym layout) g.from;
  to = subst (λ (layout : Layout). x < slot_base layout c g.size g.slot + g.size) (sym layout) g.to;
}

-- the next block is as it was
pub next_block : (s t : Contents) (n : ℕ) → HasSweptOf s (λ c. c < n) t → (block_in t n ≡ block_in s n) × (marks_in t n ≡ marks_in s n)
next_block s t n h = ((h.others n (λ l. absurd (omega arith))).0, ap (λ (v : Contents). marks_in v n) h.still)

pub next_freed : (s t : Contents) (n : ℕ) → HasSweptOf s (λ c. c < n) t → (freed more : ℕ) → freed ≡ freed_below s n →
    more ≡ freed_of (block_in t n) (marks_in t n) → freed + more ≡ freed_below s (n + 1)
next_freed s t n h freed more e f =
    let next = next_block s t n h in
    let now : more ≡ freed_of (block_in s n) (marks_in s n) =
    f ∙ ap (λ (w : BlockWord). freed_of w (marks_in t n)) next.0 ∙ ap (λ (m : ℕ). freed_of (block_in s n) m) next.1 in
    subst (λ (k : ℕ). freed + more ≡ freed_below s k) (sym (add-one n))
    (ap (λ (k : ℕ). k + more) e ∙ ap (λ (k : ℕ). freed_below s n + k) now)

module _ (s t u : Contents) (n : ℕ) (h : HasSweptOf s (λ c. c < n) t) (k : HasSweptOf t (λ c. c ≡ n) u) where
  layout : t.layout ≡ s.layout
  layout = ap (λ (v : Contents). v.layout) h.still

  marks : (c : ℕ) → marks_in t c ≡ marks_in s c
  marks c = ap (λ (v : Contents). marks_in v c) h.still

  here : (block_in t n ≡ block_in s n) × (used_in t n ≡ used_in s n)
  here = h.others n (λ l. absurd (omega arith))

  states : (c : ℕ) → c < n + 1 → block_in u c ≡ swept_word (block_in s c) (marks_in s c)
  states c l = elim (cases_eq c n) [
    | inl e ↦ k.states c e ∙ subst (λ (c : ℕ). swept_word (block_in t c) (marks_in t c) ≡ swept_word (block_in s c) (marks_in s c)) (sym e)
        (ap (λ (w : BlockWord). swept_word w (marks_in t n)) here.0 ∙ ap (λ (m : ℕ). swept_word (block_in s n) m) (marks n))
    | inr d ↦ (k.others c d).0 ∙ h.states c (omega arith)
  ]

  occupied : (c : ℕ) → c < n + 1 → used_in u c ≡ swept_used (block_in s c) (used_in s c) (marks_in s c)
  occupied c l = elim (cases_eq c n) [
    | inl e ↦ k.occupied c e ∙
        subst (λ (c : ℕ). swept_used (block_in t c) (used_in t c) (marks_in t c) ≡ swept_used (block_in s c) (used_in s c) (marks_in s c)) (sym e)
        (ap (λ (w : BlockWord). swept_used w (used_in t n) (marks_in t n)) here.0 ∙ ap (λ (v : ℕ). swept_used (block_in s n) v (marks_in t n)) here.1 ∙
        ap (λ (m : ℕ). swept_used (block_in s n) (used_in s n) m) (marks n))
    | inr d ↦ (k.others c d).1 ∙ h.occupied c (omega arith)
  ]

  zeroed : (c x : ℕ) → c < n + 1 → IsGarbageOf s c x → word u x ≡ 0
  zeroed c x l g = elim (cases_eq (word u x) 0) [
    | inl e ↦ e
    | inr m ↦ elim (cases_eq c n) [
      | inl e ↦ k.zero c x e (garbage_as s t c x layout (subst (λ (c : ℕ). block_in t c ≡ block_in s c) (sym e) here.0) (marks c) g)
      | inr d ↦ k.kept x (λ c e o. m (k.zero c x e o)) ∙ h.zero c x (omega arith) g
    ]
  ]

  kept : (x : ℕ) → ((c : ℕ) → c < n + 1 → IsGarbageOf s c x → ⊥) → word u x ≡ word s x
  kept x out =
      k.kept x (λ c e o. out c (omega arith) (garbage_as t s c x (sym layout) (subst (λ (c : ℕ). block_in s c ≡ block_in t c) (sym e) (sym here.0)) (sym (marks c)) o)) ∙
      h.kept x (λ c l o. out c (omega arith) o)

  pub swept_more : HasSweptOf s (λ c. c < n + 1) u
  swept_more = record {
    still = k.still ∙ ap (λ (v : Contents). record v { words = u.words; blocks = u.blocks; used = u.used }) h.still;
    words = k.words ∙ h.words;
    blocks = k.blocks ∙ h.blocks;
    used = k.used ∙ h.used;
    states = states;
    occupied = occupied;
    others = λ c out.
        let d : c ≢ n = λ e. out (omega arith) in
        let a = k.others c d in
        let b = h.others c (λ l. out (omega arith)) in
        (a.0 ∙ b.0, a.1 ∙ b.1);
    zero = zeroed;
    kept = kept;
  }

pub swept_all : (s t : Contents) → IsContents s → HasSweptOf s (λ c. c < length s.blocks) t → HasSwept s t
swept_all s t contents h = record {
  still = h.still;
  words = h.words;
  blocks = h.blocks;
  used = h.used;
  states = λ c. elim (cases_lt c (length s.blocks)) [
    | inl l ↦ h.states c l
    | inr l ↦ (h.others c (λ m. absurd (omega arith))).0 ∙ free c l ∙ ap (λ (w : BlockWord). swept_word w (marks_in s c)) (sym (free c l))
  ];
  occupied = λ c. elim (cases_lt c (length s.blocks)) [
    | inl l ↦ h.occupied c l
    | inr l ↦ (h.others c (λ m. absurd (omega arith))).1 ∙ ap (λ (w : BlockWord). swept_used w (used_in s c) (marks_in s c)) (sym (free c l))
  ];
  zero = λ x g. h.zero g.block x (let there = g.there in let e = contents.blocks in omega arith)
      (record { size = g.size; slot = g.slot; owing = g.owing; fits = g.fits; unmarked = g.unmarked; from = g.from; to = g.to });
  kept = λ x out. h.kept x (λ c l g. out (record {
    block = c;
    size = g.size;
    slot = g.slot;
    there = let e = contents.blocks in omega arith;
    owing = g.owing;
    fits = g.fits;
    unmarked = g.unmarked;
    from = g.from;
    to = g.to;
  }));
}
  where
    free : (c : ℕ) → length s.blocks ≤ c → block_in s c ≡ Free
    free c l = get_or_past s.blocks c Free l
