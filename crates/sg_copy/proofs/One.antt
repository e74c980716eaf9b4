-- A space with one object of one plain field at the nursery's front, to which the first global refers.
use Rattle.std.proofs.Common.{◌≡◌, ◌≢◌, ℕ, ◌+◌, ◌<◌, ◌≤◌, nat_le, nat_lt, if◌then◌else◌, Bool, true, false, List, [], ◌∷◌, length, Some, slice_get, slice_set}
use Rattle.std.proofs.Common.{inl, inr, refl, sym, ap, ◌∙◌, subst, arith, get_or, replicate, length-set, get_or-set_same, get_or-set_other}
use Rattle.std.proofs.lemmas.List.{get_or-replicate}
use Rattle.std.proofs.lemmas.Bool.{cases_lt, cond-true, cond-false, lt-ltb, le-ltb, le-leb, lt-leb}
use Rattle.sg_words.specs.Address.{word_at}
use Rattle.sg_words.proofs.Blocks.{slot_fits}
use Rattle.sg_words.specs.Reach.Reached.{Root, Next}
use Rattle.sg_words.specs.declared.layout.Layout.{Layout}
use Rattle.sg_words.specs.Sections.{old_base, large_base, globals_base, words_end}
use Rattle.sg_words.proofs.Members.{in-one}
use Rattle.sg_desc.specs.declared.shapes.Shape.{Shape}
use Rattle.sg_desc.specs.declared.shapes.Descriptor.TheVariants.{PtrFree}
use Rattle.sg_space.specs.Space.{Contents, IsContents, clear_space}
use Rattle.sg_space.specs.Changes.{contents_still}
use Rattle.sg_space.specs.Standing.{word, block_in, used_in}
use Rattle.sg_round.specs.Area.{class_of, is_strong, IsFixed, Traces}
use Rattle.sg_round.specs.Round.{IsMet, IsOpening, AreZoned}
use Rattle.sg_copy.specs.Copying.{is_strong_in, area_of, CanCopy}

-- the words of blocks
heap_word : Layout → ℕ → Bool
heap_word layout y = if nat_le (old_base layout) y then nat_lt y (large_base layout) else false

heap_inside : (layout : Layout) (y : ℕ) → heap_word layout y ≡ true → (old_base layout ≤ y) × (y < large_base layout)
unfolding heap_word
heap_inside layout y h = elim (cases_lt y (old_base layout)) [
  | inl l ↦ absurd (let e : heap_word layout y ≡ false = cond-false (nat_le (old_base layout) y) _ _ (lt-leb (old_base layout) y l) in cc)
  | inr l ↦ elim (cases_lt y (large_base layout)) [
    | inl m ↦ (l, m)
    | inr m ↦ absurd (let e : heap_word layout y ≡ false = cond-true (nat_le (old_base layout) y) _ _ (le-leb (old_base layout) y l) ∙ le-ltb y (large_base layout) m in cc)
  ]
]

heap_there : (layout : Layout) (y : ℕ) → old_base layout ≤ y → y < large_base layout → heap_word layout y ≡ true
unfolding heap_word
heap_there layout y l m = cond-true (nat_le (old_base layout) y) _ _ (le-leb (old_base layout) y l) ∙ lt-ltb y (large_base layout) m

heap_out : (layout : Layout) (y : ℕ) → large_base layout ≤ y → old_base layout ≤ y → heap_word layout y ≡ false
unfolding heap_word
heap_out layout y l m = cond-true (nat_le (old_base layout) y) _ _ (le-leb (old_base layout) y m) ∙ le-ltb y (large_base layout) l

module _ (s : Contents) (contents : IsContents s) (shape : Shape) (first : slice_get s.shapes 0 ≡ Some shape) (plain : shape.kind ≡ PtrFree)
    (tag : word s 512 ≡ 8) (len : word s 513 ≡ 1) (refers : word s (globals_base s.layout) ≡ 4096)
    (clear : (y : ℕ) → old_base s.layout ≤ y → y < large_base s.layout → word s y ≡ 0) (bare : (b : ℕ) → b < s.layout.blocks → used_in s b ≡ 0) where
  abbrev Met : ℕ → Type 0
  Met a = IsMet (area_of s) (word s) (globals_base s.layout ∷ []) [] a

  not_strong : (i : ℕ) → is_strong (area_of s) (word s) 512 i ≡ false
  not_strong i = ap (λ (v : ℕ). (area_of s).strong (class_of v) i) tag ∙ ap (λ o. is_strong_in o i) first ∙ by_kind
    where
      by_kind : is_strong_in (Some shape) i ≡ false
      by_kind = rw plain refl

  only : (a : ℕ) → Traces (area_of s) (word s) (globals_base s.layout ∷ []) a → a ≡ 512
  only _ (Root a (y, (x, i, e))) =
      let q : word s x ≡ 4096 = ap (word s) (in-one x (globals_base s.layout) i) ∙ refers in
      omega arith
  only _ (Next m a t (y, (i, l, st, e))) =
      let q : true ≡ false = sym st ∙ ap (λ (z : ℕ). is_strong (area_of s) (word s) z i) (only m t) ∙ not_strong i in
      cc

  met : (a : ℕ) → Met a → a ≡ 512
  met a (inl t) = only a t
  met a (inr i) = absurd (let z = i in cc)

  tag_of : (a : ℕ) → Met a → word s a ≡ 8
  tag_of a t = ap (word s) (met a t) ∙ tag

  size : (a : ℕ) → Met a → word s (a + 1) ≡ 1
  size a t = ap (λ (z : ℕ). word s (z + 1)) (met a t) ∙ len

  opening : IsOpening (area_of s) (word s) (globals_base s.layout ∷ []) [] (heap_word s.layout)
  opening =
      let nursery = contents.layout.nursery_least in
      record {
        above = λ y h. (heap_inside s.layout y h).0;
        zero = λ y h. (let z = heap_inside s.layout y h in clear y z.0 z.1);
        inside = λ a t. (let e = met a t in let n = size a t in ((omega arith, omega arith), omega arith, omega arith));
        apart = λ a c ta tc l k. met a ta ∙ sym (met c tc);
        first = λ a t. (0, omega arith, inl (tag_of a t));
        stays = λ t i. absurd (let z = i in cc);
        item_word = λ x i. (let p = in-one x (globals_base s.layout) i in (omega arith, omega arith));
        item_apart = λ x a i t. (let p = in-one x (globals_base s.layout) i in let q = met a t in
            (λ e. absurd (omega arith), λ e. absurd (omega arith)));
        item_out = λ x a c i t e l k. (let p = in-one x (globals_base s.layout) i in let q = met a (inl t) in let n = size a (inl t) in absurd (omega arith));
        item_zone = λ x i. (let p = in-one x (globals_base s.layout) i in heap_out s.layout x (omega arith) (omega arith));
        whole = λ a c i x t e l st v y. fixed_not a c t e;
      }
    where
      fixed_not : (a c : ℕ) {A : Type 0} → Traces (area_of s) (word s) (globals_base s.layout ∷ []) a → IsFixed c (word s a) → A
      fixed_not a c t e = elim e [
        | inl f ↦ absurd (let q = tag_of a (inl t) in omega arith)
        | inr f ↦ absurd (let q = tag_of a (inl t) in omega arith)
      ]

  zoned : AreZoned (area_of s) (block_in s) (used_in s) (heap_word s.layout)
  zoned = record {
    clear = λ b z i y in_slot is. (
        let l = slot_fits z i in_slot.1 in let there = in_slot.0 in let from = in_slot.2 in let to = in_slot.3 in
        heap_there s.layout y (omega arith) (omega arith));
    bare = λ b l is. bare b l;
  }

  pub one_can_move : CanCopy s (globals_base s.layout ∷ []) []
  one_can_move = record { contents = contents; zone = heap_word s.layout; opening = opening; zoned = zoned; once = (tt, tt) }

-- a write changes one word
writes : (s t : Contents) (a v : ℕ) → a < length s.words → t ≡ record s { words = slice_set s.words a v } → (word t a ≡ v) × ((y : ℕ) → y ≢ a → word t y ≡ word s y)
writes s t a v l e = (ap (λ (z : Contents). word z a) e ∙ get_or-set_same s.words a v 0 l, λ y n. ap (λ (z : Contents). word z y) e ∙ get_or-set_other s.words a y v 0 n)

contents_set : (s t : Contents) (a v : ℕ) → t ≡ record s { words = slice_set s.words a v } → IsContents s → IsContents t
contents_set s t a v e h = contents_still s t
    (e ∙ ap (λ (ws : List ℕ). record s { words = ws }) (sym (ap (λ (z : Contents). z.words) e)), ap (λ (z : Contents). length z.words) e ∙ length-set s.words a v) h

-- by the writes that make it
pub one_written : (layout : Layout) (shapes : List Shape) (shape : Shape) (s0 s1 s2 s3 : Contents) (a b g : ℕ) → slice_get shapes 0 ≡ Some shape → shape.kind ≡ PtrFree →
    IsContents s0 → s0 ≡ clear_space layout shapes → word_at a ≡ 512 → word_at b ≡ 513 → word_at g ≡ globals_base layout →
    s1 ≡ record s0 { words = slice_set s0.words (word_at a) 8 } → s2 ≡ record s1 { words = slice_set s1.words (word_at b) 1 } →
    s3 ≡ record s2 { words = slice_set s2.words (word_at g) 4096 } → CanCopy s3 (word_at g ∷ []) []
one_written layout shapes shape s0 s1 s2 s3 a b g first plain c0 e0 ea eb eg e1 e2 e3 =
    let c1 = contents_set s0 s1 (word_at a) 8 e1 c0 in
    let c2 = contents_set s1 s2 (word_at b) 1 e2 c1 in
    let c3 = contents_set s2 s3 (word_at g) 4096 e3 c2 in
    let l0 : s0.layout ≡ layout = ap (λ (z : Contents). z.layout) e0 in
    let l1 : s1.layout ≡ layout = ap (λ (z : Contents). z.layout) e1 ∙ l0 in
    let l2 : s2.layout ≡ layout = ap (λ (z : Contents). z.layout) e2 ∙ l1 in
    let l3 : s3.layout ≡ layout = ap (λ (z : Contents). z.layout) e3 ∙ l2 in
    let h3 : s3.shapes ≡ shapes =
    ap (λ (z : Contents). z.shapes) e3 ∙ ap (λ (z : Contents). z.shapes) e2 ∙ ap (λ (z : Contents). z.shapes) e1 ∙ ap (λ (z : Contents). z.shapes) e0 in
    let u3 : s3.used ≡ replicate layout.blocks 0 =
    ap (λ (z : Contents). z.used) e3 ∙ ap (λ (z : Contents). z.used) e2 ∙ ap (λ (z : Contents). z.used) e1 ∙ ap (λ (z : Contents). z.used) e0 in
    let least = subst (λ l. 256 ≤ l.nursery) l0 c0.layout.nursery_least in
    let w0 = c0.words ∙ ap words_end l0 in
    let w1 = c1.words ∙ ap words_end l1 in
    let w2 = c2.words ∙ ap words_end l2 in
    let st1 = writes s0 s1 (word_at a) 8 (omega arith) e1 in
    let st2 = writes s1 s2 (word_at b) 1 (omega arith) e2 in
    let st3 = writes s2 s3 (word_at g) 4096 (omega arith) e3 in
    let tag : word s3 512 ≡ 8 = st3.1 512 (λ e. absurd (omega arith)) ∙ st2.1 512 (λ e. absurd (omega arith)) ∙ ap (word s1) (sym ea) ∙ st1.0 in
    let len : word s3 513 ≡ 1 = st3.1 513 (λ e. absurd (omega arith)) ∙ ap (word s2) (sym eb) ∙ st2.0 in
    let refers : word s3 (globals_base layout) ≡ 4096 = ap (word s3) (sym eg) ∙ st3.0 in
    let zero : (y : ℕ) → old_base layout ≤ y → y < large_base layout → word s3 y ≡ 0 = λ y l m.
    st3.1 y (λ e. absurd (omega arith)) ∙ st2.1 y (λ e. absurd (omega arith)) ∙ st1.1 y (λ e. absurd (omega arith))
    ∙ ap (λ (z : Contents). word z y) e0 ∙ get_or-replicate (words_end layout) y 0 0 (omega arith) in
    let bare : (b : ℕ) → b < layout.blocks → used_in s3 b ≡ 0 = λ b l. ap (λ (used : List ℕ). get_or used b 0) u3 ∙ get_or-replicate layout.blocks b 0 0 l in
    subst (λ (z : ℕ). CanCopy s3 (z ∷ []) []) (ap globals_base l3 ∙ sym eg)
    (one_can_move s3 c3 shape (ap (λ (z : List Shape). slice_get z 0) h3 ∙ first) plain tag len (ap (λ l. word s3 (globals_base l)) l3 ∙ refers)
    (subst (λ (l : Layout). (y : ℕ) → old_base l ≤ y → y < large_base l → word s3 y ≡ 0) (sym l3) zero)
    (subst (λ (l : Layout). (b : ℕ) → b < l.blocks → used_in s3 b ≡ 0) (sym l3) bare))
