-- What the steps of a sweep make of a space.
use Rattle.std.proofs.Common.{◌≡◌, ◌≢◌, ℕ, zero, suc, ◌≤◌, ◌<◌, ◌⊎◌, List, [], ◌∷◌, length, refl, sym, ap, ◌∙◌, subst, inl, inr, arith}
use Rattle.std.proofs.lemmas.Bool.{cases_eq, cond-true, cond-false, eq-eqb, ne_eqb}
use Rattle.std.proofs.lemmas.List.{ext_get_or}
use Rattle.std.specs.Int.{bit_at}
use Rattle.sg_words.specs.declared.steps.BlockWord.{BlockWord}
use Rattle.sg_words.specs.declared.steps.BlockWord.TheVariants.{Free, Swept, Need, Sweeping}
use Rattle.sg_words.specs.declared.steps.BlockStep.TheVariants.{LoadBlock, WonBlock, LostBlock, StoreBlock}
use Rattle.sg_words.specs.declared.steps.Step.{Step}
use Rattle.sg_words.specs.declared.steps.Step.TheVariants.{OnBlock}
use Rattle.sg_words.specs.Blocks.{slots, slot_from, IsOwing}
use Rattle.sg_words.specs.Sections.{old_base}
use Rattle.sg_words.specs.Sweeps.{swept_word, swept_used, zero_steps}
use Rattle.sg_words.specs.Words.{Words, put, replayed}
use Rattle.sg_words.proofs.Puts.{put-same, put-other}
use Rattle.sg_words.proofs.Zeroing.{ZeroesIn, zeroes_none, zeroes_both, zeroes_steps, replayed_then, IsFrom}
use Rattle.sg_space.specs.Space.{Contents, words_of}
use Rattle.sg_space.specs.Standing.{block_in, used_in, marks_in}
use Rattle.sg_frag.specs.Plain.{KeepsSections, Led}
use Rattle.sg_sweep.specs.Sweeping.{IsOwed, slot_steps, clear_steps, sweep_steps, unmarked}
use Rattle.sg_finish.specs.Finishing.{IsGarbageOf, HasSweptOf}

module _ (heap c z m : ℕ) where
  -- x is a word of slot i, and that slot isn't marked; or of one of the first n slots that aren't
  abbrev InSlot : ℕ → ℕ → Type 0
  InSlot i x = (bit_at m i ≡ 0) × IsFrom (slot_from heap c z i) z x

  abbrev InSlots : ℕ → ℕ → Type 0
  InSlots n x = (i : ℕ) × (i < n) × InSlot i x

  zeroes_slot : (w : Words) (i : ℕ) → ZeroesIn w (InSlot i) (replayed w (slot_steps heap c z m i))
  zeroes_slot w i = elim (cases_eq (bit_at m i) 0) [
    | inl e ↦
        let steps : slot_steps heap c z m i ≡ zero_steps (slot_from heap c z i) z =
        cond-true _ (zero_steps (slot_from heap c z i) z) [] (eq-eqb (bit_at m i) 0 e) in
        let h = zeroes_steps w (slot_from heap c z i) z in
        subst (λ (es : List Step). ZeroesIn w (InSlot i) (replayed w es)) (sym steps)
        (record { rest = h.rest; zero = λ x a. h.zero x a.1; kept = λ x out. h.kept x (λ a. out (e, a)) })
    | inr n ↦
        let steps : slot_steps heap c z m i ≡ [] = cond-false _ (zero_steps (slot_from heap c z i) z) [] (ne_eqb (bit_at m i) 0 n) in
        subst (λ (es : List Step). ZeroesIn w (InSlot i) (replayed w es)) (sym steps) (zeroes_none w (InSlot i) (λ x a. n a.0))
  ]

  zeroes_clear : (w : Words) (n : ℕ) → ZeroesIn w (InSlots n) (replayed w (clear_steps heap c z m n))
  zeroes_clear w zero = zeroes_none w (InSlots 0) (λ x a. let l = a.1 in absurd (omega arith))
  zeroes_clear w (suc n) = subst (λ (v : Words). ZeroesIn w (InSlots (suc n)) v)
      (sym (replayed_then w (clear_steps heap c z m n) (slot_steps heap c z m n)))
      (zeroes_both w (replayed w (clear_steps heap c z m n)) (replayed (replayed w (clear_steps heap c z m n)) (slot_steps heap c z m n))
      (InSlots n) (InSlot n) (InSlots (suc n)) (either n) (λ x a. let l = a.1 in (a.0, omega arith, a.2)) (λ x a. (n, omega arith, a))
      (zeroes_clear w n) (zeroes_slot (replayed w (clear_steps heap c z m n)) n))
    where
      either : (n x : ℕ) → InSlots (suc n) x → InSlots n x ⊎ InSlot n x
      either n x a = elim (cases_eq a.0 n) [
        | inl e ↦ inr (subst (λ (i : ℕ). InSlot i x) e a.2)
        | inr d ↦ inl (let l = a.1 in (a.0, omega arith, a.2))
      ]

-- block c has another word and another occupancy, these words of the heap became zero, and nothing else has changed
record Rewrites (w u : Words) (c : ℕ) (new : BlockWord) (m : ℕ) (In : ℕ → Type 0) : Type 0 where
  block : u.block c ≡ new
  used : u.used c ≡ m
  blocks : (d : ℕ) → d ≢ c → u.block d ≡ w.block d
  useds : (d : ℕ) → d ≢ c → u.used d ≡ w.used d
  zero : (x : ℕ) → In x → u.word x ≡ 0
  kept : (x : ℕ) → (In x → ⊥) → u.word x ≡ w.word x
  next : u.next ≡ w.next
  card : u.card ≡ w.card
  stop : u.stop ≡ w.stop
  head : u.head ≡ w.head

-- the steps of a whole sweep
abbrev pub all_steps : ℕ → ℕ → ℕ → ℕ → List Step
all_steps heap c z m = OnBlock (LoadBlock c (Need z)) ∷ OnBlock (WonBlock c (Need z) (Sweeping z)) ∷ sweep_steps heap c z m

rewrites : (w : Words) (heap c z m : ℕ) → Rewrites w (replayed w (all_steps heap c z m)) c (swept_word (Need z) m) m (InSlots heap c z m (slots z))
rewrites w heap c z m =
    let before : Words = record w { block = put w.block c (Sweeping z); used = put w.used c m } in
    let v : Words = replayed before (clear_steps heap c z m (slots z)) in
    let e : replayed w (all_steps heap c z m) ≡ record v { block = put v.block c (swept_word (Need z) m) } =
    replayed_then before (clear_steps heap c z m (slots z)) (OnBlock (StoreBlock c (swept_word (Need z) m)) ∷ []) in
    let h = zeroes_clear heap c z m before (slots z) in
    subst (λ (u : Words). Rewrites w u c (swept_word (Need z) m) m (InSlots heap c z m (slots z))) (sym e) (record {
      block = put-same v.block c (swept_word (Need z) m);
      used = ap (λ (u : Words). u.used c) h.rest ∙ put-same w.used c m;
      blocks = λ d n. put-other v.block c (swept_word (Need z) m) d n ∙ ap (λ (u : Words). u.block d) h.rest ∙ put-other w.block c (Sweeping z) d n;
      useds = λ d n. ap (λ (u : Words). u.used d) h.rest ∙ put-other w.used c m d n;
      zero = h.zero;
      kept = h.kept;
      next = ap (λ (u : Words). u.next) h.rest;
      card = ap (λ (u : Words). u.card) h.rest;
      stop = ap (λ (u : Words). u.stop) h.rest;
      head = ap (λ (u : Words). u.head) h.rest;
    })

-- what is no word, no block's word and no occupancy is the same
same_rest : (s t : Contents) → KeepsSections s t → t.next ≡ s.next → t.cards ≡ s.cards → t.stop ≡ s.stop → t.head ≡ s.head →
    t ≡ record s { words = t.words; blocks = t.blocks; used = t.used }
same_rest s t k next cards stop head = λ i. record {
  layout = k.layout i;
  shapes = k.shapes i;
  words = t.words;
  next = next i;
  ends = k.ends i;
  stop = stop i;
  blocks = t.blocks;
  used = t.used;
  marks = k.marks i;
  cards = cards i;
  pages = k.pages i;
  head = head i;
  made = k.made i;
  registered = k.registered i;
  pairs = k.pairs i;
}

module _ (s t : Contents) (k : KeepsSections s t) where
  still : (words_of t).next ≡ (words_of s).next → (words_of t).card ≡ (words_of s).card → t.stop ≡ s.stop → t.head ≡ s.head →
      length t.cards ≡ length s.cards → t ≡ record s { words = t.words; blocks = t.blocks; used = t.used }
  still next card stop head cards = same_rest s t k
      (ext_get_or 0 t.next s.next k.next (λ i l. ap (λ (f : ℕ → ℕ). f i) next)) (ext_get_or 0 t.cards s.cards k.cards (λ i l. ap (λ (f : ℕ → ℕ). f i) card))
      stop head

  -- a whole sweep of block c
  module _ (c z : ℕ) (e : block_in s c ≡ Need z) where
    in_slots : (x : ℕ) → IsGarbageOf s c x → InSlots (old_base s.layout) c z (marks_in s c) (slots z) x
    in_slots x g =
        let q : z ≡ g.size = subst (λ (w : BlockWord). IsOwing w g.size) e g.owing in
        subst (λ (y : ℕ). InSlots (old_base s.layout) c y (marks_in s c) (slots y) x) (sym q) (g.slot, g.fits, (g.unmarked, (g.from, g.to)))

    of_slots : (x : ℕ) → InSlots (old_base s.layout) c z (marks_in s c) (slots z) x → IsGarbageOf s c x
    of_slots x a = record {
      size = z;
      slot = a.0;
      owing = subst (λ (w : BlockWord). IsOwing w z) (sym e) refl;
      fits = a.1;
      unmarked = a.2.0;
      from = a.2.1.0;
      to = a.2.1.1;
    }

    swept : Rewrites (words_of s) (words_of t) c (swept_word (Need z) (marks_in s c)) (marks_in s c) (InSlots (old_base s.layout) c z (marks_in s c) (slots z)) →
        HasSweptOf s (λ d. d ≡ c) t
    swept h = record {
      still = still h.next h.card h.stop h.head k.cards;
      words = k.words;
      blocks = k.blocks;
      used = k.used;
      states = λ d q. subst (λ (d : ℕ). block_in t d ≡ swept_word (block_in s d) (marks_in s d)) (sym q)
          (h.block ∙ ap (λ (w : BlockWord). swept_word w (marks_in s c)) (sym e));
      occupied = λ d q. subst (λ (d : ℕ). used_in t d ≡ swept_used (block_in s d) (used_in s d) (marks_in s d)) (sym q)
          (h.used ∙ ap (λ (w : BlockWord). swept_used w (used_in s c) (marks_in s c)) (sym e));
      others = λ d n. (h.blocks d n, h.useds d n);
      zero = λ d x q g. h.zero x (in_slots x (subst (λ (d : ℕ). IsGarbageOf s d x) q g));
      kept = λ x out. h.kept x (λ a. out c refl (of_slots x a));
    }

-- what is not to be swept, nor being swept, stays
record Stays (w : BlockWord) (u m : ℕ) : Type 0 where
  word : swept_word w m ≡ w
  used : swept_used w u m ≡ u
  rests : (z : ℕ) → IsOwing w z → ⊥

stays : (w : BlockWord) (u m : ℕ) → (IsOwed w → ⊥) → ((z : ℕ) → w ≡ Sweeping z → ⊥) → Stays w u m
stays Free u m owed settled = record { word = refl; used = refl; rests = λ z o. o }
stays (Swept y) u m owed settled = record { word = refl; used = refl; rests = λ z o. o }
stays (Need y) u m owed settled = absurd (owed tt)
stays (Sweeping y) u m owed settled = absurd (settled y refl)

-- of n slots at most n aren't marked
pub unmarked_most : (m n : ℕ) → unmarked m n ≤ n
unmarked_most m zero = omega arith
unmarked_most m (suc n) = let h = unmarked_most m n in omega arith

-- the sweep of block c over a space
module _ (s t : Contents) (c : ℕ) where
  pub swept_done : (z : ℕ) → Led s (all_steps (old_base s.layout) c z (marks_in s c)) t → HasSweptOf s (λ d. d ≡ c) t
  swept_done z h = swept s t h.keeps c z h.legal.0
      (subst (λ (u : Words). Rewrites (words_of s) u c (swept_word (Need z) (marks_in s c)) (marks_in s c)
      (InSlots (old_base s.layout) c z (marks_in s c) (slots z))) (sym h.words) (rewrites (words_of s) (old_base s.layout) c z (marks_in s c)))

  pub swept_none : (seen : BlockWord) → Led s (OnBlock (LoadBlock c seen) ∷ []) t → (IsOwed seen → ⊥) → ((z : ℕ) → block_in s c ≡ Sweeping z → ⊥) →
      HasSweptOf s (λ d. d ≡ c) t
  swept_none seen h owed settled =
      let e : block_in s c ≡ seen = h.legal.0 in
      let k = stays (block_in s c) (used_in s c) (marks_in s c) (λ o. owed (subst IsOwed e o)) settled in
      let same : words_of t ≡ words_of s = h.words in record {
        still = still s t h.keeps (ap (λ (w : Words). w.next) same) (ap (λ (w : Words). w.card) same) (ap (λ (w : Words). w.stop) same)
            (ap (λ (w : Words). w.head) same) h.keeps.cards;
        words = h.keeps.words;
        blocks = h.keeps.blocks;
        used = h.keeps.used;
        states = λ d q. ap (λ (w : Words). w.block d) same ∙
            subst (λ (d : ℕ). block_in s d ≡ swept_word (block_in s d) (marks_in s d)) (sym q) (sym k.word);
        occupied = λ d q. ap (λ (w : Words). w.used d) same ∙
            subst (λ (d : ℕ). used_in s d ≡ swept_used (block_in s d) (used_in s d) (marks_in s d)) (sym q) (sym k.used);
        others = λ d n. (ap (λ (w : Words). w.block d) same, ap (λ (w : Words). w.used d) same);
        zero = λ d x q g. let o = subst (λ (d : ℕ). IsGarbageOf s d x) q g in absurd (k.rests o.size o.owing);
        kept = λ x out. ap (λ (w : Words). w.word x) same;
      }

  -- nothing else has the space, so no other word is found
  pub never_lost : (z : ℕ) (found : BlockWord) → Led s (OnBlock (LoadBlock c (Need z)) ∷ OnBlock (LostBlock c (Need z) (Sweeping z) found) ∷ []) t → ⊥
  never_lost z found h = h.legal.1.0.1 (sym h.legal.1.0.0 ∙ h.legal.0)
