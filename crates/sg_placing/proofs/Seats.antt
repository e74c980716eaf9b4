-- Where a space holds a graph and owes no block: which slots its objects have, and what a clear slot is by the book.
use Rattle.std.proofs.Common.{◌≡◌, ℕ, ◌+◌, ◌*◌, ◌<◌, ◌≤◌, ◌⊎◌, inl, inr, true, false, length, refl, sym, ap, ◌∙◌, subst, arith}
use Rattle.std.specs.Int.{bit_at}
use Rattle.std.proofs.lemmas.Bool.{cases_eq}
use Rattle.std.proofs.lemmas.Nat.Bits.{bit_at-zero}
use Rattle.sg_words.specs.Blocks.{slots, IsOf, IsOwing, is_taken}
use Rattle.sg_words.specs.declared.steps.BlockWord.{BlockWord}
use Rattle.sg_words.specs.declared.steps.BlockWord.TheVariants.{Free, Swept, Need, Sweeping}
use Rattle.sg_words.proofs.Blocks.{slot_size-class, slot_size-holds, class_bounds, slot_fits, slot_once}
use Rattle.sg_program.specs.declared.program.Program.{Program}
use Rattle.sg_program.specs.Scripts.{words_for}
use Rattle.sg_graph.specs.Graph.{Graph}
use Rattle.sg_graph.specs.Book.{Book, Old, nursery_end, slot_at, slot_words, IsWordOf, IsInBlock, IsInSlot, IsEmptySlot, IsShut, IsFirstSlot}
use Rattle.sg_graph.specs.Blocks.{IsDirty}
use Rattle.sg_graph.specs.Heap.{Of}
use Rattle.sg_space.specs.Space.{Contents}
use Rattle.sg_space.specs.Standing.{word, block_in, used_in, marks_in}
use Rattle.sg_heap.specs.Holding.{HoldsHeap, OwesNothing}
use Rattle.sg_placing.specs.Placing.{HasClearSlot, LacksClearSlot, HasNoClearSlot}

free_swept : (state : BlockWord) (z : ℕ) → state ≡ Free → state ≡ Swept z → ⊥
free_swept state z e f = let k : Free ≡ Swept z = sym e ∙ f in cc

swept_once : (y z : ℕ) → Swept y ≡ Swept z → y ≡ z
swept_once y z e = cc

-- a block that isn't owed, nor in the midst of a sweep, is free or swept
free_or_swept : (state : BlockWord) → ((z : ℕ) → IsOwing state z → ⊥) → (state ≡ Free) ⊎ ((z : ℕ) × (state ≡ Swept z))
free_or_swept Free none = inl refl
free_or_swept (Swept z) none = inr (z, refl)
free_or_swept (Need z) none = absurd (none z refl)
free_or_swept (Sweeping z) none = absurd (none z refl)

-- a taken slot of a block that is free or swept has its bit
taken_bit : (state : BlockWord) (z used marks i : ℕ) → ((z : ℕ) → IsOwing state z → ⊥) → IsOf state z → is_taken state used marks i ≡ 1 →
    (state ≡ Swept z) × (bit_at used i ≡ 1)
taken_bit Free z used marks i none of taken = absurd of
taken_bit (Swept y) z used marks i none of taken = (ap Swept of, taken)
taken_bit (Need y) z used marks i none of taken = absurd (none y refl)
taken_bit (Sweeping y) z used marks i none of taken = absurd (none y refl)

swept_of : (state : BlockWord) (z : ℕ) → state ≡ Swept z → IsOf state z
swept_of state z e = subst (λ (w : BlockWord). IsOf w z) (sym e) refl

swept_taken : (state : BlockWord) (z used marks i : ℕ) → state ≡ Swept z → bit_at used i ≡ 1 → is_taken state used marks i ≡ 1
swept_taken state z used marks i e bit = subst (λ (w : BlockWord). is_taken w used marks i ≡ 1) (sym e) bit

slot_some : (n : ℕ) → 4 ≤ slot_words n
slot_some n = (class_bounds (slot_words n) (slot_size-class (words_for n))).0

module _ (p : Program) (s : Contents) (g : Graph) (b : Book) (holds : HoldsHeap p s g b) (unowed : OwesNothing p b) where
  none_owing : (c : ℕ) → c < p.config.blocks → (z : ℕ) → IsOwing (block_in s c) z → ⊥
  none_owing c l z o = let q : false ≡ true = sym (unowed c l) ∙ (holds.1.2.blocks.each c l).owing z o in cc q

  states : (c : ℕ) → c < p.config.blocks → (block_in s c ≡ Free) ⊎ ((z : ℕ) × (block_in s c ≡ Swept z))
  states c l = free_or_swept (block_in s c) (none_owing c l)

  -- a standing object is small
  small : (n : ℕ) → 1 ≤ n → b.stands n ≡ true → words_for (g.size n) ≤ 64
  small n l q = let most = (holds.1.1.laid.objects.shaped n l q).1.0 in omega arith

  -- an old object is at the front of this slot, and the block's word and occupancy say so
  record IsSeated (n : ℕ) : Type 0 where
    pub block : ℕ
    pub slot : ℕ
    pub seat : IsInSlot p g b n block (slot_words (g.size n)) slot
    pub state : block_in s block ≡ Swept (slot_words (g.size n))
    pub bit : bit_at (used_in s block) slot ≡ 1

  seated : (n : ℕ) → 1 ≤ n → b.stands n ≡ true → b.section n ≡ Old → IsSeated n
  seated n l q o =
      let i = holds.1.2.blocks.placed n l q o in
      let t = i.2 in
      let bit = taken_bit (block_in s i.0) (slot_words (g.size n)) (used_in s i.0) (marks_in s i.0) t.slot (none_owing i.0 i.1) t.of t.taken in
      record {
        block = i.0;
        slot = t.slot;
        seat = record { some = l; stands = q; old = o; sized = refl; there = i.1; fits = t.fits; at = t.address };
        state = bit.0;
        bit = bit.1;
      }

  -- in each slot whose bit is set one stands
  filled : (c z i : ℕ) → c < p.config.blocks → block_in s c ≡ Swept z → bit_at (used_in s c) i ≡ 1 → (n : ℕ) × IsInSlot p g b n c z i
  filled c z i l e bit =
      let fits = holds.0.fits c z i l e bit in
      let f = (holds.1.2.blocks.each c l).filled z i (swept_of (block_in s c) z e) fits
      (swept_taken (block_in s c) z (used_in s c) (marks_in s c) i e bit) in
      (f.0, record { some = f.1.some; stands = f.1.standing; old = f.1.old; sized = f.1.sized; there = l; fits = fits; at = f.1.at })

  -- and one in each swept block
  inhabited : (c z : ℕ) → c < p.config.blocks → block_in s c ≡ Swept z → (n : ℕ) × IsInBlock p b n c
  inhabited c z l e =
      let i = holds.1.2.inhabited c z l e in
      let from = i.3 in
      elim (holds.1.1.laid.objects.inside i.0 i.1 i.2) [
        | inl young ↦ absurd (let end = young.2 in omega arith)
        | inr old ↦ (i.0, record { some = i.1; stands = i.2; old = old.0; above = from; below = i.4 })
      ]

  -- an object in a block, by its seat
  seat_block : (n j : ℕ) → IsInBlock p b n j → (q : IsSeated n) → q.block ≡ j
  seat_block n j h q =
      let fit = slot_fits (slot_words (g.size n)) q.slot q.seat.fits in
      let some = slot_some (g.size n) in
      let at = q.seat.at in
      let low = h.above in
      let high = h.below in
      omega arith

  in_block : (n j : ℕ) → IsInBlock p b n j → block_in s j ≡ Swept (slot_words (g.size n))
  in_block n j h = let q = seated n h.some h.stands h.old in ap (block_in s) (sym (seat_block n j h q)) ∙ q.state

  -- a word of a standing object that is one of a slot
  word_seat : (n x c z i : ℕ) → IsWordOf g b n x → i < slots z → slot_at p c z i ≤ x → x < slot_at p c z i + z → (q : IsSeated n) × (q.block ≡ c)
  word_seat n x c z i h l from to =
      let low = h.above in
      let high = h.below in
      let fit = slot_fits z i l in
      elim (holds.1.1.laid.objects.inside n h.some h.stands) [
        | inl young ↦ absurd (let end = young.2 in omega arith)
        | inr old ↦
            let q = seated n h.some h.stands old.0 in
            let size = slot_size-holds (words_for (g.size n)) (small n h.some h.stands) in
            let mine = slot_fits (slot_words (g.size n)) q.slot q.seat.fits in
            let at = q.seat.at in
            (q, omega arith)
      ]

  -- a clear slot is empty
  module _ (z c i : ℕ) (there : c < p.config.blocks) (clear : HasClearSlot s z c i) where
    pub empty : IsEmptySlot p g b c z i
    empty n x h from to =
        let k = word_seat n x c z i h clear.fits from to in
        let q = k.0 in
        let here = k.1 in
        let state = ap (block_in s) (sym here) ∙ q.state in
        elim clear.state [
          | inl free ↦ free_swept (block_in s c) (slot_words (g.size n)) free.0 state
          | inr swept ↦
              let size : slot_words (g.size n) ≡ z = swept_once (slot_words (g.size n)) z (sym state ∙ swept.0) in
              let holds = slot_size-holds (words_for (g.size n)) (small n h.some h.stands) in
              let at = q.seat.at in
              let low = h.above in
              let high = h.below in
              let mine = ap (λ y. y * q.slot) size in
              let start : slot_at p c z q.slot ≤ x = omega arith in
              let end : x < slot_at p c z q.slot + z = omega arith in
              let same : q.slot ≡ i = slot_once (nursery_end p) c z q.slot i x start end from to in
              let set : bit_at (used_in s c) i ≡ 1 =
              ap (λ y. bit_at (used_in s y) i) (sym here) ∙ ap (λ y. bit_at (used_in s q.block) y) (sym same) ∙ q.bit in
              let unset = swept.1 in
              omega arith
        ]

    -- no object has a word of it
    pub free_slot : (x m : ℕ) → slot_at p c z i ≤ x → x < slot_at p c z i + z → holds.1.0 x ≡ Of m → ⊥
    free_slot x m from to o =
        let w = holds.1.1.laid.objects.owned m x o in
        elim (cases_eq m 0) [
          | inl e ↦
              let at : b.address m ≡ 0 = ap b.address e ∙ holds.1.1.laid.nothing.at_nil in
              let size : g.size m ≡ 0 = ap g.size e ∙ holds.1.1.laid.nothing.no_size in
              let below = w.2 in
              omega arith
          | inr d ↦ empty m x (record { some = omega arith; stands = w.0; above = w.1; below = w.2 }) from to
        ]

    pub state_cases : (block_in s c ≡ Free) ⊎ (block_in s c ≡ Swept z)
    state_cases = elim clear.state [ inl free ↦ inl free.0 | inr swept ↦ inr swept.0 ]

    pub clear_bit : bit_at (used_in s c) i ≡ 0
    clear_bit = elim clear.state [
      | inl free ↦ ap (λ u. bit_at u i) ((holds.1.2.blocks.each c there).bare free.0) ∙ bit_at-zero i
      | inr swept ↦ swept.1
    ]

    -- and its words are zero
    pub zero_slot : (x : ℕ) → slot_at p c z i ≤ x → x < slot_at p c z i + z → word s x ≡ 0
    zero_slot x from to =
        let fit = slot_fits z i clear.fits in
        holds.1.2.blocks.clear c there x (omega arith) (omega arith) (λ m o. free_slot x m from to o)
        (λ (d : IsDirty p (marks_in s c) (block_in s c) c x). none_owing c there d.size d.owing)

  -- a block without a clear slot is shut
  shut : (z c : ℕ) → c < p.config.blocks → LacksClearSlot s z c → IsShut p g b c z
  shut z c there lacks = elim (states c there) [
    | inl free ↦ absurd (lacks.taken free)
    | inr q ↦ elim (cases_eq q.0 z) [
      | inl e ↦ inr (λ i l. filled c z i there (q.1 ∙ ap Swept e) (lacks.full (q.1 ∙ ap Swept e) i l))
      | inr other ↦
          let n = inhabited c q.0 there q.1 in
          inl (n.0, n.1, λ e. other (swept_once q.0 z (sym q.1 ∙ in_block n.0 c n.1 ∙ ap Swept e)))
    ]
  ]

  pub none_open : (z : ℕ) → length s.blocks ≡ p.config.blocks → HasNoClearSlot s z → (c : ℕ) → c < p.config.blocks → IsShut p g b c z
  none_open z number none c there = shut z c there (none c (omega arith))

  -- the first clear slot is the first open one
  pub first_slot : (z c i : ℕ) → c < p.config.blocks → HasClearSlot s z c i → ((d : ℕ) → d < c → LacksClearSlot s z d) → IsFirstSlot p g b c z i
  first_slot z c i there clear below = record {
    open_slot = record {
      there = there;
      fits = clear.fits;
      size = λ n h. elim clear.state [
        | inl free ↦ absurd (free_swept (block_in s c) (slot_words (g.size n)) free.0 (in_block n c h))
        | inr swept ↦ swept_once (slot_words (g.size n)) z (sym (in_block n c h) ∙ swept.0)
      ];
      empty = empty z c i there clear;
      lowest = λ k l. elim clear.state [
        | inl free ↦ absurd (let none = free.1 in omega arith)
        | inr swept ↦ filled c z k there swept.0 (swept.2 k l)
      ];
    };
    below = λ d l. shut z d (omega arith) (below d l);
  }
