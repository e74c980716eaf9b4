-- The blocks after a major pause: each in which something stood is to be swept, and exactly the marked slots' objects stand.
use Rattle.std.proofs.Common.{◌≡◌, ◌≢◌, ℕ, ◌+◌, ◌*◌, ◌<◌, ◌≤◌, subst, Bool, true, false, sym, refl, ap, ◌∙◌, arith, inl, inr, ◌↔◌, le_refl}
use Rattle.std.proofs.lemmas.Bool.{cases_eq, false≢true}
use Rattle.std.specs.Int.{bit_at}
use Rattle.std.proofs.lemmas.Nat.Bits.{bit_at-zero, same_from_bits}
use Rattle.sg_words.specs.Blocks.{slots, IsOf, is_taken, IsOwing}
use Rattle.sg_words.specs.Words.{Words}
use Rattle.sg_words.specs.declared.steps.BlockWord.{BlockWord}
use Rattle.sg_words.specs.declared.steps.BlockWord.TheVariants.{Free, Swept, Need, Sweeping}
use Rattle.sg_words.proofs.Blocks.{slot_once, slot_fits, slot_size-class, class_bounds, slot_size-holds, bit_cases}
use Rattle.sg_program.specs.Scripts.{words_for}
use Rattle.sg_graph.specs.Book.{Old, nursery_end, block_at, slot_at, slot_words, IsInBlock, IsSoundBook}
use Rattle.sg_graph.specs.Blocks.{IsOldAt, IsDirty, AreBlocks, AreSettled}
use Rattle.sg_graph.specs.Heap.{Of}
use Rattle.sg_major.specs.Parts.{owed_word}
use Rattle.sg_major.proofs.Shrunk.{Shrunk, booked, owner2, owns, apart, of-same, name-some}

-- whether a block that had this word is owed
unfoldable pub owes : BlockWord → Bool
owes Free = false
owes (Swept z) = true
owes (Need z) = true
owes (Sweeping z) = true

size_owed : (state : BlockWord) (s : ℕ) → IsOf state s → IsOf (owed_word state) s
size_owed Free s o = o
size_owed (Swept z) s o = o
size_owed (Need z) s o = o
size_owed (Sweeping z) s o = o

owed_size : (state : BlockWord) (s : ℕ) → IsOf (owed_word state) s → IsOf state s
owed_size Free s o = o
owed_size (Swept z) s o = o
owed_size (Need z) s o = o
owed_size (Sweeping z) s o = o

size_owing : (state : BlockWord) (s : ℕ) → IsOf state s → IsOwing (owed_word state) s
size_owing Free s o = o
size_owing (Swept z) s o = o
size_owing (Need z) s o = o
size_owing (Sweeping z) s o = o

owing_owes : (state : BlockWord) (s : ℕ) → IsOwing (owed_word state) s → owes state ≡ true
unfolding owes
owing_owes Free s o = absurd o
owing_owes (Swept z) s o = refl
owing_owes (Need z) s o = refl
owing_owes (Sweeping z) s o = refl

owing_size : (state : BlockWord) (s : ℕ) → IsOwing (owed_word state) s → IsOf state s
owing_size Free s o = absurd o
owing_size (Swept z) s o = o
owing_size (Need z) s o = o
owing_size (Sweeping z) s o = o

taken_owed : (state : BlockWord) (s used marks i : ℕ) → IsOf state s → is_taken (owed_word state) used marks i ≡ bit_at marks i
taken_owed Free s used marks i o = absurd o
taken_owed (Swept z) s used marks i o = refl
taken_owed (Need z) s used marks i o = refl
taken_owed (Sweeping z) s used marks i o = refl

free_owed : (state : BlockWord) → owed_word state ≡ Free → state ≡ Free
free_owed Free e = refl
free_owed (Swept z) e = cc
free_owed (Need z) e = cc
free_owed (Sweeping z) e = cc

pub never_swept : (state : BlockWord) (z : ℕ) → owed_word state ≡ Swept z → ⊥
never_swept Free z e = let k : Free ≡ Swept z = e in cc
never_swept (Swept y) z e = let k : Need y ≡ Swept z = e in cc
never_swept (Need y) z e = let k : Need y ≡ Swept z = e in cc
never_swept (Sweeping y) z e = let k : Sweeping y ≡ Swept z = e in cc

sweeping_owed : (state : BlockWord) (z : ℕ) → owed_word state ≡ Sweeping z → state ≡ Sweeping z
sweeping_owed Free z e = absurd (let k : Free ≡ Sweeping z = e in cc)
sweeping_owed (Swept y) z e = absurd (let k : Need y ≡ Sweeping z = e in cc)
sweeping_owed (Need y) z e = absurd (let k : Need y ≡ Sweeping z = e in cc)
sweeping_owed (Sweeping y) z e = e

need_owes : (state : BlockWord) → ((z : ℕ) → state ≡ Sweeping z → ⊥) → owes state ≡ true → (z : ℕ) × (owed_word state ≡ Need z)
unfolding owes
need_owes Free n e = absurd (false≢true e)
need_owes (Swept z) n e = (z, refl)
need_owes (Need z) n e = (z, refl)
need_owes (Sweeping z) n e = absurd (n z refl)

pub taken_used : (state : BlockWord) (s used marks i : ℕ) → IsOf state s → (IsOwing state s → ⊥) → is_taken state used marks i ≡ bit_at used i
taken_used Free s used marks i o n = absurd o
taken_used (Swept z) s used marks i o n = refl
taken_used (Need z) s used marks i o n = absurd (n o)
taken_used (Sweeping z) s used marks i o n = absurd (n o)

pub one_size_of : (state : BlockWord) (y z : ℕ) → IsOf state y → IsOf state z → y ≡ z
one_size_of Free y z a c = absurd a
one_size_of (Swept s) y z a c = sym a ∙ c
one_size_of (Need s) y z a c = sym a ∙ c
one_size_of (Sweeping s) y z a c = sym a ∙ c

swept_owes : (state : BlockWord) → ((z : ℕ) → IsOwing state z → ⊥) → owes state ≡ true → (z : ℕ) × (state ≡ Swept z)
unfolding owes
swept_owes Free n e = absurd (false≢true e)
swept_owes (Swept z) n e = (z, refl)
swept_owes (Need z) n e = absurd (n z refl)
swept_owes (Sweeping z) n e = absurd (n z refl)

of_owes : (state : BlockWord) (z : ℕ) → IsOf state z → owes state ≡ true
unfolding owes
of_owes Free z o = absurd o
of_owes (Swept s) z o = refl
of_owes (Need s) z o = refl
of_owes (Sweeping s) z o = refl

-- Of a heap in which no block is owed: each live name in the major heap has its slot marked, and each mark is on the slot of one.
module _ (c : Shrunk) (w : Words) (settled : AreSettled c.p w c.g c.b c.owner) (none : (j z : ℕ) → j < c.p.config.blocks → IsOwing (w.block j) z → ⊥)
    (word_is : (x : ℕ) → w.word x ≡ c.w x) (owed_is : (j : ℕ) → c.owed j ≡ owes (w.block j)) (few : (n : ℕ) → n ≢ 0 → c.b.stands n ≡ true → c.g.size n ≤ 62)
    (marks : ℕ → ℕ)
    (hits : (n j z i : ℕ) → n ≢ 0 → c.live n ≡ true → c.b.section n ≡ Old → j < c.p.config.blocks → IsOf (w.block j) z → i < slots z → c.b.address n ≡ slot_at c.p j z i →
    bit_at (marks j) i ≡ 1)
    (only : (j i : ℕ) → bit_at (marks j) i ≡ 1 → (n z : ℕ) × (n ≢ 0) × (c.live n ≡ true) × (c.b.section n ≡ Old) × IsOf (w.block j) z × (i < slots z) × (c.b.address n ≡ slot_at c.p j z i)) where
  abbrev size_in : ℕ → ℕ
  size_in n = slot_words (c.g.size n)

  some_words : (n : ℕ) → 4 ≤ size_in n
  some_words n = (class_bounds (size_in n) (slot_size-class (words_for (c.g.size n)))).0

  -- the slot of an old object that stood
  pub record IsSeated (n : ℕ) : Type 0 where
    pub block : ℕ
    pub slot : ℕ
    pub there : block < c.p.config.blocks
    pub fits : slot < slots (size_in n)
    pub at : c.b.address n ≡ slot_at c.p block (size_in n) slot
    pub of : IsOf (w.block block) (size_in n)
    pub used : bit_at (w.used block) slot ≡ 1

  pub seated : (n : ℕ) → 1 ≤ n → c.b.stands n ≡ true → c.b.section n ≡ Old → IsSeated n
  seated n l s o =
      let h = settled.blocks.placed n l s o in
      record {
        block = h.0;
        slot = h.2.slot;
        there = h.1;
        fits = h.2.fits;
        at = h.2.address;
        of = h.2.of;
        used = sym (taken_used (w.block h.0) (size_in n) (w.used h.0) (w.marks h.0) h.2.slot h.2.of (none h.0 (size_in n) h.1)) ∙ h.2.taken;
      }

  -- and it is the one at that address
  pub seat_is : (n j z i : ℕ) (s : IsSeated n) → IsOf (w.block j) z → i < slots z → c.b.address n ≡ slot_at c.p j z i → (s.block ≡ j) × (size_in n ≡ z) × (s.slot ≡ i)
  seat_is n j z i s of fits at =
      let here = s.at in
      let some = some_words n in
      let f = slot_fits (size_in n) s.slot s.fits in
      let e : s.block ≡ j = block_at_once s.block j (size_in n) z s.slot i some (slot_fits (size_in n) s.slot s.fits) (slot_fits z i fits) fits (sym here ∙ at) in
      let size : size_in n ≡ z = one_size_of (w.block j) (size_in n) z (subst (λ k. IsOf (w.block k) (size_in n)) e s.of) of in
      let moved : slot_at c.p j (size_in n) s.slot ≡ slot_at c.p j (size_in n) i = (let q = ap (λ k. slot_at c.p k (size_in n) s.slot) e in let r = ap (λ k. slot_at c.p j k i) size in sym q ∙ sym here ∙ at ∙ sym r) in
      (e, size, slot_once (nursery_end c.p) j (size_in n) s.slot i (slot_at c.p j (size_in n) s.slot) (le_refl _) (omega arith) (omega arith) (omega arith))
    where
      block_at_once : (a d y z k i : ℕ) → 4 ≤ y → y * k + y ≤ 256 → z * i + z ≤ 256 → i < slots z → slot_at c.p a y k ≡ slot_at c.p d z i → a ≡ d
      block_at_once a d y z k i some f q r e = elim (cases_eq z 0) [
        | inl o ↦ absurd (let u = ap slots o in omega arith)
        | inr o ↦ omega arith
      ]

  pub blocks_after : AreBlocks c.p marks (λ j. owed_word (w.block j)) w.used c.v c.g.size c.live c.b.address c.b.section c.owed (owner2 c)
  blocks_after = record {
    placed = λ n l q o.
        let s = seated n l (c.stood n q) o in (
          s.block,
          s.there,
          record {
            slot = s.slot;
            fits = s.fits;
            address = s.at;
            of = size_owed (w.block s.block) (size_in n) s.of;
            taken = taken_owed (w.block s.block) (size_in n) (w.used s.block) (marks s.block) s.slot s.of
                ∙ hits n s.block (size_in n) s.slot (name-some c n l) q o s.there s.of s.fits s.at;
          },
        );
    each = λ j there. record {
      filled = λ z i of f u. old_at j z i there (owed_size (w.block j) z of) (sym (taken_owed (w.block j) z (w.used j) (marks j) i (owed_size (w.block j) z of)) ∙ u);
      bare = λ e. (settled.blocks.each j there).bare (free_owed (w.block j) e);
      owing = λ z o. owed_is j ∙ owing_owes (w.block j) z o;
      kept = λ z i o m.
          let of = owing_size (w.block j) z o in
          let n = only j i m in
          let size = one_size_of (w.block j) n.1 z n.5 of in
          let s = seated n.0 (omega (arith, n.2)) (c.stood n.0 n.3) n.4 in
          let at = seat_is n.0 j n.1 i s n.5 n.6 n.7 in
          (subst (λ k. i < slots k) size n.6, ap (bit_at (w.used j)) (sym at.2) ∙ ap (λ k. bit_at (w.used k) s.slot) (sym at.0) ∙ s.used);
      unmarked = λ e. free_marks j there (free_owed (w.block j) e);
      within = λ z e i m. absurd (never_swept (w.block j) z e);
    };
    clear = λ j there x lo hi out clean. c.behind x (omega arith) ∙ sym (word_is x) ∙ settled.blocks.clear j there x lo hi
        (λ n e. gone n j x there lo hi e out clean)
        (λ d. none j d.size there d.owing);
    sized = λ j z there of. settled.blocks.sized j z there (owed_size (w.block j) z of);
  }
    where
      old_at : (j z i : ℕ) → j < c.p.config.blocks → IsOf (w.block j) z → bit_at (marks j) i ≡ 1 → (n : ℕ) × IsOldAt c.g.size c.live c.b.address c.b.section n (slot_at c.p j z i) z
      old_at j z i there of m =
          let n = only j i m in
          let size = one_size_of (w.block j) n.1 z n.5 of in
          let s = seated n.0 (omega (arith, n.2)) (c.stood n.0 n.3) n.4 in
          let at = seat_is n.0 j n.1 i s n.5 n.6 n.7 in
          (n.0, record { some = omega (arith, n.2); standing = n.3; old = n.4; at = n.7 ∙ ap (λ k. slot_at c.p j k i) size; sized = at.1 ∙ size })

      -- no bit of a free block is set, so its marks are none
      free_marks : (j : ℕ) → j < c.p.config.blocks → w.block j ≡ Free → marks j ≡ 0
      free_marks j there e = same_from_bits (marks j) 0 (λ i. elim (bit_cases (marks j) i) [
        | inl m ↦ (let n = only j i m in absurd (subst (λ (k : BlockWord). IsOf k n.1) e n.5))
        | inr u ↦ u ∙ sym (bit_at-zero i)
      ])

      gone : (n j x : ℕ) → j < c.p.config.blocks → block_at c.p j ≤ x → x < block_at c.p j + 256 → c.owner x ≡ Of n → ((k : ℕ) → owner2 c x ≢ Of k) →
          (IsDirty c.p (marks j) (owed_word (w.block j)) j x → ⊥) → ⊥
      gone n j x there lo hi e out clean =
          let h = c.heap.laid.objects.owned n x e in
          let from = h.1 in
          let to = h.2 in
          let d : n ≢ 0 = λ z. (let at = ap c.b.address z ∙ c.heap.laid.nothing.at_nil in let size = ap c.g.size z ∙ c.heap.laid.nothing.no_size in absurd (omega arith)) in
          elim (c.heap.laid.objects.inside n (omega arith) h.0) [
            | inl y ↦ let top = y.2 in absurd (omega arith)
            | inr y ↦
                let s = seated n (omega arith) h.0 y.0 in
                let at = s.at in
                let size = few n d h.0 in
                let holds = slot_size-holds (words_for (c.g.size n)) (omega arith) in
                let fit = slot_fits (size_in n) s.slot s.fits in
                let here : s.block ≡ j = omega arith in
                let of : IsOf (w.block j) (size_in n) = subst (λ k. IsOf (w.block k) (size_in n)) here s.of in
                let at_j : c.b.address n ≡ slot_at c.p j (size_in n) s.slot = at ∙ ap (λ k. slot_at c.p k (size_in n) s.slot) here in
                elim (bit_cases (marks j) s.slot) [
                  | inr u ↦ clean (record { size = size_in n; slot = s.slot; owing = size_owing (w.block j) (size_in n) of; fits = s.fits; unmarked = u; from = omega arith; to = omega arith })
                  | inl m ↦
                      let k = only j s.slot m in
                      let size_k = one_size_of (w.block j) k.1 (size_in n) k.5 of in
                      let same_at : c.b.address k.0 ≡ c.b.address n = k.7 ∙ ap (λ z. slot_at c.p j z s.slot) size_k ∙ sym at_j in
                      let same : k.0 ≡ n = of-same k.0 n (sym (c.heap.laid.objects.owns k.0 (c.b.address k.0) (c.stood k.0 k.3) (le_refl _) (omega arith)) ∙ ap c.owner same_at ∙
                      c.heap.laid.objects.owns n (c.b.address n) h.0 (le_refl _) (omega arith)) in
                      out n (owns c n x (ap c.live (sym same) ∙ k.3) from to)
                ]
          ]

  -- the words u are those after the pause
  module _ (u : Words) (block_is : (j : ℕ) → u.block j ≡ owed_word (w.block j)) (used_is : (j : ℕ) → u.used j ≡ w.used j) (marks_is : (j : ℕ) → u.marks j ≡ marks j)
      (after : (x : ℕ) → u.word x ≡ c.v x) (card_is : (k : ℕ) → u.card k ≡ w.card k) where
    abbrev AreAs : (ℕ → ℕ) → (ℕ → BlockWord) → (ℕ → ℕ) → (ℕ → ℕ) → Type 0
    AreAs m s o x = AreBlocks c.p m s o x c.g.size c.live c.b.address c.b.section c.owed (owner2 c)

    blocks_here : AreAs u.marks u.block u.used u.word
    blocks_here =
        let em : marks ≡ u.marks = λ i j. (sym (marks_is j)) i in
        let eb : (λ j. owed_word (w.block j)) ≡ u.block = λ i j. (sym (block_is j)) i in
        let eu : w.used ≡ u.used = λ i j. (sym (used_is j)) i in
        let ew : c.v ≡ u.word = λ i x. (sym (after x)) i in
        subst (λ (f : ℕ → ℕ). AreAs f u.block u.used u.word) em
        (subst (λ (f : ℕ → BlockWord). AreAs marks f u.used u.word) eb
        (subst (λ (f : ℕ → ℕ). AreAs marks (λ j. owed_word (w.block j)) f u.word) eu
        (subst (λ (f : ℕ → ℕ). AreAs marks (λ j. owed_word (w.block j)) w.used f) ew blocks_after)))

    pub settled_after : AreSettled c.p u c.g (booked c) (owner2 c)
    settled_after = record {
      blocks = blocks_here;
      settled = λ j z there e. settled.settled j z there (sweeping_owed (w.block j) z (sym (block_is j) ∙ e));
      inhabited = λ j z there e. absurd (never_swept (w.block j) z (sym (block_is j) ∙ e));
      owes = λ j there e.
          let n = need_owes (w.block j) (λ z q. settled.settled j z there q) (sym (owed_is j) ∙ e) in
          (n.0, block_is j ∙ n.1);
      cards = record {
        dirty = λ n i m l s o within strong ref some young. card_is _ ∙ settled.cards.dirty n i m l (c.stood n s) o within strong ref some young;
      };
    }

  in_block : (n j : ℕ) (s : IsSeated n) → block_at c.p j ≤ c.b.address n → c.b.address n < block_at c.p j + 256 → s.block ≡ j
  in_block n j s above below =
      let at = s.at in
      let some = some_words n in
      let fit = slot_fits (size_in n) s.slot s.fits in
      omega arith

  -- exactly the blocks in which something stood are owed
  pub used_blocks : (j : ℕ) → j < c.p.config.blocks → c.owed j ≡ true ↔ ((n : ℕ) × IsInBlock c.p c.b n j)
  used_blocks j there = (
    (λ e.
        let z = swept_owes (w.block j) (λ z. none j z there) (sym (owed_is j) ∙ e) in
        let n = settled.inhabited j z.0 there z.1 in
        let above = n.3 in (
          n.0,
          record {
            some = n.1;
            stands = n.2;
            old = elim (c.heap.laid.objects.inside n.0 n.1 n.2) [ inl y ↦ (let top = y.2 in absurd (omega arith)) | inr y ↦ y.0 ];
            above = n.3;
            below = n.4;
          },
        )),
    (λ n.
        let s = seated n.0 n.1.some n.1.stands n.1.old in
        let here = in_block n.0 j s n.1.above n.1.below in
        owed_is j ∙ of_owes (w.block j) (size_in n.0) (subst (λ k. IsOf (w.block k) (size_in n.0)) here s.of)),
  )

  pub sound_book : IsSoundBook c.p c.g (booked c)
  sound_book = record {
    apart = apart c;
    slotted = λ n l s o.
        let q = seated n l (c.stood n s) o in
        (q.block, q.slot, record { some = l; stands = s; old = o; sized = refl; there = q.there; fits = q.fits; at = q.at });
    one_size = λ m n j a d.
        let s = seated m a.some (c.stood m a.stands) a.old in
        let t = seated n d.some (c.stood n d.stands) d.old in
        one_size_of (w.block j) (size_in m) (size_in n)
        (subst (λ k. IsOf (w.block k) (size_in m)) (in_block m j s a.above a.below) s.of)
        (subst (λ k. IsOf (w.block k) (size_in n)) (in_block n j t d.above d.below) t.of);
  }
