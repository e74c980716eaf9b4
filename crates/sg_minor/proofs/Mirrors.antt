-- How block words and occupancies are by a book, where no block is to be swept; and a slot that gets an object.
use Rattle.std.proofs.Common.{◌≡◌, ◌≢◌, ℕ, ◌+◌, ◌*◌, ◌^◌, ◌<◌, ◌≤◌, ◌⊎◌, inl, inr, true, refl, sym, ap, ◌∙◌, subst, arith}
use Rattle.std.specs.Int.{bit_at}
use Rattle.std.specs.Int.Bits.{bit_or}
use Rattle.std.proofs.lemmas.Bool.{cases_eq}
use Rattle.std.proofs.lemmas.Nat.Bits.{bit_at-zero}
use Rattle.sg_words.specs.Words.{put}
use Rattle.sg_words.specs.Blocks.{IsSizeClass, slots}
use Rattle.sg_words.specs.declared.steps.BlockWord.{BlockWord}
use Rattle.sg_words.specs.declared.steps.BlockWord.TheVariants.{Free, Swept}
use Rattle.sg_words.proofs.Blocks.{slot_size-class, slot_size-holds, class_bounds, slot_fits, slot_once, bit_set, bit_same, bit_kept}
use Rattle.sg_words.proofs.Puts.{put-at, put-same, put-other}
use Rattle.sg_program.specs.declared.program.Program.{Program}
use Rattle.sg_program.specs.Scripts.{words_for}
use Rattle.sg_graph.specs.Graph.{Graph}
use Rattle.sg_graph.specs.Book.{Book, Old, nursery_end, slot_at, slot_words, IsWordOf, IsInBlock, IsInSlot, IsEmptySlot, IsOfSize, IsShut, IsFirstSlot}
use Rattle.sg_graph.specs.Copies.{moved_to_slot}
use Rattle.sg_round.specs.Order.{IsLowest}
use Rattle.sg_round.specs.Round.{IsPassed, IsClear}
use Rattle.sg_minor.proofs.Areas.{area_for}

pub same-size : (y z : ℕ) → Swept y ≡ Swept z → y ≡ z
same-size y z e = cc

pub free-swept : (state : BlockWord) (z : ℕ) → state ≡ Free → state ≡ Swept z → ⊥
free-swept state z e f = let k : Free ≡ Swept z = sym e ∙ f in cc

-- the old object n is at the front of slot `slot` of block `block`, whose word and occupancy say so
pub record IsSeated (p : Program) (g : Graph) (d : Book) (block_word : ℕ → BlockWord) (used : ℕ → ℕ) (n : ℕ) : Type 0 where
  pub block : ℕ
  pub slot : ℕ
  pub seat : IsInSlot p g d n block (slot_words (g.size n)) slot
  pub state : block_word block ≡ Swept (slot_words (g.size n))
  pub bit : bit_at (used block) slot ≡ 1

-- Each old object is in a slot of its size whose bit is set, and in each such slot is one; each block is free or swept, and where it is
-- swept it has an object.
pub record AreBlocksBy (p : Program) (g : Graph) (d : Book) (block : ℕ → BlockWord) (used : ℕ → ℕ) : Type 0 where
  pub seated : (n : ℕ) → 1 ≤ n → d.stands n ≡ true → d.section n ≡ Old → IsSeated p g d block used n
  pub filled : (c z i : ℕ) → c < p.config.blocks → block c ≡ Swept z → bit_at (used c) i ≡ 1 → (n : ℕ) × IsInSlot p g d n c z i
  pub states : (c : ℕ) → c < p.config.blocks → (block c ≡ Free) ⊎ ((z : ℕ) × IsSizeClass z × (block c ≡ Swept z))
  pub bare : (c : ℕ) → c < p.config.blocks → block c ≡ Free → used c ≡ 0
  pub inhabited : (c z : ℕ) → c < p.config.blocks → block c ≡ Swept z → (n : ℕ) × IsInBlock p d n c
  pub small : (n : ℕ) → 1 ≤ n → d.stands n ≡ true → words_for (g.size n) ≤ 64
  pub others : (n : ℕ) → 1 ≤ n → d.stands n ≡ true → (d.section n ≡ Old) ⊎ (d.address n + words_for (g.size n) ≤ nursery_end p)

pub slot-some : (n : ℕ) → 4 ≤ slot_words n
slot-some n = (class_bounds (slot_words n) (slot_size-class (words_for n))).0

module _ (p : Program) (g : Graph) (d : Book) (block : ℕ → BlockWord) (used : ℕ → ℕ) (by : AreBlocksBy p g d block used) where
  -- an object in a block, by its seat
  seat_block : (n j : ℕ) → IsInBlock p d n j → (q : IsSeated p g d block used n) → q.block ≡ j
  seat_block n j h q =
      let fit = slot_fits (slot_words (g.size n)) q.slot q.seat.fits in
      let some = slot-some (g.size n) in
      let at = q.seat.at in
      let low = h.above in
      let high = h.below in
      omega arith

  pub in_block : (n j : ℕ) → IsInBlock p d n j → block j ≡ Swept (slot_words (g.size n))
  in_block n j h = let q = by.seated n h.some h.stands h.old in ap block (sym (seat_block n j h q)) ∙ q.state

  -- a word of a standing object that is one of a slot
  word_seat : (n x c z i : ℕ) → IsWordOf g d n x → i < slots z → slot_at p c z i ≤ x → x < slot_at p c z i + z → (d.section n ≡ Old) ×
      ((q : IsSeated p g d block used n) → q.block ≡ c)
  word_seat n x c z i h l from to =
      let low = h.above in
      let high = h.below in
      let fit = slot_fits z i l in
      elim (by.others n h.some h.stands) [
        | inr young ↦ absurd (omega arith)
        | inl old ↦ (
          old,
          λ q.
              let size = slot_size-holds (words_for (g.size n)) (by.small n h.some h.stands) in
              let mine = slot_fits (slot_words (g.size n)) q.slot q.seat.fits in
              let at = q.seat.at in
              omega arith,
        )
      ]

  -- a slot that can be claimed is empty
  pub clear_empty : (c z i : ℕ) → i < slots z → IsClear block used c z i → IsEmptySlot p g d c z i
  clear_empty c z i l clear n x h from to =
      let k = word_seat n x c z i h l from to in
      let q = by.seated n h.some h.stands k.0 in
      let here = k.1 q in
      let state = ap block (sym here) ∙ q.state in
      elim clear [
        | inl free ↦ free-swept (block c) (slot_words (g.size n)) free state
        | inr swept ↦
            let size : slot_words (g.size n) ≡ z = same-size (slot_words (g.size n)) z (sym state ∙ swept.0) in
            let holds = slot_size-holds (words_for (g.size n)) (by.small n h.some h.stands) in
            let at = q.seat.at in
            let low = h.above in
            let high = h.below in
            let mine = ap (λ y. y * q.slot) size in
            let start : slot_at p c z q.slot ≤ x = omega arith in
            let end : x < slot_at p c z q.slot + z = omega arith in
            let same : q.slot ≡ i = slot_once (nursery_end p) c z q.slot i x start end from to in
            let set : bit_at (used c) i ≡ 1 = ap (λ y. bit_at (used y) i) (sym here) ∙ ap (λ y. bit_at (used q.block) y) (sym same) ∙ q.bit in
            let unset = swept.1 in
            omega arith
      ]

  lowest_clear : (z j i : ℕ) → IsLowest (area_for p) block used z j i → IsClear block used j z i
  lowest_clear z j i low = elim low.state [
    | inl free ↦ inl free
    | inr swept ↦ inr (swept, low.clear)
  ]

  of_size : (z j i : ℕ) → IsLowest (area_for p) block used z j i → IsOfSize p g d j z
  of_size z j i low n h = elim low.state [
    | inl free ↦ absurd (free-swept (block j) (slot_words (g.size n)) free (in_block n j h))
    | inr swept ↦ same-size (slot_words (g.size n)) z (sym (in_block n j h) ∙ swept)
  ]

  -- a block that can't take an object is shut for it
  pub passed_shut : (z k : ℕ) → k < p.config.blocks → IsPassed block used z k → IsShut p g d k z
  passed_shut z k there passed = elim (by.states k there) [
    | inl free ↦ absurd (passed.taken free)
    | inr q ↦ elim (cases_eq q.0 z) [
      | inl e ↦ inr (λ i l. by.filled k z i there (q.2 ∙ ap Swept e) (passed.full (q.2 ∙ ap Swept e) i l))
      | inr other ↦
          let n = by.inhabited k q.0 there q.2 in
          inl (n.0, n.1, λ e. other (same-size q.0 z (sym q.2 ∙ in_block n.0 k n.1 ∙ ap Swept e)))
    ]
  ]

  pub first_slot : (z j i : ℕ) → IsLowest (area_for p) block used z j i → IsFirstSlot p g d j z i
  first_slot z j i low = record {
    open_slot = record {
      there = low.there;
      fits = low.fits;
      size = of_size z j i low;
      empty = clear_empty j z i low.fits (lowest_clear z j i low);
      lowest = λ k l. elim low.state [
        | inl free ↦ absurd (let set = low.slots k l in let none = ap (λ u. bit_at u k) (by.bare j low.there free) ∙ bit_at-zero k in omega arith)
        | inr swept ↦ by.filled j z k low.there swept (low.slots k l)
      ];
    };
    below = λ k l. passed_shut z k (let there = low.there in omega arith) (low.blocks k l);
  }

  -- the object n, which was young, goes to the slot
  module _ (n j i : ℕ) (some : 1 ≤ n) (stands : d.stands n ≡ true) (young : d.section n ≢ Old)
      (low : IsLowest (area_for p) block used (slot_words (g.size n)) j i) where
    abbrev z : ℕ
    z = slot_words (g.size n)

    abbrev d' : Book
    d' = moved_to_slot d n (slot_at p j z i)

    abbrev block' : ℕ → BlockWord
    block' = put block j (Swept z)

    abbrev used' : ℕ → ℕ
    used' = put used j (bit_or (used j) (2 ^ i))

    not_old : (m : ℕ) → d.section m ≡ Old → m ≢ n
    not_old m old e = young (ap d.section (sym e) ∙ old)

    address_other : (m : ℕ) → m ≢ n → d'.address m ≡ d.address m
    address_other m other = put-other d.address n (slot_at p j z i) m other

    section_other : (m : ℕ) → m ≢ n → d'.section m ≡ d.section m
    section_other m other = put-other d.section n Old m other

    keeps_slot : (m c y k : ℕ) → IsInSlot p g d m c y k → IsInSlot p g d' m c y k
    keeps_slot m c y k h =
        let other = not_old m h.old in
        record {
          some = h.some;
          stands = h.stands;
          old = section_other m other ∙ h.old;
          sized = h.sized;
          there = h.there;
          fits = h.fits;
          at = address_other m other ∙ h.at;
        }

    new_slot : IsInSlot p g d' n j z i
    new_slot = record {
      some = some;
      stands = stands;
      old = put-same d.section n Old;
      sized = refl;
      there = low.there;
      fits = low.fits;
      at = put-same d.address n (slot_at p j z i);
    }

    -- where block j had a size, it was this one
    old_size : (y : ℕ) → block j ≡ Swept y → y ≡ z
    old_size y e = elim low.state [
      | inl free ↦ absurd (free-swept (block j) y free e)
      | inr swept ↦ same-size y z (sym e ∙ swept)
    ]

    new_state : (c : ℕ) → c ≡ j → block' c ≡ Swept z
    new_state c e = put-at block j (Swept z) c e

    new_used : (c : ℕ) → c ≡ j → used' c ≡ bit_or (used j) (2 ^ i)
    new_used c e = put-at used j (bit_or (used j) (2 ^ i)) c e

    seated_new : IsSeated p g d' block' used' n
    seated_new = record {
      block = j;
      slot = i;
      seat = new_slot;
      state = new_state j refl;
      bit = ap (λ u. bit_at u i) (new_used j refl) ∙ bit_set (used j) i;
    }

    seated_other : (m : ℕ) → IsSeated p g d block used m → IsSeated p g d' block' used' m
    seated_other m q = elim (cases_eq q.block j) [
      | inl e ↦ record {
        block = q.block;
        slot = q.slot;
        seat = keeps_slot m q.block (slot_words (g.size m)) q.slot q.seat;
        state = new_state q.block e ∙ ap Swept (sym (old_size (slot_words (g.size m)) (ap block (sym e) ∙ q.state)));
        bit = ap (λ u. bit_at u q.slot) (new_used q.block e) ∙ bit_kept (used j) i q.slot (ap (λ c. bit_at (used c) q.slot) (sym e) ∙ q.bit);
      }
      | inr other ↦ record {
        block = q.block;
        slot = q.slot;
        seat = keeps_slot m q.block (slot_words (g.size m)) q.slot q.seat;
        state = put-other block j (Swept z) q.block other ∙ q.state;
        bit = ap (λ u. bit_at u q.slot) (put-other used j (bit_or (used j) (2 ^ i)) q.block other) ∙ q.bit;
      }
    ]

    filled_there : (k : ℕ) → bit_at (bit_or (used j) (2 ^ i)) k ≡ 1 → (m : ℕ) × IsInSlot p g d' m j z k
    filled_there k set = elim (cases_eq k i) [
      | inl e ↦ (n, subst (IsInSlot p g d' n j z) (sym e) new_slot)
      | inr other ↦
          let before : bit_at (used j) k ≡ 1 = sym (bit_same (used j) i k other) ∙ set in
          elim low.state [
            | inl free ↦ absurd (let none = ap (λ u. bit_at u k) (by.bare j low.there free) ∙ bit_at-zero k in omega arith)
            | inr swept ↦ let m = by.filled j z k low.there swept before in (m.0, keeps_slot m.0 j z k m.1)
          ]
    ]

    filled_new : (c y k : ℕ) → c < p.config.blocks → block' c ≡ Swept y → bit_at (used' c) k ≡ 1 → (m : ℕ) × IsInSlot p g d' m c y k
    filled_new c y k there e set = elim (cases_eq c j) [
      | inl here ↦
          let size : z ≡ y = same-size z y (sym (new_state c here) ∙ e) in
          let m = filled_there k (sym (ap (λ u. bit_at u k) (new_used c here)) ∙ set) in
          (m.0, subst (λ b. IsInSlot p g d' m.0 b y k) (sym here) (subst (λ u. IsInSlot p g d' m.0 j u k) size m.1))
      | inr other ↦
          let m = by.filled c y k there (sym (put-other block j (Swept z) c other) ∙ e)
          (sym (ap (λ u. bit_at u k) (put-other used j (bit_or (used j) (2 ^ i)) c other)) ∙ set) in
          (m.0, keeps_slot m.0 c y k m.1)
    ]

    new_in_block : IsInBlock p d' n j
    new_in_block =
        let fit = slot_fits z i low.fits in
        let size = slot-some (g.size n) in
        let at = put-same d.address n (slot_at p j z i) in
        record { some = some; stands = stands; old = put-same d.section n Old; above = omega arith; below = omega arith }

    keeps_block : (m c : ℕ) → IsInBlock p d m c → IsInBlock p d' m c
    keeps_block m c h =
        let other = not_old m h.old in
        let at = address_other m other in
        let low = h.above in
        let high = h.below in
        record { some = h.some; stands = h.stands; old = section_other m other ∙ h.old; above = omega arith; below = omega arith }

    pub moved_by : AreBlocksBy p g d' block' used'
    moved_by = record {
      seated = λ m l s o. elim (cases_eq m n) [
        | inl e ↦ subst (IsSeated p g d' block' used') (sym e) seated_new
        | inr other ↦ seated_other m (by.seated m l s (sym (section_other m other) ∙ o))
      ];
      filled = filled_new;
      states = λ c there. elim (cases_eq c j) [
        | inl e ↦ inr (z, slot_size-class (words_for (g.size n)), new_state c e)
        | inr other ↦ subst (λ (w : BlockWord). (w ≡ Free) ⊎ ((y : ℕ) × IsSizeClass y × (w ≡ Swept y))) (sym (put-other block j (Swept z) c other))
            (by.states c there)
      ];
      bare = λ c there e. elim (cases_eq c j) [
        | inl here ↦ absurd (free-swept (block' c) z e (new_state c here))
        | inr other ↦ put-other used j (bit_or (used j) (2 ^ i)) c other ∙ by.bare c there (sym (put-other block j (Swept z) c other) ∙ e)
      ];
      inhabited = λ c y there e. elim (cases_eq c j) [
        | inl here ↦ (n, subst (IsInBlock p d' n) (sym here) new_in_block)
        | inr other ↦ let m = by.inhabited c y there (sym (put-other block j (Swept z) c other) ∙ e) in (m.0, keeps_block m.0 c m.1)
      ];
      small = by.small;
      others = λ m l s. elim (cases_eq m n) [
        | inl e ↦ inl (ap d'.section e ∙ put-same d.section n Old)
        | inr other ↦ elim (by.others m l s) [
          | inl old ↦ inl (section_other m other ∙ old)
          | inr nursery ↦ inr (let at = address_other m other in omega arith)
        ]
      ];
    }

-- the same by a book in which exactly the same old objects stand where they stood, and by the same block words and occupancies
pub record IsOldAs (g : Graph) (p : Program) (d e : Book) : Type 0 where
  pub old : (n : ℕ) → 1 ≤ n → d.stands n ≡ true → d.section n ≡ Old → (e.stands n ≡ true) × (e.section n ≡ Old) × (e.address n ≡ d.address n)
  pub back : (n : ℕ) → 1 ≤ n → e.stands n ≡ true → e.section n ≡ Old → (d.stands n ≡ true) × (d.section n ≡ Old)
  pub stood : (n : ℕ) → 1 ≤ n → e.stands n ≡ true → d.stands n ≡ true
  pub others : (n : ℕ) → 1 ≤ n → e.stands n ≡ true → (e.section n ≡ Old) ⊎ (e.address n + words_for (g.size n) ≤ nursery_end p)

module _ (p : Program) (g : Graph) (d e : Book) (block block' : ℕ → BlockWord) (used used' : ℕ → ℕ) (by : AreBlocksBy p g d block used)
    (alike : IsOldAs g p d e)
    (blocks : (c : ℕ) → block' c ≡ block c) (bits : (c : ℕ) → used' c ≡ used c) where
  slot_as : (m c y k : ℕ) → IsInSlot p g d m c y k → IsInSlot p g e m c y k
  slot_as m c y k h =
      let q = alike.old m h.some h.stands h.old in
      record { some = h.some; stands = q.0; old = q.1; sized = h.sized; there = h.there; fits = h.fits; at = q.2 ∙ h.at }

  block_as : (m c : ℕ) → IsInBlock p d m c → IsInBlock p e m c
  block_as m c h =
      let q = alike.old m h.some h.stands h.old in
      let at = q.2 in
      let low = h.above in
      let high = h.below in
      record { some = h.some; stands = q.0; old = q.1; above = omega arith; below = omega arith }

  pub blocks_as : AreBlocksBy p g e block' used'
  blocks_as = record {
    seated = λ n l s o.
        let b = alike.back n l s o in
        let q = by.seated n l b.0 b.1 in
        record {
          block = q.block;
          slot = q.slot;
          seat = slot_as n q.block (slot_words (g.size n)) q.slot q.seat;
          state = blocks q.block ∙ q.state;
          bit = ap (λ u. bit_at u q.slot) (bits q.block) ∙ q.bit;
        };
    filled = λ c z i there state set.
        let m = by.filled c z i there (sym (blocks c) ∙ state) (ap (λ u. bit_at u i) (sym (bits c)) ∙ set) in
        (m.0, slot_as m.0 c z i m.1);
    states = λ c there. subst (λ (w : BlockWord). (w ≡ Free) ⊎ ((y : ℕ) × IsSizeClass y × (w ≡ Swept y))) (sym (blocks c)) (by.states c there);
    bare = λ c there free. bits c ∙ by.bare c there (sym (blocks c) ∙ free);
    inhabited = λ c z there state. let m = by.inhabited c z there (sym (blocks c) ∙ state) in (m.0, block_as m.0 c m.1);
    small = λ n l s. by.small n l (alike.stood n l s);
    others = alike.others;
  }
