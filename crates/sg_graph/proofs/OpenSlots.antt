-- Where no block is owed, the clear slots of the blocks are the open ones by the book.
use Rattle.std.proofs.Common.{◌≡◌, ◌≢◌, ℕ, zero, suc, ◌+◌, ◌<◌, ◌≤◌, ◌⊎◌, inl, inr, true, sym, refl, ap, ◌∙◌, subst, arith}
use Rattle.std.proofs.lemmas.Bool.{cases_eq}
use Rattle.std.proofs.lemmas.Nat.Bits.{bit_at-zero}
use Rattle.std.specs.Int.{bit_at}
use Rattle.sg_words.specs.Blocks.{slots, IsSizeClass, IsOf, IsOwing, is_taken}
use Rattle.sg_words.specs.declared.steps.BlockWord.{BlockWord}
use Rattle.sg_words.specs.declared.steps.BlockWord.TheVariants.{Free, Swept, Need as Owed, Sweeping}
use Rattle.sg_words.proofs.Blocks.{class_bounds, class_slots, slot_size-class, slot_size-holds, slot_fits, slot_once, block_once, bit_cases}
use Rattle.sg_program.specs.declared.program.Program.{Program}
use Rattle.sg_program.specs.Scripts.{words_for}
use Rattle.sg_graph.specs.Graph.{Graph}
use Rattle.sg_graph.specs.Heap.{Of}
use Rattle.sg_graph.specs.Book.{Book, Section, Young, Old, Large, nursery_end, slot_at, slot_words, IsInBlock, IsInSlot, IsEmptySlot, IsOpenSlot, IsShut}
use Rattle.sg_graph.specs.Blocks.{IsTakenAt, AreBlocks}
use Rattle.sg_graph.specs.Swept.{AreInhabited}
use Rattle.sg_graph.specs.Laws.{IsClearAt, HasNoClear, AreUnowed}
use Rattle.sg_graph.proofs.OneSearch.{taken_empty, shut_open}

-- the first of n numbers for which this holds, where that is told of each
pub first_of : (P Q : ℕ → Type 0) (n : ℕ) → ((i : ℕ) → i < n → P i ⊎ Q i) → ((i : ℕ) × (i < n) × P i × ((j : ℕ) → j < i → Q j)) ⊎ ((i : ℕ) → i < n → Q i)
first_of P Q zero told = inr (λ i l. absurd (omega arith))
first_of P Q (suc n) told = elim (first_of P Q n (λ i l. told i (omega arith))) [
  | inl h ↦ inl (h.0, (let l = h.1 in omega arith), h.2, h.3)
  | inr none ↦ elim (told n (omega arith)) [
    | inl here ↦ inl (n, omega arith, here, none)
    | inr not_here ↦ inr (λ i l. elim (cases_eq i n) [
      | inl e ↦ subst Q (sym e) not_here
      | inr ne ↦ none i (omega arith)
    ])
  ]
]

is_old : (s : Section) → (s ≡ Old) ⊎ (s ≢ Old)
is_old Young = inr (λ e. let q : Young ≡ Old = e in cc q)
is_old Old = inl refl
is_old Large = inr (λ e. let q : Large ≡ Old = e in cc q)

state_of : (w : BlockWord) → (w ≡ Free) ⊎ (((z : ℕ) × (w ≡ Swept z)) ⊎ ((z : ℕ) × IsOwing w z))
state_of Free = inl refl
state_of (Swept z) = inr (inl (z, refl))
state_of (Owed z) = inr (inr (z, refl))
state_of (Sweeping z) = inr (inr (z, refl))

-- What matters of a graph's sizes, a book and the blocks where places are looked for: the blocks are as their words say and none is owed, an object
-- stands in each swept one, old objects are small, and all else lies in front of the major heap.
pub record AreRooms (p : Program) (count : ℕ) (size : ℕ → ℕ) (b : Book) (marks : ℕ → ℕ) (state : ℕ → BlockWord) (used : ℕ → ℕ) : Type 0 where
  pub blocks : AreBlocks p marks state used (λ _. 0) size b.stands b.address b.section b.owed (λ _. Of 0)
  pub unowed : AreUnowed p state
  pub inhabited : AreInhabited p state b.stands b.address
  pub named : (n : ℕ) → b.stands n ≡ true → n ≤ count
  pub small : (n : ℕ) → 1 ≤ n → b.stands n ≡ true → b.section n ≡ Old → words_for (size n) ≤ 64
  pub front : (n : ℕ) → 1 ≤ n → b.stands n ≡ true → b.section n ≢ Old → b.address n + words_for (size n) ≤ nursery_end p
  pub limits : (f : ℕ) → f < b.fragments → b.limit f ≤ nursery_end p

module _ (p : Program) (g : Graph) (b : Book) (marks used : ℕ → ℕ) (state : ℕ → BlockWord) (r : AreRooms p g.count g.size b marks state used) where
  -- an old object is in a slot of its block
  in_slot : (name c : ℕ) → IsInBlock p b name c → IsTakenAt p (marks c) (b.address name) (slot_words (g.size name)) c (state c) (used c)
  in_slot name c o =
      let k = r.blocks.placed name o.some o.stands o.old in
      let fits = slot_fits (slot_words (g.size name)) k.2.slot k.2.fits in
      let least = (class_bounds (slot_words (g.size name)) (slot_size-class (words_for (g.size name)))).0 in
      let at = k.2.address in
      let above = o.above in
      let below = o.below in
      let same : k.0 ≡ c = omega arith in
      subst (λ c. IsTakenAt p (marks c) (b.address name) (slot_words (g.size name)) c (state c) (used c)) same k.2

  -- none is in a free block
  free_empty : (name c : ℕ) → state c ≡ Free → IsInBlock p b name c → ⊥
  free_empty name c e o = subst (λ w. IsOf w (slot_words (g.size name))) e (in_slot name c o).of

  free_bit : (c i : ℕ) → c < p.config.blocks → state c ≡ Free → bit_at (used c) i ≡ 0
  free_bit c i l e = ap (λ bits. bit_at bits i) ((r.blocks.each c l).bare e) ∙ bit_at-zero i

  -- those in a swept one have its size
  swept_sized : (name c z : ℕ) → state c ≡ Swept z → IsInBlock p b name c → slot_words (g.size name) ≡ z
  swept_sized name c z e o = sym (subst (λ w. IsOf w (slot_words (g.size name))) e (in_slot name c o).of)

  swept_class : (c z : ℕ) → c < p.config.blocks → state c ≡ Swept z → IsSizeClass z
  swept_class c z l e = r.blocks.sized c z l (subst (λ w. IsOf w z) (sym e) refl)

  -- and one does
  swept_has : (c z : ℕ) → c < p.config.blocks → state c ≡ Swept z → (name : ℕ) × IsInBlock p b name c
  swept_has c z l e =
      let k = r.inhabited c z l e in
      let above = k.3 in
      let below = k.4 in
      elim (is_old (b.section k.0)) [
        | inl old ↦ (k.0, record { some = k.1; stands = k.2; old = old; above = above; below = below })
        | inr young ↦ absurd (let f = r.front k.0 k.1 k.2 young in omega arith)
      ]

  block_has : (name c z i : ℕ) → IsSizeClass z → IsInSlot p g b name c z i → IsInBlock p b name c
  block_has name c z i class o =
      let at = o.at in
      let fits = slot_fits z i o.fits in
      let least = (class_bounds z class).0 in
      record { some = o.some; stands = o.stands; old = o.old; above = omega arith; below = omega arith }

  -- a slot of a swept block has an object exactly where its bit is set
  filled : (c z i : ℕ) → c < p.config.blocks → state c ≡ Swept z → i < slots z → bit_at (used c) i ≡ 1 → (name : ℕ) × IsInSlot p g b name c z i
  filled c z i l e fits set =
      let taken : is_taken (state c) (used c) (marks c) i ≡ 1 = subst (λ w. is_taken w (used c) (marks c) i ≡ 1) (sym e) set in
      let o = (r.blocks.each c l).filled z i (subst (λ w. IsOf w z) (sym e) refl) fits taken in
      (o.0, record { some = o.1.some; stands = o.1.standing; old = o.1.old; sized = o.1.sized; there = l; fits = fits; at = o.1.at })

  -- where an object is in a swept block: the slot, which is taken
  slot_in_swept : (m x s c z u : ℕ) → IsTakenAt p m x s c (Swept z) u → (z ≡ s) × ((k : ℕ) × (k < slots z) × (x ≡ slot_at p c z k) × (bit_at u k ≡ 1))
  slot_in_swept m x s c z u o =
      let e : z ≡ s = o.of in
      (e, (o.slot, subst (λ y. o.slot < slots y) (sym e) o.fits, subst (λ y. x ≡ slot_at p c y o.slot) (sym e) o.address, o.taken))

  set : (name c z i : ℕ) → c < p.config.blocks → state c ≡ Swept z → IsInSlot p g b name c z i → bit_at (used c) i ≡ 1
  set name c z i l e o =
      let class = swept_class c z l e in
      let least = (class_bounds z class).0 in
      let taken = subst (λ w. IsTakenAt p (marks c) (b.address name) (slot_words (g.size name)) c w (used c)) e (in_slot name c (block_has name c z i class o)) in
      let k = slot_in_swept (marks c) (b.address name) (slot_words (g.size name)) c z (used c) taken in
      let at = o.at in
      let at' = k.1.2 in
      let same : k.1.0 ≡ i =
      slot_once (nursery_end p) c z k.1.0 i (b.address name) (omega arith) (omega arith) (omega arith) (omega arith) in
      subst (λ i. bit_at (used c) i ≡ 1) same k.1.3

  module _ (z : ℕ) (class : IsSizeClass z) (c : ℕ) (l : c < p.config.blocks) where
    -- no word of a clear slot is an object's
    clear_empty : (i : ℕ) → IsClearAt (state c) (used c) z i → IsEmptySlot p g b c z i
    clear_empty i k name x w from to = elim (is_old (b.section name)) [
      | inr young ↦
          let below = w.below in
          let f = r.front name w.some w.stands young in
          absurd (omega arith)
      | inl old ↦
          let t = r.blocks.placed name w.some w.stands old in
          let s = slot_words (g.size name) in
          let holds = slot_size-holds (words_for (g.size name)) (r.small name w.some w.stands old) in
          let at = t.2.address in
          let above = w.above in
          let below = w.below in
          let same : c ≡ t.0 = block_once (nursery_end p) c t.0 z s i t.2.slot x k.fits t.2.fits from to (omega arith) (omega arith) in
          let here = subst (λ c. IsTakenAt p (marks c) (b.address name) s c (state c) (used c)) (sym same) t.2 in
          elim (k.sized) [
            | inl e ↦ absurd (subst (λ w. IsOf w s) e here.of)
            | inr e ↦
                let q = slot_in_swept (marks c) (b.address name) s c z (used c) (subst (λ w. IsTakenAt p (marks c) (b.address name) s c w (used c)) e here) in
                let sized = q.0 in
                let at' = q.1.2 in
                let once : q.1.0 ≡ i = slot_once (nursery_end p) c z q.1.0 i x (omega arith) (omega arith) from to in
                let bit = subst (λ i. bit_at (used c) i ≡ 1) once q.1.3 in
                let clear = k.clear in
                absurd (omega arith)
          ]
    ]

    -- the lowest clear slot is the lowest open one
    pub clear_open : (i : ℕ) → IsClearAt (state c) (used c) z i → IsOpenSlot p g b c z i
    clear_open i k = record {
      there = l;
      fits = k.fits;
      size = λ name o. elim (k.sized) [
        | inl e ↦ absurd (free_empty name c e o)
        | inr e ↦ swept_sized name c z e o
      ];
      empty = clear_empty i k;
      lowest = λ j m. elim (k.sized) [
        | inl e ↦ absurd (let bit = k.lowest j m in let none = free_bit c j l e in omega arith)
        | inr e ↦ filled c z j l e (let fits = k.fits in omega arith) (k.lowest j m)
      ];
    }

    pub open_clear : (i : ℕ) → IsOpenSlot p g b c z i → IsClearAt (state c) (used c) z i
    open_clear i o = elim (state_of (state c)) [
      | inl e ↦ record {
        sized = inl e;
        fits = o.fits;
        clear = free_bit c i l e;
        lowest = λ j m. let k = o.lowest j m in absurd (free_empty k.0 c e (block_has k.0 c z j class k.1));
      }
      | inr (inl (y, e)) ↦
          let k = swept_has c y l e in
          let same : y ≡ z = sym (swept_sized k.0 c y e k.1) ∙ o.size k.0 k.1 in
          swept (subst (λ y. state c ≡ Swept y) same e)
      | inr (inr (y, owing)) ↦ absurd (r.unowed c y l owing)
    ]
      where
        swept : state c ≡ Swept z → IsClearAt (state c) (used c) z i
        swept e = record {
          sized = inr e;
          fits = o.fits;
          clear = elim (bit_cases (used c) i) [
            | inl set' ↦ let k = filled c z i l e o.fits set' in absurd (taken_empty p g b c z class i k.0 k.1 o.empty)
            | inr clear ↦ clear
          ];
          lowest = λ j m. let k = o.lowest j m in set k.0 c z j l e k.1;
        }

    -- a block has a lowest clear slot, or is shut
    pub clear_or_shut : ((i : ℕ) × IsClearAt (state c) (used c) z i) ⊎ IsShut p g b c z
    clear_or_shut = elim (state_of (state c)) [
      | inl e ↦ inl (
        0,
        record {
          sized = inl e;
          fits = (let some = (class_slots z class).0 in omega arith);
          clear = free_bit c 0 l e;
          lowest = λ j m. absurd (omega arith);
        },
      )
      | inr (inl (y, e)) ↦ elim (cases_eq y z) [
        | inl same ↦ swept (subst (λ y. state c ≡ Swept y) same e)
        | inr other ↦ let k = swept_has c y l e in inr (inl (k.0, k.1, λ q. other (sym (swept_sized k.0 c y e k.1) ∙ q)))
      ]
      | inr (inr (y, owing)) ↦ absurd (r.unowed c y l owing)
    ]
      where
        told : (i : ℕ) → i < slots z → (bit_at (used c) i ≡ 0) ⊎ (bit_at (used c) i ≡ 1)
        told i m = elim (bit_cases (used c) i) [ inl set' ↦ inr set' | inr clear ↦ inl clear ]

        swept : state c ≡ Swept z → ((i : ℕ) × IsClearAt (state c) (used c) z i) ⊎ IsShut p g b c z
        swept e = elim (first_of (λ i. bit_at (used c) i ≡ 0) (λ i. bit_at (used c) i ≡ 1) (slots z) told) [
          | inl (i, fits, clear, lowest) ↦ inl (i, record { sized = inr e; fits = fits; clear = clear; lowest = lowest })
          | inr full ↦ inr (inr (λ i m. filled c z i l e m (full i m)))
        ]

    pub shut_unclear : IsShut p g b c z → HasNoClear (state c) (used c) z
    shut_unclear shut i k = shut_open p g b c z class i shut (clear_open i k)

    pub unclear_shut : HasNoClear (state c) (used c) z → IsShut p g b c z
    unclear_shut none = elim clear_or_shut [
      | inl (i, k) ↦ absurd (none i k)
      | inr shut ↦ shut
    ]
