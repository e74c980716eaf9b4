-- What matters of a book and of the blocks for places, as a new object gets one.
use Rattle.std.proofs.Common.{◌≡◌, ◌≢◌, ℕ, suc, ◌+◌, ◌^◌, ◌<◌, ◌≤◌, inl, inr, true, sym, refl, ap, ◌∙◌, subst, arith}
use Rattle.std.proofs.lemmas.Bool.{cases_eq}
use Rattle.std.specs.Int.Bits.{bit_or}
use Rattle.sg_words.specs.Blocks.{IsOwing}
use Rattle.sg_words.specs.Words.{put}
use Rattle.sg_words.specs.declared.steps.BlockWord.{BlockWord}
use Rattle.sg_words.specs.declared.steps.BlockWord.TheVariants.{Swept}
use Rattle.sg_words.proofs.Blocks.{class_bounds, slot_size-class, slot_fits}
use Rattle.sg_words.proofs.Puts.{put-at, put-same, put-other, put-all}
use Rattle.sg_program.specs.declared.program.Program.{Program}
use Rattle.sg_program.specs.Scripts.{words_for}
use Rattle.sg_graph.specs.Heap.{Of}
use Rattle.sg_graph.specs.Book.{Book, Section, Young, Old, placed, placed_in, nursery_end, block_at, slot_at, slot_words}
use Rattle.sg_graph.specs.Blocks.{IsOldAt, IsTakenAt, IsBlock, AreBlocks}
use Rattle.sg_graph.specs.Laws.{IsClearAt, StandsAlike, IsOldNow}
use Rattle.sg_graph.proofs.Slots.{blocks_go}
use Rattle.sg_graph.proofs.OpenSlots.{AreRooms}

module _ (p : Program) (count : ℕ) (size : ℕ → ℕ) (b : Book) (marks used : ℕ → ℕ) (state : ℕ → BlockWord) (r : AreRooms p count size b marks state used)
    (fields : ℕ) where
  -- the next name, and the sizes with it
  abbrev name : ℕ
  name = suc count

  abbrev sizes : ℕ → ℕ
  sizes = put size name fields

  -- who stood isn't the new one, and stands as it stood
  older : (n : ℕ) → b.stands n ≡ true → n ≢ name
  older n e q = let l = r.named n e in absurd (omega arith)

  alike : (section : Section) (x n : ℕ) → n ≢ name →
      StandsAlike size sizes b.stands (placed_in b section name x).stands b.address (placed_in b section name x).address b.section
      (placed_in b section name x).section n
  alike section x n d = record {
    same_size = put-other size name fields n d;
    same_stands = put-other b.stands name true n d;
    same_address = put-other b.address name x n d;
    same_section = put-other b.section name section n d;
  }

  module _ (section : Section) (x : ℕ) where
    abbrev then : Book
    then = placed_in b section name x

    named_then : (n : ℕ) → then.stands n ≡ true → n ≤ name
    named_then n e = elim (cases_eq n name) [
      | inl q ↦ omega arith
      | inr d ↦ let l = r.named n (sym (alike section x n d).same_stands ∙ e) in omega arith
    ]

    -- an object still stands in a block where one did
    still_there : (c : ℕ) → (n : ℕ) × (1 ≤ n) × (b.stands n ≡ true) × (block_at p c ≤ b.address n) × (b.address n < block_at p c + 256) →
        (n : ℕ) × (1 ≤ n) × (then.stands n ≡ true) × (block_at p c ≤ then.address n) × (then.address n < block_at p c + 256)
    still_there c (n, some, stands, above, below) =
        let a = alike section x n (older n stands) in (
          n,
          some,
          a.same_stands ∙ stands,
          subst (λ y. block_at p c ≤ y) (sym a.same_address) above,
          subst (λ y. y < block_at p c + 256) (sym a.same_address) below,
        )

  module _ (x : ℕ) (inside : x + words_for fields ≤ nursery_end p) (next : ℕ → ℕ) where
    abbrev young : Book
    young = record (placed b name x) { next = next }

    other_old : (n : ℕ) → young.section n ≡ Old → n ≢ name
    other_old n e q = let z : Young ≡ Old = sym (put-at b.section name Young n q) ∙ e in absurd (cc z)

    old_more : (m y s : ℕ) → IsOldAt size b.stands b.address b.section m y s → IsOldAt sizes young.stands young.address young.section m y s
    old_more m y s o =
        let a = alike Young x m (older m o.standing) in
        record {
          some = o.some;
          standing = a.same_stands ∙ o.standing;
          old = a.same_section ∙ o.old;
          at = a.same_address ∙ o.at;
          sized = ap slot_words a.same_size ∙ o.sized;
        }

    block_more : (c : ℕ) → IsBlock p (marks c) size b.stands b.address b.section b.owed c (state c) (used c) →
        IsBlock p (marks c) sizes young.stands young.address young.section b.owed c (state c) (used c)
    block_more c o = record {
      filled = λ s m q l u. let h = o.filled s m q l u in (h.0, old_more h.0 (slot_at p c s m) s h.1);
      bare = o.bare;
      owing = o.owing;
      kept = o.kept;
      unmarked = o.unmarked;
      within = o.within;
    }

    young_blocks : AreBlocks p marks state used (λ _. 0) sizes young.stands young.address young.section b.owed (λ _. Of 0)
    young_blocks = record {
      placed = λ n l q o.
          let a = alike Young x n (other_old n o) in
          let h = r.blocks.placed n l (sym a.same_stands ∙ q) (sym a.same_section ∙ o) in (
            h.0,
            h.1,
            subst (λ y. IsTakenAt p (marks h.0) y (slot_words (sizes n)) h.0 (state h.0) (used h.0)) (sym a.same_address)
                (subst (λ s. IsTakenAt p (marks h.0) (b.address n) (slot_words s) h.0 (state h.0) (used h.0)) (sym a.same_size) h.2),
          );
      each = λ c l. block_more c (r.blocks.each c l);
      clear = λ c l x from to none clean. refl;
      sized = r.blocks.sized;
    }

    -- a new object of the nursery
    pub young_rooms : AreRooms p name sizes young marks state used
    young_rooms = record {
      blocks = young_blocks;
      unowed = r.unowed;
      inhabited = λ c s l e. still_there Young x c (r.inhabited c s l e);
      named = named_then Young x;
      small = λ n l q o.
          let a = alike Young x n (other_old n o) in
          subst (λ s. words_for s ≤ 64) (sym a.same_size) (r.small n l (sym a.same_stands ∙ q) (sym a.same_section ∙ o));
      front = λ n l q o. elim (cases_eq n name) [
        | inl e ↦
            subst (λ y. y + words_for (sizes n) ≤ nursery_end p) (sym (put-at b.address name x n e))
            (subst (λ s. x + words_for s ≤ nursery_end p) (sym (put-at size name fields n e)) inside)
        | inr d ↦
            let a = alike Young x n d in
            subst (λ y. y + words_for (sizes n) ≤ nursery_end p) (sym a.same_address)
            (subst (λ s. b.address n + words_for s ≤ nursery_end p) (sym a.same_size)
            (r.front n l (sym a.same_stands ∙ q) (λ e. o (a.same_section ∙ e))))
      ];
      limits = r.limits;
    }

  module _ (j i : ℕ) (there : j < p.config.blocks) (k : IsClearAt (state j) (used j) (slot_words fields) i) (small : words_for fields ≤ 64) where
    abbrev z : ℕ
    z = slot_words fields

    abbrev old : Book
    old = placed_in b Old name (slot_at p j z i)

    abbrev states : ℕ → BlockWord
    states = put state j (Swept z)

    -- the block has slots of this size, which it had or gets
    opened : AreBlocks p marks states used (λ _. 0) size b.stands b.address b.section b.owed (λ _. Of 0)
    opened = elim (k.sized) [
      | inl e ↦ blocks_go.block_opens p marks used (λ _. 0) size b.address state b.stands b.owed b.section (λ _. Of 0) j z r.blocks e
          (slot_size-class (words_for fields))
      | inr e ↦ subst (λ w. AreBlocks p marks w used (λ _. 0) size b.stands b.address b.section b.owed (λ _. Of 0)) (as_it_was e) r.blocks
    ]
      where
        as_it_was : state j ≡ Swept z → state ≡ states
        as_it_was e = λ t c. put-all (λ (c : ℕ) (w : BlockWord). state c ≡ w) state j (Swept z) e (λ c d. refl) c t

    now : IsOldNow size sizes b.stands old.stands b.address old.address b.section old.section name (slot_at p j z i) z
    now = record {
      here = record {
        some = omega arith;
        standing = put-same b.stands name true;
        old = put-same b.section name Old;
        at = put-same b.address name (slot_at p j z i);
        sized = ap slot_words (put-same size name fields);
      };
      new = λ e o. older name e refl;
      others = λ m d o. alike Old (slot_at p j z i) m d;
    }

    old_blocks : AreBlocks p marks states (put used j (bit_or (used j) (2 ^ i))) (λ _. 0) sizes old.stands old.address old.section b.owed (λ _. Of 0)
    old_blocks =
        blocks_go.slot_gets p marks used (λ _. 0) (λ _. 0) size sizes b.address old.address states b.stands old.stands b.owed b.section old.section
        (λ _. Of 0) (λ _. Of 0) name j z i opened there (put-same state j (Swept z)) k.fits k.clear now (λ c x l from to none. absurd (none 0 refl))

    -- a new object of the major heap
    pub old_rooms : AreRooms p name sizes old marks states (put used j (bit_or (used j) (2 ^ i)))
    old_rooms = record {
      blocks = old_blocks;
      unowed = λ c s l o.
          put-all (λ (c : ℕ) (w : BlockWord). c < p.config.blocks → IsOwing w s → ⊥) state j (Swept z) (λ l o. o) (λ c d l o. r.unowed c s l o) c l o;
      inhabited = λ c s l e. elim (cases_eq c j) [
        | inl q ↦
            let at = put-same b.address name (slot_at p j z i) in
            let fits = slot_fits z i k.fits in
            let least = (class_bounds z (slot_size-class (words_for fields))).0 in
            (name, omega arith, put-same b.stands name true, omega arith, omega arith)
        | inr d ↦ still_there Old (slot_at p j z i) c (r.inhabited c s l (sym (put-other state j (Swept z) c d) ∙ e))
      ];
      named = named_then Old (slot_at p j z i);
      small = λ n l q o. elim (cases_eq n name) [
        | inl e ↦ subst (λ s. words_for s ≤ 64) (sym (put-at size name fields n e)) small
        | inr d ↦
            let a = alike Old (slot_at p j z i) n d in
            subst (λ s. words_for s ≤ 64) (sym a.same_size) (r.small n l (sym a.same_stands ∙ q) (sym a.same_section ∙ o))
      ];
      front = λ n l q o. elim (cases_eq n name) [
        | inl e ↦ absurd (o (put-at b.section name Old n e))
        | inr d ↦
            let a = alike Old (slot_at p j z i) n d in
            subst (λ y. y + words_for (sizes n) ≤ nursery_end p) (sym a.same_address)
            (subst (λ s. b.address n + words_for s ≤ nursery_end p) (sym a.same_size)
            (r.front n l (sym a.same_stands ∙ q) (λ e. o (a.same_section ∙ e))))
      ];
      limits = r.limits;
    }
