-- What stays of a space's soundness where only words and next words differ.
use Rattle.std.proofs.Common.{◌≡◌, ℕ, ◌+◌, ◌<◌, ◌≤◌, inl, inr, List, Option, Some, sym, subst, slice_index}
use Rattle.sg_words.specs.Blocks.{slot_size, slots, slot_base, IsOf}
use Rattle.sg_words.specs.Sections.{old_base, globals_base}
use Rattle.sg_space.specs.Space.{Contents}
use Rattle.sg_space.specs.Standing.{word, block_in, page_in, page_base, IsInNursery, IsInSlot, IsInPages, IsPlaced, IsSoundBlock, IsSoundPage}

-- the space with these words and these next words
abbrev pub with_words : Contents → List ℕ → List ℕ → Contents
with_words s words next = record s { words = words; next = next }

module _ (s : Contents) (words next : List ℕ) where
  -- an object with the same length stands where it stood
  module _ (h : ℕ) (same : slice_index words (h + 1) ≡ word s (h + 1)) where
    nursery_kept : IsInNursery s h → IsInNursery (with_words s words next) h
    nursery_kept p = record {
      above = p.above;
      within = subst (λ (n : ℕ). h + (n + 2) ≤ old_base s.layout) (sym same) p.within;
      small = subst (λ (n : ℕ). n + 2 ≤ 64) (sym same) p.small;
    }

    slot_kept : IsInSlot s h → IsInSlot (with_words s words next) h
    slot_kept p = record {
      block = p.block;
      slot = p.slot;
      there = p.there;
      sized = subst (λ (n : ℕ). IsOf (block_in s p.block) (slot_size (n + 2))) (sym same) p.sized;
      fits = subst (λ (n : ℕ). p.slot < slots (slot_size (n + 2))) (sym same) p.fits;
      front = subst (λ (n : ℕ). h ≡ slot_base s.layout p.block (slot_size (n + 2)) p.slot) (sym same) p.front;
      taken = p.taken;
      small = subst (λ (n : ℕ). n + 2 ≤ 64) (sym same) p.small;
    }

    pages_kept : IsInPages s h → IsInPages (with_words s words next) h
    pages_kept p = record {
      page = p.page;
      front = p.front;
      large = subst (λ (n : ℕ). 64 < n + 2) (sym same) p.large;
      within = subst (λ (n : ℕ). h + (n + 2) ≤ globals_base s.layout) (sym same) p.within;
      takes = subst (λ (n : ℕ). (j : ℕ) → p.page ≤ j → page_base s.layout j < h + (n + 2) → page_in s j ≡ p.page + 1) (sym same) p.takes;
    }

    pub place_kept : IsPlaced s h → IsPlaced (with_words s words next) h
    place_kept p = elim p [ inl y ↦ inl (nursery_kept y) | inr q ↦ inr (elim q [ inl y ↦ inl (slot_kept y) | inr y ↦ inr (pages_kept y) ]) ]

  -- blocks and pages stay sound where the objects stay
  module _ (owner other : ℕ → Option ℕ) (stay : (h : ℕ) → owner h ≡ Some h → other h ≡ Some h) where
    pub block_kept : (c : ℕ) → IsSoundBlock s owner c → IsSoundBlock (with_words s words next) other c
    block_kept c b = record {
      settled = b.settled;
      sized = b.sized;
      bare = b.bare;
      filled = λ z i h t. let f = b.filled z i h t in (f.0, stay (slot_base s.layout c z i) f.1);
      marked = b.marked;
    }

    pub page_kept : ((h : ℕ) → owner h ≡ Some h → slice_index words (h + 1) ≡ word s (h + 1)) → (j : ℕ) → IsSoundPage s owner j →
        IsSoundPage (with_words s words next) other j
    page_kept same j p = record {
      named = λ q e.
          let n = p.named q e in (
            stay (page_base s.layout q) n.0,
            n.1,
            subst (λ (k : ℕ). page_base s.layout j < page_base s.layout q + (k + 2))
                (sym (same (page_base s.layout q) n.0)) n.2,
          );
    }
