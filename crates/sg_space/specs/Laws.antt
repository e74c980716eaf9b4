-- Where the objects of a sound space stand: which object has a word of a slot, or of a page.
use Rattle.std.specs.Prelude.{◌≡◌, ℕ, ◌+◌, ◌<◌, ◌≤◌, Option, Some, None}
use Rattle.sg_words.specs.Blocks.{slots, block_base, slot_base, IsOf, is_taken}
use Rattle.sg_words.specs.declared.steps.BlockWord.TheVariants.{Free}
use Rattle.sg_words.specs.Sections.{nursery_base, globals_base}
use Rattle.sg_space.specs.Space.{Contents}
use Rattle.sg_space.specs.Standing.{size_at, block_in, used_in, marks_in, page_in, page_base, IsSoundBy}

-- an object lies in the nursery, the blocks and the pages
pub record IsInside (s : Contents) (h : ℕ) : Type 0 where
  pub above : nursery_base ≤ h
  pub within : h + size_at s h ≤ globals_base s.layout

pub record PlacingLaw : Type 0 where
  pub inside : (s : Contents) (owner : ℕ → Option ℕ) → IsSoundBy s owner → (h : ℕ) → owner h ≡ Some h → IsInside s h
  -- what has a word of a slot stands at the slot's front and ends in the slot, and the slot's bit is set
  pub in_slot : (s : Contents) (owner : ℕ → Option ℕ) → IsSoundBy s owner → (c z i x h : ℕ) → c < s.layout.blocks → IsOf (block_in s c) z → i < slots z →
      slot_base s.layout c z i ≤ x → x < slot_base s.layout c z i + z → owner x ≡ Some h →
      (h ≡ slot_base s.layout c z i) × (is_taken (block_in s c) (used_in s c) (marks_in s c) i ≡ 1) × (size_at s h ≤ z)
  -- no object has a word behind a block's last slot, nor one of a free block
  pub in_rest : (s : Contents) (owner : ℕ → Option ℕ) → IsSoundBy s owner → (c z x : ℕ) → c < s.layout.blocks → IsOf (block_in s c) z →
      slot_base s.layout c z (slots z) ≤ x → x < block_base s.layout c + 256 → owner x ≡ None
  pub in_free : (s : Contents) (owner : ℕ → Option ℕ) → IsSoundBy s owner → (c x : ℕ) → c < s.layout.blocks → block_in s c ≡ Free →
      block_base s.layout c ≤ x → x < block_base s.layout c + 256 → owner x ≡ None
  -- what has a word of a page stands at the front of the page that its word names
  pub on_page : (s : Contents) (owner : ℕ → Option ℕ) → IsSoundBy s owner → (j x h : ℕ) → j < s.layout.pages → page_base s.layout j ≤ x →
      x < page_base s.layout j + 128 →
      owner x ≡ Some h → (p : ℕ) × (h ≡ page_base s.layout p) × (page_in s j ≡ p + 1)
