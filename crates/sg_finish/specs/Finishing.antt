-- Some of a space's blocks were swept.
use Rattle.std.specs.Prelude.{◌≡◌, ℕ, zero, suc, ◌+◌, ◌<◌, ◌≤◌, length}
use Rattle.std.specs.Int.{bit_at}
use Rattle.sg_words.specs.Blocks.{IsSizeClass, slots, slot_base, IsOwing}
use Rattle.sg_words.specs.Sweeps.{swept_word, swept_used}
use Rattle.sg_words.specs.declared.steps.BlockWord.{BlockWord}
use Rattle.sg_words.specs.declared.steps.BlockWord.TheVariants.{Free, Swept, Need, Sweeping}
use Rattle.sg_space.specs.Space.{Contents}
use Rattle.sg_space.specs.Standing.{word, block_in, used_in, marks_in}
use Rattle.sg_sweep.specs.Sweeping.{unmarked}

-- x is a word of a slot that isn't marked of block c, which is still to be swept
pub record IsGarbageOf (s : Contents) (c x : ℕ) : Type 0 where
  pub size : ℕ
  pub slot : ℕ
  pub owing : IsOwing (block_in s c) size
  pub fits : slot < slots size
  pub unmarked : bit_at (marks_in s c) slot ≡ 0
  pub from : slot_base s.layout c size slot ≤ x
  pub to : x < slot_base s.layout c size slot + size

-- of the blocks, these were swept where they were to be swept
pub record HasSweptOf (s : Contents) (In : ℕ → Type 0) (t : Contents) : Type 0 where
  pub still : t ≡ record s { words = t.words; blocks = t.blocks; used = t.used }
  pub words : length t.words ≡ length s.words
  pub blocks : length t.blocks ≡ length s.blocks
  pub used : length t.used ≡ length s.used
  pub states : (c : ℕ) → In c → block_in t c ≡ swept_word (block_in s c) (marks_in s c)
  pub occupied : (c : ℕ) → In c → used_in t c ≡ swept_used (block_in s c) (used_in s c) (marks_in s c)
  pub others : (c : ℕ) → (In c → ⊥) → (block_in t c ≡ block_in s c) × (used_in t c ≡ used_in s c)
  pub zero : (c x : ℕ) → In c → IsGarbageOf s c x → word t x ≡ 0
  pub kept : (x : ℕ) → ((c : ℕ) → In c → IsGarbageOf s c x → ⊥) → word t x ≡ word s x

-- the block isn't being swept, and it has slots of a size class where it is to be swept
pub record IsSweepable (state : BlockWord) : Type 0 where
  pub settled : (z : ℕ) → state ≡ Sweeping z → ⊥
  pub sized : (z : ℕ) → state ≡ Need z → IsSizeClass z

-- how many slots the sweep of a block zeroes, by its word and its marks; and of the first n blocks
abbrev pub freed_of : BlockWord → ℕ → ℕ
freed_of Free marks = 0
freed_of (Swept size) marks = 0
freed_of (Need size) marks = unmarked marks (slots size)
freed_of (Sweeping size) marks = 0

abbrev pub freed_below : Contents → ℕ → ℕ
freed_below s zero = 0
freed_below s (suc n) = freed_below s n + freed_of (block_in s n) (marks_in s n)
