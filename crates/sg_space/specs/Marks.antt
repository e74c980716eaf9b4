-- Where the mark of an object is kept: of an old one by the bit of its slot among its block's marks, of any other by the top bit of its
-- first word, which no tag has set.
use Rattle.std.specs.Prelude.{◌≡◌, ℕ, ◌-◌, ◌*◌, ◌^◌, ◌<◌, ◌≤◌, ◌⊎◌, Bool, if◌then◌else◌, slice_set}
use Rattle.std.specs.Int.{bit_at}
use Rattle.std.specs.Int.Bits.{bit_or}
use Rattle.sg_words.specs.Blocks.{IsSizeClass, slots, slot_base, IsOf}
use Rattle.sg_words.specs.declared.layout.Layout.{Layout}
use Rattle.sg_words.specs.Sections.{large_base, globals_base, IsYoung}
use Rattle.sg_space.specs.Space.{Contents}
use Rattle.sg_space.specs.Standing.{word, block_in, marks_in}

-- the bit of a mask is set, or cleared
abbrev pub with_bit : Bool → ℕ → ℕ → ℕ
with_bit on mask i = if on then bit_or mask (2 ^ i) else (mask - bit_at mask i * 2 ^ i)

-- h is the front of slot i of block c, whose slots have z words
pub record IsSlotFront (s : Contents) (c z i h : ℕ) : Type 0 where
  pub there : c < s.layout.blocks
  pub sized : IsOf (block_in s c) z
  pub class : IsSizeClass z
  pub fits : i < slots z
  pub front : h ≡ slot_base s.layout c z i

-- h is a word of the nursery or of the large space
abbrev pub KeepsItself : Layout → ℕ → Type 0
KeepsItself layout h = IsYoung layout h ⊎ ((large_base layout ≤ h) × (h < globals_base layout))

-- an object whose first word is h has a place for its mark
pub data HasMark (s : Contents) (h : ℕ) : Type 0 where
  InWord : KeepsItself s.layout h → HasMark s h
  InSlot : (c z i : ℕ) → IsSlotFront s c z i h → HasMark s h

-- the object whose first word is h is marked
pub data IsMarked (s : Contents) (h : ℕ) : Type 0 where
  ByWord : KeepsItself s.layout h → bit_at (word s h) 63 ≡ 1 → IsMarked s h
  BySlot : (c z i : ℕ) → IsSlotFront s c z i h → bit_at (marks_in s c) i ≡ 1 → IsMarked s h

-- the space with this mark on the object whose first word is h, or without it
pub record Marks (old : Contents) (h : ℕ) (on : Bool) (new : Contents) : Type 0 where
  pub by_word : KeepsItself old.layout h → new ≡ record old { words = slice_set old.words h (with_bit on (word old h) 63) }
  pub by_slot : (c z i : ℕ) → IsSlotFront old c z i h → new ≡ record old { marks = slice_set old.marks c (with_bit on (marks_in old c) i) }
