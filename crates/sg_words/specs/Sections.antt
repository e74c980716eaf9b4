-- Where the sections of a space stand. Words are numbered by their byte addresses divided by 8.
use Rattle.std.specs.Prelude.{◌≡◌, ℕ, ◌+◌, ◌*◌, ◌%◌, ◌<◌, ◌≤◌}
use Rattle.sg_words.specs.declared.layout.Layout.{Layout}

-- the nursery's first word
abbrev pub nursery_base : ℕ
nursery_base = 512

-- the first word of the major heap, which is the one behind the nursery
abbrev pub old_base : Layout → ℕ
old_base layout = nursery_base + layout.nursery

-- the first word of the large space, which is the one behind the major heap: a block has 256 words
abbrev pub large_base : Layout → ℕ
large_base layout = old_base layout + 256 * layout.blocks

-- the first global, behind the large space: a page has 128 words
abbrev pub globals_base : Layout → ℕ
globals_base layout = large_base layout + 128 * layout.pages

-- the first ready entry, behind the 64 globals
abbrev pub ready_base : Layout → ℕ
ready_base layout = globals_base layout + 64

-- the first weak link, behind the 1,024 ready entries
abbrev pub links_base : Layout → ℕ
links_base layout = ready_base layout + 1024

-- the word behind the 64 weak links
abbrev pub words_end : Layout → ℕ
words_end layout = links_base layout + 64

-- the limits of a layout
pub record IsLayout (layout : Layout) : Type 0 where
  pub nursery_least : 256 ≤ layout.nursery
  pub nursery_most : layout.nursery ≤ 65536
  pub nursery_even : layout.nursery % 64 ≡ 0
  pub blocks_least : 1 ≤ layout.blocks
  pub blocks_most : layout.blocks ≤ 4096
  pub pages : layout.pages ≤ 1024

-- a word of the nursery
abbrev pub IsYoung : Layout → ℕ → Type 0
IsYoung layout x = (nursery_base ≤ x) × (x < old_base layout)

-- a word of the major heap
abbrev pub IsOld : Layout → ℕ → Type 0
IsOld layout x = (old_base layout ≤ x) × (x < large_base layout)

-- a word of some section
abbrev pub IsInSection : Layout → ℕ → Type 0
IsInSection layout x = (nursery_base ≤ x) × (x < words_end layout)
