-- The numbers of all words of a space: first the words from address 4096 on to the end of the weak links, by address; then a word for each
-- card; then for each block its word's number, its occupancy and its marks; then a word for each page.
use Rattle.std.specs.Prelude.{◌≡◌, ℕ, ◌+◌, ◌-◌, ◌*◌, ◌/◌, ◌%◌, ◌<◌, ◌==◌, nat_lt, if◌then◌else◌, List, slice_index}
use Rattle.sg_words.specs.Sections.{nursery_base, words_end}
use Rattle.sg_words.specs.declared.layout.Layout.{Layout}
use Rattle.sg_desc.specs.declared.shapes.Shape.{Shape}
use Rattle.sg_blocks.specs.Numbers.{block_number}
use Rattle.sg_space.specs.Space.{Contents, IsContents, cards_in}
use Rattle.sg_space.specs.Standing.{word, block_in, used_in, marks_in, page_in}

-- the numbers of the first card's word, of the first block's, of the first page's, and of what is behind the last page's
abbrev pub cards_from : Layout → ℕ
cards_from layout = words_end layout - nursery_base

abbrev pub blocks_from : Layout → ℕ
blocks_from layout = cards_from layout + cards_in layout

abbrev pub pages_from : Layout → ℕ
pages_from layout = blocks_from layout + 3 * layout.blocks

abbrev pub numbers_end : Layout → ℕ
numbers_end layout = pages_from layout + layout.pages

-- word i of the three words of block b
abbrev pub of_block : Contents → ℕ → ℕ → ℕ
of_block s b i = if i == 0 then block_number (block_in s b) else if i == 1 then used_in s b else marks_in s b

-- the word with the number i
unfoldable pub numbered : Contents → ℕ → ℕ
numbered s i =
    if nat_lt i (cards_from s.layout) then word s (nursery_base + i) else
    if nat_lt i (blocks_from s.layout) then slice_index s.cards (i - cards_from s.layout) else
    if nat_lt i (pages_from s.layout) then of_block s ((i - blocks_from s.layout) / 3) ((i - blocks_from s.layout) % 3) else
    page_in s (i - pages_from s.layout)

-- f gives the words of the space by their numbers, of which there are `count`
pub record AreWordsOf (layout : Layout) (shapes : List Shape) (count : ℕ) (f : ℕ → ℕ) (s : Contents) : Type 0 where
  pub layout_is : s.layout ≡ layout
  pub shapes_are : s.shapes ≡ shapes
  pub contents : IsContents s
  pub count_is : count ≡ numbers_end layout
  pub words : (i : ℕ) → i < count → f i ≡ numbered s i
