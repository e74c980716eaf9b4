-- The blocks of the major heap: their slots, whose sizes are a few classes, their cards, and what a block's word says of its slots.
use Rattle.std.specs.Prelude.{◌≡◌, ℕ, ◌+◌, ◌-◌, ◌*◌, ◌/◌, ◌<◌, ◌≤◌, nat_lt, if◌then◌else◌, List, [], ◌∷◌}
use Rattle.std.specs.Int.{bit_at}
use Rattle.sg_words.specs.declared.steps.BlockWord.{BlockWord}
use Rattle.sg_words.specs.declared.steps.BlockWord.TheVariants.{Free, Swept, Need, Sweeping}
use Rattle.sg_words.specs.declared.layout.Layout.{Layout}
use Rattle.sg_words.specs.Lists.{In}
use Rattle.sg_words.specs.Sections.{old_base, globals_base}

-- the size classes: how many words the slots of a block have
abbrev pub sizes : List ℕ
sizes = 4 ∷ 6 ∷ 8 ∷ 12 ∷ 16 ∷ 24 ∷ 32 ∷ 48 ∷ 64 ∷ []

abbrev pub IsSizeClass : ℕ → Type 0
IsSizeClass z = In z sizes

-- the least size class that holds n words, where n is at most 64
unfoldable pub slot_size : ℕ → ℕ
slot_size n =
    if nat_lt n 5 then 4 else if nat_lt n 7 then 6 else if nat_lt n 9 then 8 else if nat_lt n 13 then 12 else if nat_lt n 17 then 16 else
    if nat_lt n 25 then 24 else if nat_lt n 33 then 32 else if nat_lt n 49 then 48 else 64

-- how many slots of z words a block of 256 words has
abbrev pub slots : ℕ → ℕ
slots z = 256 / z

-- where block 0 begins at `base`: the first word of block c, the first word of its slot i of z words, and the card of the word x
abbrev pub block_from : ℕ → ℕ → ℕ
block_from base c = base + 256 * c

abbrev pub slot_from : ℕ → ℕ → ℕ → ℕ → ℕ
slot_from base c z i = block_from base c + z * i

abbrev pub card_from : ℕ → ℕ → ℕ
card_from base x = (x - base) / 64

-- the same in a layout
abbrev pub block_base : Layout → ℕ → ℕ
block_base layout c = block_from (old_base layout) c

abbrev pub slot_base : Layout → ℕ → ℕ → ℕ → ℕ
slot_base layout c z i = slot_from (old_base layout) c z i

abbrev pub card_of : Layout → ℕ → ℕ
card_of layout x = card_from (old_base layout) x

-- the words of blocks and pages have cards
abbrev pub HasCard : Layout → ℕ → Type 0
HasCard layout x = (old_base layout ≤ x) × (x < globals_base layout)

-- the block has slots of z words
abbrev pub IsOf : BlockWord → ℕ → Type 0
IsOf Free z = ⊥
IsOf (Swept size) z = size ≡ z
IsOf (Need size) z = size ≡ z
IsOf (Sweeping size) z = size ≡ z

-- 1 where something stands in slot i of the block with this word, this occupancy and these marks
abbrev pub is_taken : BlockWord → ℕ → ℕ → ℕ → ℕ
is_taken Free used marks i = 0
is_taken (Swept size) used marks i = bit_at used i
is_taken (Need size) used marks i = bit_at marks i
is_taken (Sweeping size) used marks i = bit_at marks i

-- the block has slots of z words, and is still to be swept, or is being swept
abbrev pub IsOwing : BlockWord → ℕ → Type 0
IsOwing Free z = ⊥
IsOwing (Swept size) z = ⊥
IsOwing (Need size) z = size ≡ z
IsOwing (Sweeping size) z = size ≡ z
