-- Blocks that a search for a slot passes over: swept ones, with slots of another size, or full.
use Rattle.std.specs.Prelude.{◌≡◌, ◌≢◌, ℕ, ◌<◌}
use Rattle.std.specs.Int.{bit_at}
use Rattle.sg_words.specs.Blocks.{slots}
use Rattle.sg_words.specs.declared.steps.BlockWord.{BlockWord}
use Rattle.sg_words.specs.declared.steps.BlockWord.TheVariants.{Swept}
use Rattle.sg_space.specs.Space.{Contents}
use Rattle.sg_space.specs.Standing.{block_in, used_in}

-- A block with this word and this occupancy has no slot of z words for a new object: it is swept, and has slots of another size, or each of its
-- slots is occupied.
pub data IsPassed (state : BlockWord) (used z : ℕ) : Type 0 where
  OfOtherSize : (size : ℕ) → state ≡ Swept size → size ≢ z → IsPassed state used z
  IsFull : state ≡ Swept z → ((i : ℕ) → i < slots z → bit_at used i ≡ 1) → IsPassed state used z

-- block c of the space is so
abbrev pub IsPassedIn : Contents → ℕ → ℕ → Type 0
IsPassedIn s z c = IsPassed (block_in s c) (used_in s c) z
