-- What the sweeping of all blocks that are to be swept makes of a space.
use Rattle.std.specs.Prelude.{◌≡◌, ℕ, length}
use Rattle.sg_words.specs.Sweeps.{swept_word, swept_used}
use Rattle.sg_space.specs.Space.{Contents}
use Rattle.sg_space.specs.Standing.{word, block_in, used_in, marks_in, IsGarbage}

-- A block that was to be swept is swept, or free where nothing is marked, and its occupancy is its marks; any other block is as it was. The words
-- of its slots that weren't marked are zero, and each other word is as it was.
pub record HasSwept (s t : Contents) : Type 0 where
  pub still : t ≡ record s { words = t.words; blocks = t.blocks; used = t.used }
  pub words : length t.words ≡ length s.words
  pub blocks : length t.blocks ≡ length s.blocks
  pub used : length t.used ≡ length s.used
  pub states : (c : ℕ) → block_in t c ≡ swept_word (block_in s c) (marks_in s c)
  pub occupied : (c : ℕ) → used_in t c ≡ swept_used (block_in s c) (used_in s c) (marks_in s c)
  pub zero : (x : ℕ) → IsGarbage s x → word t x ≡ 0
  pub kept : (x : ℕ) → (IsGarbage s x → ⊥) → word t x ≡ word s x
