-- The blocks of the major heap, by lists of their words and of their occupancies.
use Rattle.std.specs.Prelude.{ℕ, ◌<◌, List, length, slice_index, slice_index_or}
use Rattle.sg_words.specs.declared.steps.BlockWord.{BlockWord}
use Rattle.sg_words.specs.declared.steps.BlockWord.TheVariants.{Free}
use Rattle.sg_graph.specs.Laws.{IsClearAt, HasNoClear}

-- the word of block c, where this list has those of all blocks
abbrev pub word_in : List BlockWord → ℕ → BlockWord
word_in words c = slice_index_or words c Free

-- no block has a clear slot of z words
abbrev pub HasNoneClear : List BlockWord → List ℕ → ℕ → Type 0
HasNoneClear words used z = (c : ℕ) → c < length words → HasNoClear (word_in words c) (slice_index used c) z

-- block c is the first one that has a clear slot of z words, and i is its lowest one
pub record IsFirstClear (words : List BlockWord) (used : List ℕ) (z c i : ℕ) : Type 0 where
  pub there : c < length words
  pub clear : IsClearAt (word_in words c) (slice_index used c) z i
  pub before : (d : ℕ) → d < c → HasNoClear (word_in words d) (slice_index used d) z
