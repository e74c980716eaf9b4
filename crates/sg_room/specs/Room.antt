-- The fragments of a space, by the numbers of their words.
use Rattle.std.specs.Prelude.{◌≡◌, ℕ, ◌+◌, ◌^◌, ◌<◌, ◌≤◌, List, length, slice_index}
use Rattle.sg_words.specs.Address.{word_at}
use Rattle.sg_space.specs.Space.{Contents}

-- the number of a fragment's next word
abbrev pub next_word : Contents → ℕ → ℕ
next_word s f = word_at (slice_index s.next f)

-- the number of the word behind a fragment's last one
abbrev pub end_word : Contents → ℕ → ℕ
end_word s f = word_at (slice_index s.ends f)

-- these are the numbers of the fragments' next words
pub record AreNextWords (s : Contents) (next : List ℕ) : Type 0 where
  pub as_many : length next ≡ length s.ends
  pub same : (f : ℕ) → f < length s.ends → slice_index next f ≡ next_word s f

-- no fragment has n words from its next word on, whose number stands in this list
abbrev pub HasNoRoom : Contents → List ℕ → ℕ → Type 0
HasNoRoom s next n = (f : ℕ) → f < length s.ends → end_word s f < slice_index next f + n

-- Fragment f is the lowest one with n words from its next word on, whose number stands in this list. The number of the word behind
-- them fits 64 bits.
pub record IsLowestWithRoom (s : Contents) (next : List ℕ) (n f : ℕ) : Type 0 where
  pub there : f < length s.ends
  pub room : slice_index next f + n ≤ end_word s f
  pub fits : slice_index next f + n < 2 ^ 64
  pub lowest : (j : ℕ) → j < f → end_word s j < slice_index next j + n
