use Rattle.std.specs.Prelude.{◌≡◌, ℕ, ◌*◌, ◌/◌, ◌%◌, ◌^◌, ◌<◌, ◌≤◌}

-- a byte address of the heap is a multiple of 8, from 4096 up and below 2^40
abbrev pub IsAddress : ℕ → Type 0
IsAddress a = (4096 ≤ a) × (a < 2 ^ 40) × (a % 8 ≡ 0)

-- the byte address of a word, by the word's number
abbrev pub byte_at : ℕ → ℕ
byte_at x = 8 * x

-- the number of the word at a byte address
abbrev pub word_at : ℕ → ℕ
word_at a = a / 8
