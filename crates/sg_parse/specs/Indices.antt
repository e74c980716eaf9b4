-- The first sentence with a fault, by its index among the sentences.
use Rattle.std.specs.Prelude.{◌≡◌, ℕ, ◌<◌, Some, List, take, slice_get}
use Rattle.sg_text.specs.Lines.{Sentence}

-- sentence number i is the first one with the fault; or none has it
abbrev pub IsFirstIn : (List Sentence → Sentence → Type 0) → List Sentence → ℕ → Type 0
IsFirstIn Fault lines i =
    ((line : Sentence) × (slice_get lines i ≡ Some line) × Fault (take i lines) line)
    × ((j : ℕ) (line : Sentence) → j < i → slice_get lines j ≡ Some line → ¬ Fault (take j lines) line)

abbrev pub HasNoneIn : (List Sentence → Sentence → Type 0) → List Sentence → Type 0
HasNoneIn Fault lines = (j : ℕ) (line : Sentence) → slice_get lines j ≡ Some line → ¬ Fault (take j lines) line
