-- The sentences of a text, each with the number of its line.
use Rattle.std.specs.Prelude.{◌≡◌, ℕ, suc, ◌⊎◌, IsTrue, List, [], ◌∷◌, map}
use Rattle.sg_text.specs.Words.{is_proper, words_of}
use Rattle.sg_text.specs.Lines.{Sentence, IsLine}

-- a sentence, and the number of its line, from 1
pub record Numbered : Type 0 where
  pub number : ℕ
  pub sentence : Sentence

-- the sentences alone
abbrev pub sentences : List Numbered → List Sentence
sentences found = map (λ (one : Numbered). one.sentence) found

-- The lines, which stand below so many others, say this: each has blanks and printable bytes alone outside its comment, and has no
-- words or says one sentence.
abbrev pub SayBelow : ℕ → List (List ℕ) → List Numbered → Type 0
SayBelow above [] found = found ≡ []
SayBelow above (line ∷ lines) found =
    IsTrue (is_proper line)
    × (((words_of line ≡ []) × SayBelow (suc above) lines found)
    ⊎ ((sentence : Sentence) × (rest : List Numbered) × IsLine (words_of line) sentence
    × (found ≡ record { number = suc above; sentence = sentence } ∷ rest) × SayBelow (suc above) lines rest))

-- the lines of a whole text say this
abbrev pub Say : List (List ℕ) → List Numbered → Type 0
Say lines found = SayBelow 0 lines found
