-- What the smaller steps of the reading answer.
use Rattle.std.proofs.Common.{Bor}
use Rattle.std.specs.Prelude.{◌≡◌, ◌≢◌, ℕ, Bool, true, ◌==◌, ◌&&◌, not, Option, Some, None, if◌then◌else◌, List, [], ◌∷◌}
use Rattle.sg_text.specs.declared.line.Line.{Line}
use Rattle.sg_text.specs.Words.{is_line_feed, is_printable, is_proper, lines_of, words_of}
use Rattle.sg_text.specs.Lines.{Sentence, IsLine}
use Rattle.sg_text.specs.Reading.{sentence_of}

-- whatever has the property is the answer
abbrev pub Only : {A : Type 0} → (A → Type 0) → Option A → Type 0
Only {A} P answer = (x : A) → P x → answer ≡ Some x

-- a byte of a word: printable, and no # that begins a comment
abbrev pub is_word_byte : ℕ → Bool
is_word_byte c = is_printable c && not (c == 35)

-- the first line of a text, and the lines below it
abbrev pub first_line : List ℕ → List ℕ
first_line [] = []
first_line (c ∷ cs) = if is_line_feed c then [] else c ∷ first_line cs

abbrev pub lines_below : List ℕ → List (List ℕ)
lines_below [] = []
lines_below (c ∷ cs) = if is_line_feed c then lines_of cs else lines_below cs

-- the lines of what is left, if anything is
abbrev pub lines_left : Option (Bor (List ℕ)) → List (List ℕ)
lines_left None = []
lines_left (Some rest) = lines_of rest.now

-- two texts whose first lines have the same words, which are proper or not, and that have the same lines below
pub record AreAlike (text other : List ℕ) : Type 0 where
  pub proper : is_proper (first_line text) ≡ is_proper (first_line other)
  pub words : words_of (first_line text) ≡ words_of (first_line other)
  pub below : lines_below text ≡ lines_below other

-- the words say this, or there are none
abbrev pub AreSaid : List (List ℕ) → Option Line → Type 0
AreSaid words None = words ≡ []
AreSaid words (Some line) = IsLine words (sentence_of line)

-- the words are no line of the language
abbrev pub AreNoLine : List (List ℕ) → Type 0
AreNoLine words = (words ≢ []) × ((sentence : Sentence) → ¬ IsLine words sentence)

-- what a line says, if it has words
abbrev pub SaysMaybe : List ℕ → Option Line → Type 0
SaysMaybe line said = (is_proper line ≡ true) × AreSaid (words_of line) said
