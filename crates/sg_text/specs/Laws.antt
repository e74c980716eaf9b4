-- Lines say one thing at most.
use Rattle.std.specs.Prelude.{◌≡◌, ℕ, List, ◌++◌, length}
use Rattle.sg_text.specs.Numbered.{Numbered, SayBelow, Say}

-- lines say these sentences and no others; and with more lines below them what both say
pub record HaveOneSaying : Type 0 where
  pub one : (lines : List (List ℕ)) (found other : List Numbered) → Say lines found → Say lines other → found ≡ other
  pub append : (lines more : List (List ℕ)) (found after : List Numbered) → Say lines found → SayBelow (length lines) more after →
      Say (lines ++ more) (found ++ after)
