-- The limit that is told of a line, and those that it breaks.
use Rattle.std.specs.Prelude.{◌≡◌, ◌+◌, ◌≤◌, ◌⊎◌, Some, None, List, length}
use Rattle.sg_program.specs.Limits.{most_classes}
use Rattle.sg_limits.specs.declared.which.Which.{Which}
use Rattle.sg_limits.specs.declared.which.Which.TheVariants.{Statements, Finals}
use Rattle.sg_text.specs.Lines.{Sentence}
use Rattle.sg_limits.specs.Faults.{class_in, classes_in, Breaks, BreaksFirst}
use Rattle.sg_limits.specs.LineLimits.{HasSmallNumbers, fault_behind}

-- The limit that is told of a line is the first one that it breaks. A line of which none is told breaks at most the limits of what is
-- counted at a mutator's end, its numbers are small, and a class that it declares is not one too many. Of what is counted a line
-- breaks first the limit of statements, and that of `final` where it keeps the other.
pub record HaveLineLimits : Type 0 where
  pub first : (before : List Sentence) (line : Sentence) (which : Which) → fault_behind before line ≡ Some which → BreaksFirst which before line
  pub counted : (before : List Sentence) (line : Sentence) (which : Which) → fault_behind before line ≡ None → Breaks which before line →
      (which ≡ Statements) ⊎ (which ≡ Finals)
  pub small : (before : List Sentence) (line : Sentence) → fault_behind before line ≡ None → HasSmallNumbers line
  pub room : (before : List Sentence) (line : Sentence) → fault_behind before line ≡ None → length (classes_in before) ≤ most_classes →
      length (classes_in before) + length (class_in line) ≤ most_classes
  pub statements : (before : List Sentence) (line : Sentence) → Breaks Statements before line → BreaksFirst Statements before line
  pub finals : (before : List Sentence) (line : Sentence) → Breaks Finals before line → ¬ Breaks Statements before line → BreaksFirst Finals before line
