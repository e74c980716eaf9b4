-- Each generated text is one that is accepted.
use Rattle.std.specs.Prelude.{ℕ, ◌^◌, ◌<◌, ◌≤◌, List, length}
use Rattle.std.specs.List.{AllByRecursion}
use Rattle.sg_program.specs.declared.program.Script.{Script}
use Rattle.sg_program.specs.declared.program.Program.{Program}
use Rattle.sg_program.specs.Limits.{most_bytes}
use Rattle.sg_program.specs.Kinds.{HasNoMisuse}
use Rattle.sg_text.specs.Words.{lines_of}
use Rattle.sg_text.specs.Numbered.{Numbered, sentences, Say}
use Rattle.sg_grammar.specs.Text.{IsProgram, StandsFor}
use Rattle.sg_limits.specs.Faults.{HasNone, IsMisnamed, KeepsLimits, IsLater}
use Rattle.sg_gen.specs.Generated.{script_text}
use Rattle.sg_load.specs.Generated.{generated}

-- All that is asked of a text that is accepted as this program: it is short enough, its lines say sentences that are the program's, no class is misnamed,
-- the limits hold, nothing in it comes later, and no statement finds an operand of another kind than it needs.
pub record IsAcceptable (bytes : List ℕ) (p : Program) : Type 0 where
  pub short : length bytes ≤ most_bytes
  pub found : List Numbered
  pub says : Say (lines_of bytes) found
  pub is : IsProgram (StandsFor p.classes) (sentences found) p
  pub named : HasNone IsMisnamed found
  pub limits : KeepsLimits found
  pub now : HasNone IsLater found
  pub kinds : AllByRecursion (λ (script : Script). HasNoMisuse script.items) p.mutators

-- The text of each seed and size is one of these, as the program that its moves make.
abbrev pub GeneratedAreAccepted : Type 0
GeneratedAreAccepted = (seed size : ℕ) → seed < 2 ^ 64 → 24 ≤ size → size ≤ 80000 → IsAcceptable (script_text seed size) (generated seed size)
