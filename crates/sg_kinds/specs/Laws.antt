-- What is fixed by the rules of kinds.
use Rattle.std.specs.Prelude.{◌≡◌, ℕ}
use Rattle.std.specs.List.{AllByRecursion}
use Rattle.sg_program.specs.declared.program.Script.{Script}
use Rattle.sg_program.specs.declared.program.Program.{Program}
use Rattle.sg_program.specs.Kinds.{HasNoMisuse, IsFirstMisuse}

-- no program has two first misuses: the mutator is fixed, and so is the statement; and one whose scripts are all without misuse has none
pub record HasOneMisuse : Type 0 where
  pub mutator : (p : Program) (m n s t : ℕ) → IsFirstMisuse p m s → IsFirstMisuse p n t → m ≡ n
  pub statement : (p : Program) (m n s t : ℕ) → IsFirstMisuse p m s → IsFirstMisuse p n t → s ≡ t
  pub none : (p : Program) (m s : ℕ) → IsFirstMisuse p m s → ¬ AllByRecursion (λ (script : Script). HasNoMisuse script.items) p.mutators
