-- Which scripts are run now.
use Rattle.std.specs.Prelude.{List}
use Rattle.std.specs.List.{AllByRecursion}
use Rattle.sg_program.specs.declared.program.Statement.{Statement}
use Rattle.sg_program.specs.declared.program.Program.{Program}
use Rattle.sg_program.specs.Invariants.{IsSmallClass, IsGood, IsBuilt}
use Rattle.sg_rules.specs.Resting.{IsRunnable}

-- statements within the limits and built by now, of a program with classes within the limits, are run now
abbrev pub BuiltRuns : Type 0
BuiltRuns =
    (p : Program) (script : List Statement) → AllByRecursion IsSmallClass p.classes → AllByRecursion (IsGood p) script → AllByRecursion (IsBuilt p) script →
    AllByRecursion (IsRunnable p) script
