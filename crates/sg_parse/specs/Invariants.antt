-- What is known of programs that are read and accepted: no promise rests on these alone.
use Rattle.std.specs.List.{AllByRecursion}
use Rattle.sg_program.specs.declared.program.Script.{Script}
use Rattle.sg_program.specs.declared.program.Program.{Program}
use Rattle.sg_program.specs.Scripts.{written}
use Rattle.sg_program.specs.Kinds.{HasNoMisuse}
use Rattle.sg_program.specs.Invariants.{IsWithinLimits, IsBuilt}

-- what is known of a program that was read
pub record IsReadProgram (p : Program) : Type 0 where
  pub limits : IsWithinLimits p
  pub run : AllByRecursion (λ (script : Script). AllByRecursion (IsBuilt p) (written script.items)) p.mutators

-- what is known of a program that is accepted
pub record IsAcceptedProgram (p : Program) : Type 0 where
  pub read : IsReadProgram p
  pub kinds : AllByRecursion (λ (script : Script). HasNoMisuse script.items) p.mutators
