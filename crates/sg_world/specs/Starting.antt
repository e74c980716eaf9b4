-- What a world begins with.
use Rattle.std.specs.Prelude.{◌≡◌, ℕ, Some, List, length, slice_get}
use Rattle.sg_program.specs.declared.program.Program.{Program}
use Rattle.sg_program.specs.Scripts.{script_of}
use Rattle.sg_rules.specs.Rules.{fresh}
use Rattle.sg_actor.specs.declared.mutator.Stage.TheVariants.{Between}
use Rattle.sg_actor.specs.State.{Mutating, actor_of}

-- mutator k of the program, before its first statement
pub record IsNew (p : Program) (k : ℕ) (m : Mutating) : Type 0 where
  pub actor : actor_of m ≡ fresh (script_of p k)
  pub first : m.first ≡ 0
  pub stage : m.stage ≡ Between
  pub program : m.program ≡ p
  pub number : m.number ≡ k

-- the first n mutators of the program, before their first statements
pub record AreNew (p : Program) (n : ℕ) (mutators : List Mutating) : Type 0 where
  pub count : length mutators ≡ n
  pub each : (k : ℕ) (m : Mutating) → slice_get mutators k ≡ Some m → IsNew p k m
