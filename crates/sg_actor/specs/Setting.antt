-- How a mutator begins a statement.
use Rattle.std.specs.Prelude.{◌≡◌, List, ◌∷◌}
use Rattle.sg_program.specs.declared.program.Statement.{Statement}
use Rattle.sg_actor.specs.declared.mutator.Stage.TheVariants.{Within}
use Rattle.sg_actor.specs.State.{Mutating, actor_of, Becomes}

-- the statement s came next, and the mutator is in its midst
pub record Begins (m : Mutating) (s : Statement) (n : Mutating) : Type 0 where
  pub rest : List Statement
  pub script : m.script ≡ s ∷ rest
  pub becomes : Becomes m n (record (actor_of m) { script = rest }) Within
