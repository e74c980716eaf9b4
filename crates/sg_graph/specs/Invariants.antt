-- What a run of a program keeps to as long as registrations, weak links and pairs aren't built. No definition of a run cites it.
use Rattle.std.specs.Prelude.{◌≡◌, ℕ, ◌≤◌, false, []}
use Rattle.sg_program.specs.declared.program.Program.{Program}
use Rattle.sg_program.specs.Scripts.{kind_of}
use Rattle.sg_graph.specs.Graph.{Graph}
use Rattle.sg_graph.specs.Pause.{is_pair}

-- nothing was registered, no weak link has a target, and no object is a pair
pub record IsPlain (p : Program) (g : Graph) : Type 0 where
  pub links : (w : ℕ) → (g.link w).target ≡ 0
  pub registered : g.registered ≡ []
  pub ready : g.ready ≡ []
  pub pairs : (n : ℕ) → 1 ≤ n → n ≤ g.count → is_pair (kind_of p (g.class n)) ≡ false
