-- What mutators hold and ask for as a stop begins.
use Rattle.std.specs.Prelude.{◌≡◌, ℕ, ◌+◌, true, Option, Some, None, List, [], ◌∷◌, length, slice_get}
use Rattle.std.specs.List.{flat_map}
use Rattle.sg_words.specs.Lists.{Pairwise}
use Rattle.sg_graph.specs.declared.reports.MinorReport.{MinorReport}
use Rattle.sg_graph.specs.Laws.{needs_of, sizes_of}
use Rattle.sg_graph.specs.Stop.{Asked, wants_minor, wants_major, wants_blocks, some_wants}
use Rattle.sg_actor.specs.declared.mutator.Stage.{Stage}
use Rattle.sg_actor.specs.declared.mutator.Stage.TheVariants.{Ended, Asking}
use Rattle.sg_actor.specs.State.{Mutating, words_in, DropsBuffer}
use Rattle.sg_world.specs.declared.wants.Wants.{Wants}
use Rattle.sg_world.specs.Telling.{goes}

-- what a pause can't tell from addresses of what a mutator that stands there has in its hands: nothing where it has ended
abbrev pub held_by : Mutating → Stage → List ℕ
held_by m Ended = []
held_by m stage = words_in m

abbrev pub held_in : List Mutating → List ℕ
held_in mutators = flat_map (λ (m : Mutating). held_by m m.stage) mutators

-- who hasn't ended has 16 registers
abbrev pub HaveRegisters : List Mutating → Type 0
HaveRegisters mutators = (k : ℕ) (m : Mutating) → slice_get mutators k ≡ Some m → goes m.stage ≡ true → length m.registers ≡ 16

-- what a mutator asks for
abbrev pub asked_of : Mutating → Stage → List Asked
asked_of m (Asking statement request) = record { by = m.number; statement = m.first + length m.told; request = request } ∷ []
asked_of m stage = []

abbrev pub requests_of : List Mutating → List Asked
requests_of mutators = flat_map (λ (m : Mutating). asked_of m m.stage) mutators

-- what these requests want
pub record AreWanted (requests : List Asked) (wants : Wants) : Type 0 where
  pub minor : wants.minor ≡ some_wants wants_minor requests
  pub major : wants.major ≡ some_wants wants_major requests
  pub blocks : wants.blocks ≡ some_wants wants_blocks requests
  pub needs : wants.needs.items ≡ needs_of requests
  pub sizes : wants.sizes.items ≡ sizes_of requests

-- the mutators have no buffers behind a minor pause, and else are as they were
abbrev pub HaveBuffersBy : Option MinorReport → List Mutating → List Mutating → Type 0
HaveBuffersBy (Some report) ms ns = Pairwise DropsBuffer ms ns
HaveBuffersBy None ms ns = ns ≡ ms
