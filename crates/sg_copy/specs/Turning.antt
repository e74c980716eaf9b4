-- What a worker does on a port.
use Rattle.std.specs.Prelude.{◌≡◌, ℕ, ◌<◌, ◌≤◌, ◌^◌, ◌⊎◌, List, []}
use Rattle.sg_words.specs.Address.{byte_at}
use Rattle.sg_words.specs.Tags.{plain_word, forward_word}
use Rattle.sg_words.specs.declared.steps.Step.{Step}
use Rattle.sg_round.specs.Items.{Item}
use Rattle.sg_round.specs.Worker.{Seek}
use Rattle.sg_round.specs.Rules.{IsNext}
use Rattle.sg_copy.specs.Telling.{Teller, HasGoneOn, HasStarted, at}
use Rattle.sg_copy.specs.State.{Copying, teller_of, seat_of, IsSameCopier, IsSameHanded, IsOnSlot}
use Rattle.sg_copy.specs.declared.handling.First.{First}
use Rattle.sg_copy.specs.declared.handling.First.TheVariants.{Plain, Staying, Forwarded}

-- what the first word of a young object says
abbrev pub ReadsFirst : ℕ → First → Type 0
ReadsFirst v (Plain class) = (class < 256) × (v ≡ plain_word class)
ReadsFirst v Staying = ((class : ℕ) → class < 256 → v ≡ plain_word class → ⊥) × ((t : ℕ) → 512 ≤ t → t < 2 ^ 37 → v ≡ forward_word (byte_at t) → ⊥)
ReadsFirst v (Forwarded to) = v ≡ forward_word (byte_at to)

-- the item is the next one of the worker a, and without it the worker is b
pub record IsNextOf (a : Teller) (item : Item) (b : Teller) : Type 0 where
  pub next : IsNext a.worker item b.worker
  pub moves : b.moves ≡ a.moves
  pub fails : b.fails ≡ a.fails

-- The handling of a slot went on from the worker a to where the copier d stands: no exchange is prepared, or one on a slot.
pub record HasHandled {P : Type 0} (c : Copying) (leads : P → List Step → P → Type 0) (a : Teller) (port : P) (d : Copying) (port' : P) : Type 0 where
  pub gone : HasGoneOn (seat_of c) leads a port (teller_of d) port'
  pub same : IsSameHanded c d
  pub where_is : IsOnSlot d.stage

-- the same with the first step of a turn
pub record HasBegun {P : Type 0} (c : Copying) (leads : P → List Step → P → Type 0) (a : Teller) (port : P) (d : Copying) (port' : P) : Type 0 where
  pub started : HasStarted (seat_of c) leads a port (teller_of d) port'
  pub same : IsSameHanded c d
  pub where_is : IsOnSlot d.stage

-- the worker a looks at the cell in the place i next; where that is the first one, it is b
pub record LooksAt (a : Teller) (i : ℕ) (b : Teller) : Type 0 where
  pub where_is : ((i ≡ 0) × (a ≡ b)) ⊎ (a ≡ at b (Seek i))
  pub nothing : (b.worker.list ≡ []) × (b.worker.hand ≡ [])

-- The first steps of a turn led from the worker a to where the copier d stands: behind its turn, or with no exchange prepared.
pub record HasSetOut {P : Type 0} (c : Copying) (leads : P → List Step → P → Type 0) (a : Teller) (port : P) (d : Copying) (port' : P) : Type 0 where
  pub started : HasStarted (seat_of c) leads a port (teller_of d) port'
  pub same : IsSameCopier c d
