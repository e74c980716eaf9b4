-- What a mutator does on a port.
use Rattle.std.specs.Prelude.{◌≡◌, ◌≢◌, ℕ, ◌<◌, ◌⊎◌, Bool, true, false, Some, List, [], ◌∷◌, length}
use Rattle.sg_words.specs.declared.steps.Step.{Step}
use Rattle.sg_words.specs.declared.steps.Step.TheVariants.{Load}
use Rattle.sg_words.specs.declared.steps.Place.TheVariants.{Stop}
use Rattle.sg_words.specs.declared.steps.Call.{Call}
use Rattle.sg_program.specs.declared.program.Program.{Program}
use Rattle.sg_program.specs.declared.program.Statement.{Statement}
use Rattle.sg_program.specs.declared.answers.Answer.TheVariants.{Field}
use Rattle.sg_program.specs.Scripts.{MakesObject, made_in, made_class, made_fields, IsRequestOf}
use Rattle.sg_program.specs.Tests.{Test, test_of}
use Rattle.sg_words.specs.Sections.{old_base}
use Rattle.sg_rules.specs.Rules.{Constants, Actor, Access, sections_of, before, within, over, cleared}
use Rattle.sg_rules.specs.Acting.{Acts, IsGuided, HasGoneOn, HasTurned}
use Rattle.sg_rules.specs.Resting.{IsRunnable}
use Rattle.sg_actor.specs.declared.mutator.Stage.{Stage}
use Rattle.sg_actor.specs.declared.mutator.Stage.TheVariants.{Between, Within, Claiming, OpeningBlock, TakingSlot, TakingOver, Sweeping, BehindSweep, Ended, Asking, Yielded}
use Rattle.sg_actor.specs.State.{Mutating, actor_of, IsSameMutator}

-- The port has these fragments, and these blocks with these marks, and lets the program's mutator, which is a, make each next step from here on.
pub record IsOnPort {P : Type 0} (p : Program) (lay : Constants) (leads : P → List Step → P → Type 0) (may : P → Call → Type 0) (sees : P → Step → Type 0)
    (fragments : P → ℕ) (limit : P → ℕ → ℕ) (blocks heap : P → ℕ) (marks : P → ℕ → ℕ) (port : P) (a : Actor) : Type 0 where
  pub guided : IsGuided p lay leads may sees port a
  pub fragments_are : fragments port ≡ lay.fragments
  pub limits_are : limit port ≡ lay.limit
  pub blocks_are : blocks port ≡ p.config.blocks
  pub heap_is : heap port ≡ old_base (sections_of p)
  pub marks_are : marks port ≡ lay.marks

-- the mutator, which was a, has loaded the stop word as 0 and so begun a statement: whatever it is then, it is on the port
abbrev pub HasBegun : {P : Type 0} → Program → Constants → (P → List Step → P → Type 0) → (P → Call → Type 0) → (P → Step → Type 0) → (P → ℕ) →
    (P → ℕ → ℕ) → (P → ℕ) → (P → ℕ) → (P → ℕ → ℕ) → P → Actor → Type 0
HasBegun {P} p lay leads may sees fragments limit blocks heap marks port a =
    (b : Actor) → Acts p lay a (Load Stop 0) b → IsOnPort p lay leads may sees fragments limit blocks heap marks port b

-- the mutator, which was a before it loaded the stop word as 0, has gone on from there to b, where its turn ends or goes on
pub record HasRun {P : Type 0} (p : Program) (lay : Constants) (leads : P → List Step → P → Type 0) (a : Actor) (port : P) (b : Actor) (port' : P) : Type 0 where
  pub begun : Actor
  pub begins : Acts p lay a (Load Stop 0) begun
  pub goes : HasGoneOn p lay leads begun port b port'

-- the mutator before the statement s, in whose midst it is
abbrev pub before_this : Mutating → Statement → Actor
before_this m s = before (actor_of m) s m.script

-- the statement s, in whose midst the mutator m is, is decided by the load of the stop word with which it began, and is done
pub record Decides (m : Mutating) (s : Statement) (n : Mutating) : Type 0 where
  pub comes : (lay : Constants) → Acts m.program lay (before_this m s) (Load Stop 0) (actor_of n)
  pub stage : n.stage ≡ Between
  pub same : IsSameMutator m n

-- where a mutator stands behind a turn in which it hasn't ended; who asks for something asks for what its statement makes
abbrev pub IsResting : Program → Stage → Type 0
IsResting p Between = Unit {0}
IsResting p Within = ⊥
IsResting p (Claiming statement fragment next) = Unit {0}
IsResting p (OpeningBlock statement block) = Unit {0}
IsResting p (TakingSlot statement block slot) = Unit {0}
IsResting p (TakingOver statement block size) = Unit {0}
IsResting p (Sweeping statement block size) = Unit {0}
IsResting p (BehindSweep statement block) = Unit {0}
IsResting p Ended = ⊥
IsResting p (Asking statement request) = IsRequestOf p statement request
IsResting p Yielded = Unit {0}

-- the same mutator is behind its turn
pub record IsBehindTurn (m n : Mutating) : Type 0 where
  pub rests : IsResting m.program n.stage
  pub same : IsSameMutator m n

-- no statement was left: the mutator has ended, and made no step
pub record EndsNow {P : Type 0} (leads : P → List Step → P → Type 0) (m : Mutating) (port : P) (n : Mutating) (port' : P) : Type 0 where
  pub between : m.stage ≡ Between
  pub none : m.script ≡ []
  pub ended : n.stage ≡ Ended
  pub actor : actor_of n ≡ actor_of m
  pub same : IsSameMutator m n
  pub led : leads port [] port'

-- A turn of a mutator: it ends, since no statement is left; or it makes the steps of one turn.
abbrev pub TakesTurn : {P : Type 0} → Constants → (P → List Step → P → Type 0) → Mutating → P → Mutating → P → Type 0
TakesTurn {P} lay leads m port n port' =
    EndsNow leads m port n port' ⊎ (IsBehindTurn m n × HasTurned m.program lay leads (actor_of m) port (actor_of n) port')

-- behind an object test: the mutator is about to reach the field, or the statement is over
abbrev pub tested : Mutating → Statement → Bool → Actor
tested m s true = within (actor_of m) m.script (Access s)
tested m s false = over (actor_of m) m.script (cleared s (actor_of m).reg) Field

-- an object that the statement tests has a class: where its register isn't empty, the program has one
abbrev pub HasClassFor : Mutating → Statement → Type 0
HasClassFor m s = (test : Test) → test_of s ≡ Some test → (actor_of m).reg test.register ≢ 0 → 0 < length m.program.classes

-- the same for the statement that comes next, where the mutator is before one
abbrev pub HasClassForNext : Mutating → Type 0
HasClassForNext m = m.stage ≡ Between → (s : Statement) (rest : List Statement) → m.script ≡ s ∷ rest → HasClassFor m s

-- what the words of a new object are, by its statement
pub record IsMadeOf (p : Program) (s : Statement) (r class fields : ℕ) : Type 0 where
  pub makes : MakesObject s
  pub register : r ≡ made_in s
  pub class_is : class ≡ made_class s
  pub fields_are : fields ≡ made_fields p s
  pub runnable : IsRunnable p s
