-- A world between its epochs and stops.
use Rattle.std.specs.Prelude.{◌≡◌, ◌≢◌, ℕ, ◌≤◌, ◌⊎◌, Bool, true, false, Some, List, [], ◌∷◌, ◌++◌, length, slice_get}
use Rattle.std.specs.List.{sum_by}
use Rattle.sg_words.specs.Schedule.{Schedule}
use Rattle.sg_program.specs.declared.program.Program.{Program}
use Rattle.sg_program.specs.Invariants.{IsWithinLimits}
use Rattle.sg_graph.specs.declared.reports.EpochReport.{EpochReport}
use Rattle.sg_graph.specs.Graph.{Graph}
use Rattle.sg_graph.specs.Book.{Book}
use Rattle.sg_graph.specs.Epoch.{Said, AllEnded}
use Rattle.sg_graph.specs.Invariants.{IsPlain}
use Rattle.sg_graph.specs.Stop.{requests_in}
use Rattle.sg_graph.specs.Run.{Phase, Epoch}
use Rattle.sg_graph.specs.Follows.{FollowsTo, IsEpochBy, IsWholeRunBy}
use Rattle.sg_space.specs.Space.{Contents, IsContents}
use Rattle.sg_heap.specs.Holding.{HoldsHeap, OwesNothing}
use Rattle.sg_rules.specs.Rules.{fresh}
use Rattle.sg_program.specs.Scripts.{IsRequestOf}
use Rattle.sg_order.specs.Rest.{IsReady}
use Rattle.sg_order.specs.Opening.{AreFirstScripts}
use Rattle.sg_actor.specs.declared.mutator.Stage.{Stage}
use Rattle.sg_actor.specs.declared.mutator.Stage.TheVariants.{Ended, Asking, Yielded}
use Rattle.sg_actor.specs.State.{Mutating, actor_of, IsCounted}
use Rattle.sg_mutate.specs.Epochs.{AreMutatorsOf, IsOpened, parted}
use Rattle.sg_world.specs.Stopping.{requests_of}

-- Its program, its space, its mutators by number, and the number of its next epoch, or of the one before the next stop; and whether some block
-- may be owed.
pub record Worldly : Type 0 where
  pub program : Program
  pub space : Contents
  pub mutators : List Mutating
  pub number : ℕ
  pub owes : Bool

-- a program that a world can run: it is within the limits, and its scripts find what they need and are run now
pub record CanRun (p : Program) : Type 0 where
  pub limits : IsWithinLimits p
  pub scripts : AreFirstScripts p

-- The world is one of this program. Each epoch has answered a statement at least, so they are as few as statements are.
pub record IsWorldOf (p : Program) (world : Worldly) : Type 0 where
  pub can : CanRun p
  pub program : world.program ≡ p
  pub are : AreMutatorsOf p world.mutators
  pub contents : IsContents world.space
  pub counted : (k : ℕ) (m : Mutating) → slice_get world.mutators k ≡ Some m → IsCounted m
  pub numbered : world.number ≤ sum_by (λ (m : Mutating). m.first) world.mutators

-- these phases, by the turns of this list, have led to the world, and an epoch comes next
pub record IsBetween (p : Program) (turns : List ℕ) (phases : List Phase) (world : Worldly) (schedule : Schedule) : Type 0 where
  pub of : IsWorldOf p world
  pub graph : Graph
  pub book : Book
  pub follows : FollowsTo p turns world.number phases graph book schedule
  pub opened : IsOpened p graph book world.space world.mutators
  pub holds : HoldsHeap p world.space graph book
  pub unowed : world.owes ≡ false → OwesNothing p book
  -- there are fewer epochs than a program can have statements, and one more
  pub few : world.number ≤ 1048576

-- mutator k as an epoch has left it: it has ended, asks for something, or has yielded; and what it holds stands
abbrev pub HasLeftReady : Program → Graph → Book → ℕ → Mutating → Stage → Type 0
HasLeftReady p g b k m Ended = ((g.mutator k).ended ≡ true) × IsReady p g b k (parted m) []
HasLeftReady p g b k m (Asking statement request) = ((g.mutator k).ended ≡ false) × IsRequestOf p statement request × IsReady p g b k (actor_of m)
    (statement ∷ m.script)
HasLeftReady p g b k m Yielded = ((g.mutator k).ended ≡ false) × IsReady p g b k (actor_of m) m.script
HasLeftReady p g b k m stage = ⊥

-- these phases and an epoch with this report, by the turns of this list, have led to the world, and a stop comes next, since some
-- mutator is left
pub record IsAtStop (p : Program) (turns : List ℕ) (phases : List Phase) (report : EpochReport) (order : List Said) (swept : List ℕ) (world : Worldly)
    (schedule : Schedule) : Type 0 where
  pub of : IsWorldOf p world
  pub before_graph : Graph
  pub before_book : Book
  pub before_schedule : Schedule
  pub follows : FollowsTo p turns world.number phases before_graph before_book before_schedule
  pub graph : Graph
  pub book : Book
  pub epoch : IsEpochBy p world.number before_graph before_book before_schedule order swept report graph book schedule
  pub going : ¬ AllEnded p graph
  pub holds : HoldsHeap p world.space graph book
  pub unowed : world.owes ≡ false → OwesNothing p book
  pub plain : IsPlain p graph
  pub ready : (k : ℕ) (m : Mutating) → slice_get world.mutators k ≡ Some m → HasLeftReady p graph book k m m.stage
  pub asked : requests_in report.parts ≡ requests_of world.mutators
  -- somebody asks for something
  pub wanted : requests_in report.parts ≢ []
  -- no mutator beyond the program's has anything
  pub beyond : (k : ℕ) → length world.mutators ≤ k → IsReady p graph book k (fresh []) []

-- the epoch with this report, by some order of whole statements, was the last one, or a stop comes next
abbrev pub ComesTo : Program → List ℕ → List Phase → EpochReport → Worldly → Schedule → Type 0
ComesTo p turns phases report world schedule = (order : List Said) × (swept : List ℕ)
    × (((report.last ≡ true) × IsWholeRunBy p turns (phases ++ Epoch report order swept ∷ []))
    ⊎ ((report.last ≡ false) × IsAtStop p turns phases report order swept world schedule))
