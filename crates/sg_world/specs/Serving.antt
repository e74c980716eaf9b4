-- Behind the pauses of a stop one mutator after another goes on: its request is answered, or its next epoch is before it.
use Rattle.std.specs.Prelude.{◌≡◌, ◌≢◌, ℕ, ◌+◌, ◌^◌, ◌<◌, Option, Some, None, List, [], ◌∷◌, length, slice_get}
use Rattle.sg_words.specs.Lists.{Pairwise}
use Rattle.sg_program.specs.declared.program.Statement.{Statement}
use Rattle.sg_program.specs.declared.program.Program.{Program}
use Rattle.sg_program.specs.declared.answers.Request.TheVariants.{Slot, Sections as AllSections}
use Rattle.sg_graph.specs.declared.reports.Service.{Service}
use Rattle.sg_graph.specs.Graph.{Graph}
use Rattle.sg_graph.specs.Book.{Book}
use Rattle.sg_graph.specs.Invariants.{IsPlain}
use Rattle.sg_graph.specs.Stop.{Placing, Serves}
use Rattle.sg_space.specs.Space.{Contents, IsContents}
use Rattle.sg_heap.specs.Holding.{HoldsHeap, OwesNothing}
use Rattle.sg_placing.specs.declared.placing.Room.{Room}
use Rattle.sg_placing.specs.Answering.{FitsRoom}
use Rattle.sg_rules.specs.Rules.{Idle, Actor}
use Rattle.sg_order.specs.Rest.{IsReady}
use Rattle.sg_actor.specs.declared.mutator.Stage.{Stage}
use Rattle.sg_actor.specs.declared.mutator.Stage.TheVariants.{Asking}
use Rattle.sg_actor.specs.State.{Mutating, waiting, IsCounted}
use Rattle.sg_mutate.specs.Epochs.{found_at, IsReadyStage}
use Rattle.sg_world.specs.Stopping.{asked_of, requests_of}
use Rattle.sg_world.specs.Worlds.{HasLeftReady}

-- the space holds a plain graph
pub record IsHolding (p : Program) (s : Contents) (g : Graph) (b : Book) : Type 0 where
  pub contents : IsContents s
  pub plain : IsPlain p g
  pub heap : HoldsHeap p s g b

-- what a mutator that stands there asks for can be answered: who asks for a slot or for the sections finds no block owed
abbrev pub CanTell : Program → Book → Stage → Type 0
CanTell p b (Asking statement (Slot size)) = OwesNothing p b
CanTell p b (Asking statement AllSections) = OwesNothing p b
CanTell p b stage = Unit {0}

-- mutator k has left its epoch, and can be answered
pub record MayGoOn (p : Program) (g : Graph) (b : Book) (k : ℕ) (m : Mutating) : Type 0 where
  pub left : HasLeftReady p g b k m m.stage
  pub number : m.number ≡ k
  pub tells : CanTell p b m.stage
  pub few : m.first + length m.told < 2 ^ 32

-- the mutators may go on, from number i on, where new objects may be placed so
pub record MayAllGoOn (p : Program) (room : Room) (g : Graph) (b : Book) (i : ℕ) (s : Contents) (ms : List Mutating) : Type 0 where
  pub holding : IsHolding p s g b
  pub fits : FitsRoom p b room
  pub each : (r : ℕ) (m : Mutating) → slice_get ms r ≡ Some m → MayGoOn p g b (i + r) m

-- mutator k is before the next epoch
pub record IsReadyNow (p : Program) (g : Graph) (b : Book) (k : ℕ) (n : Mutating) : Type 0 where
  pub ready : IsReady p g b k (found_at n.stage n) (found_at n.stage n).script
  pub stage : IsReadyStage g k n.stage
  pub idle : (found_at n.stage n).mid ≡ Idle
  pub untold : (found_at n.stage n).told ≡ []

-- it is the same one, further on in its script
pub record IsFurther (m n : Mutating) : Type 0 where
  pub program : n.program ≡ m.program
  pub number : n.number ≡ m.number
  pub first : n.first ≡ m.first + (length m.told + waiting m.stage)
  pub counted : IsCounted m → IsCounted n

-- what one service tells, where there is one
abbrev pub services_in : Option Service → List Service
services_in None = []
services_in (Some service) = service ∷ []

-- what mutator k, which went on, left of graph and book
pub record HasGoneOn (p : Program) (how : Placing) (g : Graph) (b : Book) (k : ℕ) (m : Mutating) (services : List Service)
    (t : Contents) (n : Mutating) : Type 0 where
  pub graph : Graph
  pub book : Book
  pub holding : IsHolding p t graph book
  pub serves : Serves p how g b (asked_of m m.stage) services graph book
  pub others : (j : ℕ) (x : Actor) (script : List Statement) → j ≢ k → IsReady p g b j x script → IsReady p graph book j x script
  pub owed : book.owed ≡ b.owed
  pub ended : (j : ℕ) → (graph.mutator j).ended ≡ (g.mutator j).ended
  pub own : IsReadyNow p graph book k n
  pub further : IsFurther m n

-- what these mutators, from number i on, which went on, left of graph and book
pub record HaveGoneOn (p : Program) (how : Placing) (g : Graph) (b : Book) (i : ℕ) (ms : List Mutating) (services : List Service) (t : Contents)
    (ns : List Mutating) : Type 0 where
  pub graph : Graph
  pub book : Book
  pub holding : IsHolding p t graph book
  pub serves : Serves p how g b (requests_of ms) services graph book
  pub others : (j : ℕ) (x : Actor) (script : List Statement) → ((r : ℕ) → r < length ms → j ≢ i + r) → IsReady p g b j x script →
      IsReady p graph book j x script
  pub owed : book.owed ≡ b.owed
  pub ended : (j : ℕ) → (graph.mutator j).ended ≡ (g.mutator j).ended
  pub own : (r : ℕ) (n : Mutating) → slice_get ns r ≡ Some n → IsReadyNow p graph book (i + r) n
  pub further : Pairwise IsFurther ms ns
