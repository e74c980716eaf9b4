-- An epoch over a plain space, by turns.
use Rattle.std.specs.Prelude.{◌≡◌, ℕ, ◌≤◌, ◌⊎◌, true, false, Option, Some, None, List, [], length, slice_get, slice_index}
use Rattle.sg_words.specs.Address.{word_at}
use Rattle.sg_words.specs.Schedule.{Schedule, begun}
use Rattle.sg_program.specs.declared.program.Program.{Program}
use Rattle.sg_program.specs.Invariants.{IsWithinLimits}
use Rattle.sg_program.specs.declared.answers.Leave.{Leave}
use Rattle.sg_graph.specs.Graph.{Graph}
use Rattle.sg_graph.specs.Book.{Book}
use Rattle.sg_graph.specs.Epoch.{Said, running, AllEnded}
use Rattle.sg_graph.specs.Turns.{Board, HasLeft, opening, Plays}
use Rattle.sg_space.specs.Space.{Contents, words_of, IsContents}
use Rattle.sg_frag.specs.Plain.{KeepsSections}
use Rattle.sg_rules.specs.Rules.{Constants, Actor, fresh, sections_of}
use Rattle.sg_order.specs.Rest.{IsEpochOpening}
use Rattle.sg_actor.specs.declared.mutator.Stage.{Stage}
use Rattle.sg_actor.specs.declared.mutator.Stage.TheVariants.{Between, Ended}
use Rattle.sg_actor.specs.State.{Mutating, actor_of, leave_of, IsSameMutator}
use Rattle.sg_actor.specs.Turning.{IsResting}
use Rattle.sg_mutate.specs.Boards.{IsBoarded, OccupiesSlots}

-- how many fragments a space has, before which word each ends, and the marks of each block
abbrev pub constants_of : Contents → Constants
constants_of s = record { fragments = length s.ends; limit = λ f. word_at (slice_index s.ends f); marks = λ c. slice_index s.marks c }

-- who has ended in an earlier epoch has nothing in its hands that anybody looks at, but for the rest of a buffer
abbrev pub parted : Mutating → Actor
parted m = record (fresh []) { from = m.from; to = m.to }

-- a mutator as an epoch finds it
abbrev pub found_at : Stage → Mutating → Actor
found_at Ended m = parted m
found_at stage m = actor_of m

abbrev pub found_in : Option Mutating → Actor
found_in None = fresh []
found_in (Some m) = found_at m.stage m

-- the mutators as an epoch finds them, by number
abbrev pub actors_in : List Mutating → ℕ → Actor
actors_in mutators k = found_in (slice_get mutators k)

-- these are the program's mutators, by number
pub record AreMutatorsOf (p : Program) (mutators : List Mutating) : Type 0 where
  pub count : length mutators ≡ length p.mutators
  pub program : (k : ℕ) (m : Mutating) → slice_get mutators k ≡ Some m → m.program ≡ p
  pub number : (k : ℕ) (m : Mutating) → slice_get mutators k ≡ Some m → m.number ≡ k

-- the space has the sections of the program
pub record IsSpaceFor (p : Program) (s : Contents) : Type 0 where
  pub contents : IsContents s
  pub layout : s.layout ≡ sections_of p

-- a mutator goes on in the next epoch, or has ended before it
abbrev pub IsReadyStage : Graph → ℕ → Stage → Type 0
IsReadyStage g k Between = (g.mutator k).ended ≡ false
IsReadyStage g k Ended = (g.mutator k).ended ≡ true
IsReadyStage g k stage = ⊥

-- An epoch of the program may begin over this space, which holds g by b, with these mutators.
pub record IsOpened (p : Program) (g : Graph) (b : Book) (s : Contents) (mutators : List Mutating) : Type 0 where
  pub limits : IsWithinLimits p
  pub opening : IsEpochOpening p (constants_of s) (words_of s) g b (actors_in mutators)
  pub space : IsSpaceFor p s
  pub fits : OccupiesSlots p (words_of s)
  pub are : AreMutatorsOf p mutators
  pub stages : (k : ℕ) (m : Mutating) → slice_get mutators k ≡ Some m → IsReadyStage g k m.stage
  pub going : ¬ AllEnded p g

-- mutator k of the epoch, which was m, has left it, as the board says, and is n; who asks for something asks for what its statement makes
pub record HasLeftAs (p : Program) (x : Board) (k : ℕ) (m n : Mutating) (a : Actor) : Type 0 where
  pub actor : a ≡ actor_of n
  pub same : IsSameMutator m n
  pub leave : Leave
  pub left : leave_of n.stage ≡ Some leave
  pub position : x.position k ≡ HasLeft leave
  pub fits : (n.stage ≡ Ended) ⊎ IsResting p n.stage

-- The epoch that opened with g and b over the space s, with these mutators, is over: by the turns that the schedule gave, it led to this
-- space and these mutators, each of which has left, and to another schedule.
pub record IsOver (p : Program) (g : Graph) (b : Book) (s : Contents) (mutators : List Mutating) (schedule : Schedule) (t : Contents)
    (after : List Mutating) (next : Schedule) : Type 0 where
  pub order : List Said
  pub board : Board
  pub actors : ℕ → Actor
  pub boarded : IsBoarded p (constants_of s) g b order board (words_of t) actors
  pub plays : Plays p (running p g) (begun schedule) (opening g b) order next board
  pub keeps : KeepsSections s t
  -- no ready entry was taken
  pub head : t.head ≡ s.head
  pub are : AreMutatorsOf p after
  pub left : (k : ℕ) (m n : Mutating) → slice_get mutators k ≡ Some m → slice_get after k ≡ Some n → (g.mutator k).ended ≡ false →
      HasLeftAs p board k m n (actors k)
  pub stayed : (k : ℕ) (m n : Mutating) → slice_get mutators k ≡ Some m → slice_get after k ≡ Some n → (g.mutator k).ended ≡ true →
      (n ≡ m) × (actors k ≡ parted m)
  pub beyond : (k : ℕ) → length mutators ≤ k → actors k ≡ fresh []
