-- A run of a program.
use Rattle.std.specs.Prelude.{◌≡◌, ℕ, suc, List, [], ◌∷◌, ◌++◌}
use Rattle.sg_program.specs.declared.program.Program.{Program}
use Rattle.sg_graph.specs.declared.reports.EpochReport.{EpochReport}
use Rattle.sg_graph.specs.declared.reports.StopReport.{StopReport}
use Rattle.sg_graph.specs.Graph.{Graph, no_objects}
use Rattle.sg_graph.specs.Book.{Book, empty_book}
use Rattle.sg_graph.specs.Epoch.{Said, IsEpoch, AllEnded}
use Rattle.sg_graph.specs.Stop.{IsStop, requests_in}

-- A phase of a run: its report, and what isn't printed of it: the order of the whole statements of an epoch, and the blocks that
-- were swept in it.
pub data Phase : Type 0 where
  Epoch : (report : EpochReport) (order : List Said) (swept : List ℕ) → Phase
  Stop : (report : StopReport) → Phase

-- n epochs, each with the stop behind it, have led from no object and an empty book to g and b. A stop comes only where some
-- mutator is left.
pub data Goes (p : Program) : ℕ → List Phase → Graph → Book → Type 0 where
  Begins : Goes p 0 [] (no_objects p) (empty_book p)
  GoesOn : (n : ℕ) (phases : List Phase) (g : Graph) (b : Book) (order : List Said) (swept : List ℕ) (epoch : EpochReport) (h : Graph) (c : Book)
      (stop : StopReport) (h1 : Graph) (c1 : Book) →
      Goes p n phases g b → IsEpoch p n g b order swept epoch h c → ¬ AllEnded p h → IsStop p n h c (requests_in epoch.parts) stop h1 c1 →
      Goes p (suc n) (phases ++ Epoch epoch order swept ∷ Stop stop ∷ []) h1 c1

-- a run of the program, as far as it went: it may break off behind an epoch
pub data IsRun (p : Program) : List Phase → Type 0 where
  BehindStop : (n : ℕ) (phases : List Phase) (g : Graph) (b : Book) → Goes p n phases g b → IsRun p phases
  BehindEpoch : (n : ℕ) (phases : List Phase) (g : Graph) (b : Book) (order : List Said) (swept : List ℕ) (report : EpochReport) (h : Graph) (c : Book) →
      Goes p n phases g b → IsEpoch p n g b order swept report h c → IsRun p (phases ++ Epoch report order swept ∷ [])

-- a run whose last epoch every mutator has ended in
pub record IsWholeRun (p : Program) (phases : List Phase) : Type 0 where
  pub number : ℕ
  pub before : List Phase
  pub graph : Graph
  pub book : Book
  pub goes : Goes p number before graph book
  pub order : List Said
  pub swept : List ℕ
  pub report : EpochReport
  pub last_graph : Graph
  pub last_book : Book
  pub epoch : IsEpoch p number graph book order swept report last_graph last_book
  pub phases_are : phases ≡ before ++ Epoch report order swept ∷ []
  pub whole : AllEnded p last_graph
