-- Runs by turns: one thread gives the turns of each epoch in the order of a list of numbers, and one worker copies in each pause.
use Rattle.std.specs.Prelude.{◌≡◌, ℕ, suc, Some, List, [], ◌∷◌, ◌++◌}
use Rattle.sg_words.specs.Schedule.{Schedule}
use Rattle.sg_program.specs.declared.program.Program.{Program}
use Rattle.sg_graph.specs.declared.reports.EpochReport.{EpochReport}
use Rattle.sg_graph.specs.declared.reports.MinorReport.{MinorReport}
use Rattle.sg_graph.specs.declared.reports.StopReport.{StopReport}
use Rattle.sg_graph.specs.Graph.{Graph, no_objects}
use Rattle.sg_graph.specs.Book.{Book, empty_book, swept_out}
use Rattle.sg_graph.specs.Epoch.{Said, IsEpoch, AllEnded}
use Rattle.sg_graph.specs.Pause.{ambiguous_words}
use Rattle.sg_graph.specs.Copies.{CopiesInOrder}
use Rattle.sg_graph.specs.Stop.{IsStop, requests_in}
use Rattle.sg_graph.specs.Turns.{FollowsEpoch}
use Rattle.sg_graph.specs.Run.{Phase, Epoch, Stop}

-- an epoch whose whole statements stand in the order of the turns that the schedule gives; behind it the schedule is another one
pub record IsEpochBy (p : Program) (e : ℕ) (g : Graph) (b : Book) (s : Schedule) (order : List Said) (swept : List ℕ) (report : EpochReport) (h : Graph) (c : Book) (t : Schedule) : Type 0 where
  pub is : IsEpoch p e g b order swept report h c
  pub follows : FollowsEpoch p g b s order report.parts c t

-- a stop whose minor pause, where one is made, copies in order
pub record IsStopInOrder (p : Program) (e : ℕ) (g : Graph) (b : Book) (epoch : EpochReport) (report : StopReport) (h : Graph) (c : Book) : Type 0 where
  pub is : IsStop p e g b (requests_in epoch.parts) report h c
  pub copies : (minor : MinorReport) → report.minor ≡ Some minor → CopiesInOrder p g (swept_out b) (ambiguous_words p g b) is.minor_book

-- before the first number of the list
abbrev pub whole_schedule : List ℕ → Schedule
whole_schedule turns = record { left = turns; next = 0 }

-- n epochs by the turns of the list, each with the stop behind it, have led from no object and an empty book to g and b, and to this
-- place in the list
pub data FollowsTo (p : Program) (turns : List ℕ) : ℕ → List Phase → Graph → Book → Schedule → Type 0 where
  Begins : FollowsTo p turns 0 [] (no_objects p) (empty_book p) (whole_schedule turns)
  GoesOn : (n : ℕ) (phases : List Phase) (g : Graph) (b : Book) (s : Schedule) (order : List Said) (swept : List ℕ) (epoch : EpochReport) (h : Graph) (c : Book) (t : Schedule)
      (stop : StopReport) (h1 : Graph) (c1 : Book) →
      FollowsTo p turns n phases g b s → IsEpochBy p n g b s order swept epoch h c t → ¬ AllEnded p h → IsStopInOrder p n h c epoch stop h1 c1 →
      FollowsTo p turns (suc n) (phases ++ Epoch epoch order swept ∷ Stop stop ∷ []) h1 c1 t

-- a run that follows the list, as far as it went: it may break off behind an epoch
pub data IsRunBy (p : Program) (turns : List ℕ) : List Phase → Type 0 where
  BehindStop : (n : ℕ) (phases : List Phase) (g : Graph) (b : Book) (s : Schedule) → FollowsTo p turns n phases g b s → IsRunBy p turns phases
  BehindEpoch : (n : ℕ) (phases : List Phase) (g : Graph) (b : Book) (s : Schedule) (order : List Said) (swept : List ℕ) (report : EpochReport) (h : Graph) (c : Book) (t : Schedule) →
      FollowsTo p turns n phases g b s → IsEpochBy p n g b s order swept report h c t → IsRunBy p turns (phases ++ Epoch report order swept ∷ [])

-- a run that follows the list, whose last epoch every mutator has ended in
pub record IsWholeRunBy (p : Program) (turns : List ℕ) (phases : List Phase) : Type 0 where
  pub number : ℕ
  pub before : List Phase
  pub graph : Graph
  pub book : Book
  pub schedule : Schedule
  pub follows : FollowsTo p turns number before graph book schedule
  pub order : List Said
  pub swept : List ℕ
  pub report : EpochReport
  pub last_graph : Graph
  pub last_book : Book
  pub last_schedule : Schedule
  pub epoch : IsEpochBy p number graph book schedule order swept report last_graph last_book last_schedule
  pub phases_are : phases ≡ before ++ Epoch report order swept ∷ []
  pub whole : AllEnded p last_graph
