-- A run that follows a list of turns is a run.
use Rattle.std.proofs.Common.{ℕ, List}
use Rattle.sg_words.specs.Schedule.{Schedule}
use Rattle.sg_program.specs.declared.program.Program.{Program}
use Rattle.sg_graph.specs.Graph.{Graph}
use Rattle.sg_graph.specs.Book.{Book}
use Rattle.sg_graph.specs.Run.{Phase, Goes, IsRun, IsWholeRun}
use Rattle.sg_graph.specs.Follows.{FollowsTo, IsRunBy, IsWholeRunBy}
use Rattle.sg_graph.specs.Laws.{RunsByTurns}

goes : (p : Program) (turns : List ℕ) (n : ℕ) (phases : List Phase) (g : Graph) (b : Book) (s : Schedule) → FollowsTo p turns n phases g b s →
    Goes p n phases g b
goes p turns _ _ _ _ _ FollowsTo.Begins = Goes.Begins
goes p turns _ _ _ _ _ (FollowsTo.GoesOn n phases g b s order swept epoch h c t stop h1 c1 before is going stops) =
    Goes.GoesOn n phases g b order swept epoch h c stop h1 c1 (goes p turns n phases g b s before) is.is going stops.is

run : (p : Program) (turns : List ℕ) (phases : List Phase) → IsRunBy p turns phases → IsRun p phases
run p turns _ (IsRunBy.BehindStop n phases g b s follows) = IsRun.BehindStop n phases g b (goes p turns n phases g b s follows)
run p turns _ (IsRunBy.BehindEpoch n phases g b s order swept report h c t follows is) =
    IsRun.BehindEpoch n phases g b order swept report h c (goes p turns n phases g b s follows) is.is

whole : (p : Program) (turns : List ℕ) (phases : List Phase) → IsWholeRunBy p turns phases → IsWholeRun p phases
whole p turns phases x = record {
  number = x.number;
  before = x.before;
  graph = x.graph;
  book = x.book;
  goes = goes p turns x.number x.before x.graph x.book x.schedule x.follows;
  order = x.order;
  swept = x.swept;
  report = x.report;
  last_graph = x.last_graph;
  last_book = x.last_book;
  epoch = x.epoch.is;
  phases_are = x.phases_are;
  whole = x.whole;
}

pub runs_by_turns : RunsByTurns
runs_by_turns = record { goes = goes; run = run; whole = whole }
