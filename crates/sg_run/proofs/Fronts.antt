-- What holds where nothing was written, and where a run was.
use Rattle.std.proofs.Common.{ℕ, List, [], inl, inr, refl, sym, subst, arith, true≢false}
use Rattle.std.specs.Prelude.{Option, Some, None, IfSome}
use Rattle.std.specs.Io.KnownBytes.{Appends}
use Rattle.std.proofs.KnownBytes.{Appends-nil}
use Rattle.sg_io.specs.Progress.{TakesSome}
use Rattle.sg_program.specs.declared.program.Program.{Program}
use Rattle.sg_graph.specs.Graph.{no_objects}
use Rattle.sg_graph.specs.Book.{empty_book}
use Rattle.sg_graph.specs.Run.{Phase}
use Rattle.sg_graph.specs.Follows.{whole_schedule, IsRunBy, IsWholeRunBy}
use Rattle.sg_graph.specs.Follows.IsRunBy.{BehindStop, BehindEpoch}
use Rattle.sg_graph.specs.Follows.FollowsTo.{Begins}
use Rattle.sg_graph.specs.Laws.{RunsByTurns}
use Rattle.sg_trace.specs.Trace.{text}
use Rattle.sg_parse.specs.Accepted.{IsAcceptedAs, IsAccepted}
use Rattle.sg_command.specs.declared.job.Job.{Job}
use Rattle.sg_command.specs.declared.job.Job.TheVariants.{Run, Replay, Gen}
use Rattle.sg_run.specs.declared.refusal.Cause.{Cause}
use Rattle.sg_run.specs.Causes.{IsCause, refusal_line}
use Rattle.sg_run.specs.Ends.{Ends}
use Rattle.sg_run.specs.Jobs.{ReadsInput, turns_of}
use Rattle.sg_run.specs.Top.{TakesFront}
use Rattle.sg_run.specs.Performing.{Performs, RunsBy, WritesRun, WritesRunFront}

-- a sink that was let alone took the empty front of any piece
pub took_nothing : (a : Option (List ℕ)) (piece : List ℕ) → TakesSome a a piece
took_nothing a piece = (0, omega arith, Appends-nil a)

-- the run that hasn't begun
pub empty_run : (p : Program) (turns : List ℕ) → IsRunBy p turns []
empty_run p turns = BehindStop 0 [] (no_objects p) (empty_book p) (whole_schedule turns) Begins

-- a whole run is one as far as it went
pub whole_is_run : (p : Program) (turns : List ℕ) (phases : List Phase) → IsWholeRunBy p turns phases → IsRunBy p turns phases
whole_is_run p turns phases w =
    subst (IsRunBy p turns) (sym w.phases_are)
    (BehindEpoch w.number w.before w.graph w.book w.schedule w.order w.swept w.report w.last_graph w.last_book w.last_schedule w.follows w.epoch)

module _ (turns : List ℕ) (left : Option (List ℕ)) (old new : Ends) where
  -- where the input is accepted as p, of which there is a run, and a front of that run's text was taken
  pub front_of_run : (p : Program) (phases : List Phase) → IfSome left (λ input. IsAcceptedAs input p) → IsRunBy p turns phases → TakesSome old.taken new.taken (text phases) →
      IfSome left (λ input. IsAccepted input → WritesRunFront turns input old new)
  front_of_run p phases found run takes = by_left left found
    where
      by_left : (left : Option (List ℕ)) → IfSome left (λ input. IsAcceptedAs input p) → IfSome left (λ input. IsAccepted input → WritesRunFront turns input old new)
      by_left None found = found
      by_left (Some input) found = λ _. (p, phases, found, run, takes)

  -- the text of a whole run was written
  pub writes_run : (p : Program) (phases : List Phase) → IfSome left (λ input. IsAcceptedAs input p) → IsWholeRunBy p turns phases → Appends old.taken new.taken (text phases) →
      IfSome left (λ input. WritesRun turns input old new)
  writes_run p phases found whole takes = by_left left found
    where
      by_left : (left : Option (List ℕ)) → IfSome left (λ input. IsAcceptedAs input p) → IfSome left (λ input. WritesRun turns input old new)
      by_left None found = found
      by_left (Some input) found = (p, phases, found, whole, takes)

  -- where the input isn't accepted for this cause, a front of the line that tells it was taken
  pub front_of_line : (cause : Cause) → IfSome left (λ input. IsCause input cause) → TakesSome old.taken new.taken (refusal_line cause) →
      IfSome left (λ input. ¬ IsAccepted input → TakesFront input old new)
  front_of_line cause is takes = by_left left is
    where
      by_left : (left : Option (List ℕ)) → IfSome left (λ input. IsCause input cause) → IfSome left (λ input. ¬ IsAccepted input → TakesFront input old new)
      by_left None is = is
      by_left (Some input) is = λ _. inr (cause, is, takes)

  -- where nothing was taken, that is a front of any line
  pub no_front : TakesSome old.taken new.taken [] → IfSome left (λ input. ¬ IsAccepted input → TakesFront input old new)
  no_front takes = by_left left
    where
      by_left : (left : Option (List ℕ)) → IfSome left (λ input. ¬ IsAccepted input → TakesFront input old new)
      by_left None = tt
      by_left (Some input) = λ _. inl takes

  -- and of the text of the run that hasn't begun
  pub nothing_yet : ((piece : List ℕ) → TakesSome old.taken new.taken piece) → IfSome left (λ input. IsAccepted input → WritesRunFront turns input old new)
  nothing_yet takes = by_left left
    where
      by_left : (left : Option (List ℕ)) → IfSome left (λ input. IsAccepted input → WritesRunFront turns input old new)
      by_left None = tt
      by_left (Some input) = λ a. (a.0, [], a.1, empty_run a.0 turns, takes (text []))

-- where the input is accepted, nothing is asked for others
pub accepted_else : (left : Option (List ℕ)) (p : Program) (X : List ℕ → Type 0) → IfSome left (λ input. IsAcceptedAs input p) → IfSome left (λ input. ¬ IsAccepted input → X input)
accepted_else None p X found = found
accepted_else (Some input) p X found = λ none. absurd (none (p, found))

-- where it isn't, nothing is asked for accepted ones
pub refused_else : (left : Option (List ℕ)) (X : List ℕ → Type 0) → IfSome left (λ input. ¬ IsAccepted input) → IfSome left (λ input. IsAccepted input → X input)
refused_else None X none = none
refused_else (Some input) X none = λ some. absurd (none some)

-- what holds of an input that is told holds where it is told
some_of : (left : Option (List ℕ)) (P Q : List ℕ → Type 0) → ((input : List ℕ) → P input → Q input) → IfSome left P → IfSome left Q
some_of None P Q f h = h
some_of (Some input) P Q f h = f input h

-- a run by turns is what a job that reads performs, by its own turns
pub performs : RunsByTurns → (job : Job) → ReadsInput job → (old new : Ends) (status : ℕ) → RunsBy (turns_of job) old new status → Performs job old new status
performs law Run reads old new status h = record {
  written = λ e. some_of old.left _ _ (λ input w. (text w.1, (w.0, w.1, w.2, law.whole w.0 [] w.1 w.3, refl), w.4)) (h.written e);
  whole_input = λ _. h.whole_input;
  understood = h.understood;
  only = h.only;
  always = h.always;
  line = h.line;
  reads = λ _. refl;
  rose = h.rose;
  untouched = h.untouched;
  write_fault = h.write_fault;
  front_of_line = h.front_of_line;
  front = λ cut. some_of old.left _ _ (λ input f a. let w = f a in (text w.1, (w.0, w.1, w.2, law.run w.0 [] w.1 w.3, refl), w.4)) (h.front cut);
  complete = h.complete;
  known = h.known;
}
performs law (Replay turns) reads old new status h = record {
  written = λ e. some_of old.left _ _ (λ input w. (text w.1, (w.0, w.1, w.2, law.whole w.0 turns w.1 w.3, w.3, refl), w.4)) (h.written e);
  whole_input = λ _. h.whole_input;
  understood = h.understood;
  only = h.only;
  always = h.always;
  line = h.line;
  reads = λ _. refl;
  rose = h.rose;
  untouched = h.untouched;
  write_fault = h.write_fault;
  front_of_line = h.front_of_line;
  front = λ cut. some_of old.left _ _ (λ input f a. let w = f a in (text w.1, (w.0, w.1, w.2, law.run w.0 turns w.1 w.3, w.3, refl), w.4)) (h.front cut);
  complete = h.complete;
  known = h.known;
}
performs law (Gen seed size) reads old new status h = absurd (true≢false (sym reads))
