-- A job that makes a program, runs it and sums up its run.
use Rattle.std.proofs.Common.{◌≡◌, ℕ, ◌≤◌, List, [], ◌⊎◌, inl, inr, refl, sym, subst, arith, true≢false}
use Rattle.std.specs.Prelude.{Option}
use Rattle.sg_io.specs.Progress.{TakesSome}
use Rattle.sg_command.specs.declared.job.Job.{Job}
use Rattle.sg_command.specs.declared.job.Job.TheVariants.{Run, Replay, Gen}
use Rattle.sg_command.specs.Command.{IsCommand}
use Rattle.sg_run.specs.declared.top.Ending.{Ending}
use Rattle.sg_run.specs.declared.top.Ending.TheVariants.{Done, NoCommand, NotAccepted, SourceFailed, SinkFailed, NoMemory}
use Rattle.sg_run.specs.Status.{status_of}
use Rattle.sg_run.specs.Ends.{Ends}
use Rattle.sg_run.specs.Jobs.{HasLoad}
use Rattle.sg_run.specs.Summing.{Summarizes}
use Rattle.sg_run.specs.Performing.{Performs}
use Rattle.sg_run.proofs.Fronts.{took_nothing}

-- the words of a command that makes a program have a seed and a size for one
pub load_of : (words : List (List ℕ)) (job : Job) → IsCommand words job → HasLoad job
load_of words Run is = tt
load_of words (Replay turns) is = tt
load_of words (Gen seed size) is = is.1

pub performs_sum : (seed size : ℕ) (old new : Ends) (ending : Ending) → Summarizes seed size old.taken new.taken old.sink_faults new.sink_faults ending →
    Performs (Gen seed size) old new (status_of ending)
performs_sum seed size old new Done w = record {
  written = λ _. w;
  whole_input = λ reads. absurd (true≢false (sym reads));
  understood = λ e. omega arith;
  only = λ e. absurd (omega arith);
  always = λ not. absurd (not tt);
  line = λ e. absurd (omega arith);
  reads = λ e. absurd (omega arith);
  rose = λ e. absurd (omega arith);
  untouched = λ e. absurd (omega arith);
  write_fault = λ e. absurd (omega arith);
  front_of_line = λ cut not. absurd (not tt);
  front = λ cut _. absurd (elim cut [
    | inl e ↦ omega arith
    | inr e ↦ omega arith
  ]);
  complete = λ _ _ _. inl refl;
  known = omega arith;
}
performs_sum seed size old new SinkFailed w = record {
  written = λ e. absurd (omega arith);
  whole_input = λ reads. absurd (true≢false (sym reads));
  understood = λ e. omega arith;
  only = λ e. absurd (omega arith);
  always = λ not. absurd (not tt);
  line = λ e. absurd (omega arith);
  reads = λ e. absurd (omega arith);
  rose = λ e. absurd (omega arith);
  untouched = λ e. absurd (omega arith);
  write_fault = λ _. w.0;
  front_of_line = λ cut not. absurd (not tt);
  front = λ cut _. (w.1.0, inr w.1.1, w.1.2);
  complete = λ _ reads writes. absurd (writes w.0);
  known = omega arith;
}
performs_sum seed size old new NoMemory same = record {
  written = λ e. absurd (omega arith);
  whole_input = λ reads. absurd (true≢false (sym reads));
  understood = λ e. omega arith;
  only = λ e. absurd (omega arith);
  always = λ not. absurd (not tt);
  line = λ e. absurd (omega arith);
  reads = λ e. absurd (omega arith);
  rose = λ e. absurd (omega arith);
  untouched = λ e. absurd (omega arith);
  write_fault = λ e. absurd (omega arith);
  front_of_line = λ cut not. absurd (not tt);
  front = λ cut _. ([], inl refl, subst (λ (taken : Option (List ℕ)). TakesSome old.taken taken []) (sym same) (took_nothing old.taken []));
  complete = λ _ _ _. inr refl;
  known = omega arith;
}
performs_sum seed size old new NoCommand w = absurd w
performs_sum seed size old new NotAccepted w = absurd w
performs_sum seed size old new SourceFailed w = absurd w
