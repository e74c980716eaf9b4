-- What is promised of a job is promised of the words that ask for it.
use Rattle.std.specs.Prelude.{Option, Some, None, IfSome}
use Rattle.std.proofs.Common.{[], ◌≡◌, ◌≢◌, ℕ, ◌≤◌, inl, inr, List, refl, subst, arith}
use Rattle.std.specs.Io.KnownBytes.{Appends, Keeps}
use Rattle.sg_io.specs.Progress.{TakesSome}
use Rattle.sg_command.specs.declared.job.Job.{Job}
use Rattle.sg_command.specs.declared.job.Job.TheVariants.{Run, Replay, Gen}
use Rattle.sg_command.specs.Command.{IsCommand, IsAnyCommand, usage_lines, HasOneJob}
use Rattle.sg_run.specs.Ends.{Ends, WriteFails, Gives}
use Rattle.sg_run.specs.Top.{IsCutShort, Promises}
use Rattle.sg_graph.specs.Laws.{RunsByTurns}
use Rattle.sg_trace.specs.Trace.{text}
use Rattle.sg_run.specs.declared.top.Ending.TheVariants.{NoMemory}
use Rattle.sg_run.specs.Performing.{Performs, RunsBy}
use Rattle.sg_run.proofs.Fronts.{took_nothing, empty_run, performs}
use Rattle.sg_run.proofs.Summed.{performs_sum}

pub promises_of : HasOneJob → (words : List (List ℕ)) (job : Job) (old new : Ends) (status : ℕ) → IsCommand words job → Performs job old new status →
    Promises words old new status
promises_of one_job words job old new status is h = record {
  headline = record {
    command = λ _. (job, is);
    written = λ other also. (there other also).written;
    whole_input = λ other also. (there other also).whole_input;
  };
  usage = record {
    only = λ e. absurd (h.understood e);
    always = λ none. absurd (none (job, is));
    line = λ e. absurd (h.understood e);
    unread = λ none. absurd (none (job, is));
  };
  refusal = record {
    command = λ _. (job, is);
    only = λ other also. (there other also).only;
    always = λ other also. (there other also).always;
    line = h.line;
  };
  read_fault = record {
    command = λ _. (job, is);
    reads = λ other also. (there other also).reads;
    rose = h.rose;
    untouched = h.untouched;
  };
  write_fault = h.write_fault;
  front = record {
    usage = λ _ none. absurd (none (job, is));
    refusal = λ other also. (there other also).front_of_line;
    written = λ other also. (there other also).front;
  };
  complete = λ other also. (there other also).complete;
  known = h.known;
}
  where
    there : (other : Job) → IsCommand words other → Performs other old new status
    there other also = subst (λ j. Performs j old new status) (one_job words job other is also) h

-- the status is 1, 4 or 5
no_other : (old new : Ends) (status : ℕ) → Gives 1 old new status → (status ≢ 0) × (status ≢ 2) × (status ≢ 3) × (status ≡ 4 → WriteFails old new) × (status ≤ 5)
no_other old new status (inl e) = (λ z. omega arith, λ z. omega arith, λ z. omega arith, λ z. absurd (omega arith), omega arith)
no_other old new status (inr (inl e)) = let w = e.0 in (λ z. omega arith, λ z. omega arith, λ z. omega arith, λ z. e.1, omega arith)
no_other old new status (inr (inr e)) = (λ z. omega arith, λ z. omega arith, λ z. omega arith, λ z. absurd (omega arith), omega arith)

-- what is promised where the words ask for no job
pub promises_usage : (words : List (List ℕ)) (old new : Ends) (status : ℕ) → ¬ IsAnyCommand words → Gives 1 old new status → Keeps old.left new.left →
    (status ≡ 1 → Appends old.taken new.taken usage_lines) → (IsCutShort status → TakesSome old.taken new.taken usage_lines) → Promises words old new status
promises_usage words old new status none gives unread line front =
    let o = no_other old new status gives in record {
      headline = record {
        command = λ e. absurd (o.0 e);
        written = λ job is. absurd (none (job, is));
        whole_input = λ job is. absurd (none (job, is));
      };
      usage = record { only = λ _. none; always = λ _. gives; line = line; unread = λ _. unread };
      refusal = record {
        command = λ e. absurd (o.1 e);
        only = λ job is. absurd (none (job, is));
        always = λ job is. absurd (none (job, is));
        line = λ e. absurd (o.1 e);
      };
      read_fault = record {
        command = λ e. absurd (o.2 e);
        reads = λ job is. absurd (none (job, is));
        rose = λ e. absurd (o.2 e);
        untouched = λ e. absurd (o.2 e);
      };
      write_fault = o.3;
      front = record {
        usage = λ cut _. front cut;
        refusal = λ job is. absurd (none (job, is));
        written = λ job is. absurd (none (job, is));
      };
      complete = λ job is. absurd (none (job, is));
      known = o.4;
    }

keeps_same : (a : Option (List ℕ)) → Keeps a a
keeps_same None = tt
keeps_same (Some xs) = refl

told : (left : Option (List ℕ)) (P : List ℕ → Type 0) → ((input : List ℕ) → P input) → IfSome left P
told None P f = tt
told (Some input) P f = f input

-- memory ran out before anything was read or written
nothing_done : (turns : List ℕ) (old : Ends) → RunsBy turns old old 5
nothing_done turns old = record {
  written = λ e. absurd (omega arith);
  whole_input = λ e. absurd (omega arith);
  understood = λ e. omega arith;
  only = λ e. absurd (omega arith);
  always = told old.left _ (λ input none. inl (inr (inr refl)));
  line = λ e. absurd (omega arith);
  rose = λ e. absurd (omega arith);
  untouched = λ e. absurd (omega arith);
  write_fault = λ e. absurd (omega arith);
  front_of_line = λ cut. told old.left _ (λ input none. inl (took_nothing old.taken []));
  front = λ cut. told old.left _ (λ input a. (a.0, [], a.1, empty_run a.0 turns, took_nothing old.taken (text [])));
  complete = told old.left _ (λ input a reads writes. inr refl);
  known = omega arith;
}

pub promises_nothing : RunsByTurns → (words : List (List ℕ)) (old : Ends) → Promises words old old 5
promises_nothing law words old = record {
  headline = record {
    command = λ e. absurd (omega arith);
    written = λ job is. (there job).written;
    whole_input = λ job is. (there job).whole_input;
  };
  usage = record {
    only = λ e. absurd (omega arith);
    always = λ none. inr (inr refl);
    line = λ e. absurd (omega arith);
    unread = λ none. keeps_same old.left;
  };
  refusal = record {
    command = λ e. absurd (omega arith);
    only = λ job is. (there job).only;
    always = λ job is. (there job).always;
    line = λ e. absurd (omega arith);
  };
  read_fault = record {
    command = λ e. absurd (omega arith);
    reads = λ job is. (there job).reads;
    rose = λ e. absurd (omega arith);
    untouched = λ e. absurd (omega arith);
  };
  write_fault = λ e. absurd (omega arith);
  front = record {
    usage = λ cut none. took_nothing old.taken usage_lines;
    refusal = λ job is. (there job).front_of_line;
    written = λ job is. (there job).front;
  };
  complete = λ job is. (there job).complete;
  known = omega arith;
}
  where
    there : (job : Job) → Performs job old old 5
    there Run = performs law Run refl old old 5 (nothing_done [] old)
    there (Replay turns) = performs law (Replay turns) refl old old 5 (nothing_done turns old)
    there (Gen seed size) = performs_sum seed size old old NoMemory refl
