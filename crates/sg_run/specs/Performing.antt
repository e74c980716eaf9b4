-- How one job ends.
use Rattle.std.specs.Prelude.{◌≡◌, ◌≢◌, ℕ, ◌≤◌, ◌⊎◌, List, IfSome}
use Rattle.std.specs.Io.KnownBytes.{Appends, Keeps, IsAtEnd}
use Rattle.sg_command.specs.declared.job.Job.{Job}
use Rattle.sg_io.specs.Progress.{TakesSome}
use Rattle.sg_program.specs.declared.program.Program.{Program}
use Rattle.sg_graph.specs.Run.{Phase}
use Rattle.sg_graph.specs.Follows.{IsRunBy, IsWholeRunBy}
use Rattle.sg_trace.specs.Trace.{text}
use Rattle.sg_parse.specs.Accepted.{IsAcceptedAs, IsAccepted}
use Rattle.sg_run.specs.Jobs.{ReadsInput, input_of, IsTakenBy}
use Rattle.sg_run.specs.Ends.{Ends, ReadFails, WriteFails, Gives}
use Rattle.sg_run.specs.Top.{WritesWhole, WritesFront, TellsCause, IsCutShort, TakesFront}

-- what is promised of a call whose words ask for this job
pub record Performs (job : Job) (old new : Ends) (status : ℕ) : Type 0 where
  pub written : status ≡ 0 → IfSome (input_of job old.left) (λ input. WritesWhole job input old new)
  pub whole_input : ReadsInput job → status ≡ 0 → IsAtEnd new.left
  pub understood : status ≢ 1
  pub only : status ≡ 2 → IfSome (input_of job old.left) (λ input. ¬ IsTakenBy job input)
  pub always : IfSome (input_of job old.left) (λ input. ¬ IsTakenBy job input → Gives 2 old new status ⊎ ((status ≡ 3) × ReadFails old new))
  pub line : status ≡ 2 → TellsCause old new
  pub reads : status ≡ 3 → ReadsInput job
  pub rose : status ≡ 3 → ReadFails old new
  pub untouched : status ≡ 3 → Keeps old.taken new.taken
  pub write_fault : status ≡ 4 → WriteFails old new
  pub front_of_line : IsCutShort status → IfSome (input_of job old.left) (λ input. ¬ IsTakenBy job input → TakesFront input old new)
  pub front : IsCutShort status → IfSome (input_of job old.left) (λ input. IsTakenBy job input → WritesFront job input old new)
  pub complete : IfSome (input_of job old.left) (λ input. IsTakenBy job input → ¬ ReadFails old new → ¬ WriteFails old new → (status ≡ 0) ⊎ (status ≡ 5))
  pub known : status ≤ 5

-- the sink took the text of a whole run, by these turns, of the program as which the input is accepted
abbrev pub WritesRun : List ℕ → List ℕ → Ends → Ends → Type 0
WritesRun turns input old new =
    (p : Program) × (phases : List Phase) × IsAcceptedAs input p × IsWholeRunBy p turns phases × Appends old.taken new.taken (text phases)

-- it took a front of the text of such a run as far as it went
abbrev pub WritesRunFront : List ℕ → List ℕ → Ends → Ends → Type 0
WritesRunFront turns input old new =
    (p : Program) × (phases : List Phase) × IsAcceptedAs input p × IsRunBy p turns phases × TakesSome old.taken new.taken (text phases)

-- what is promised of a run by these turns, whichever job asked for it
pub record RunsBy (turns : List ℕ) (old new : Ends) (status : ℕ) : Type 0 where
  pub written : status ≡ 0 → IfSome old.left (λ input. WritesRun turns input old new)
  pub whole_input : status ≡ 0 → IsAtEnd new.left
  pub understood : status ≢ 1
  pub only : status ≡ 2 → IfSome old.left (λ input. ¬ IsAccepted input)
  pub always : IfSome old.left (λ input. ¬ IsAccepted input → Gives 2 old new status ⊎ ((status ≡ 3) × ReadFails old new))
  pub line : status ≡ 2 → TellsCause old new
  pub rose : status ≡ 3 → ReadFails old new
  pub untouched : status ≡ 3 → Keeps old.taken new.taken
  pub write_fault : status ≡ 4 → WriteFails old new
  pub front_of_line : IsCutShort status → IfSome old.left (λ input. ¬ IsAccepted input → TakesFront input old new)
  pub front : IsCutShort status → IfSome old.left (λ input. IsAccepted input → WritesRunFront turns input old new)
  pub complete : IfSome old.left (λ input. IsAccepted input → ¬ ReadFails old new → ¬ WriteFails old new → (status ≡ 0) ⊎ (status ≡ 5))
  pub known : status ≤ 5
