-- What the top call promises, by its status: 0 done, 1 no command, 2 not accepted, 3 the source failed, 4 the sink
-- failed, 5 no memory. Clauses on bytes hold where the source and the sink tell their bytes.
use Rattle.std.specs.Prelude.{◌≡◌, ◌≢◌, ℕ, ◌≤◌, ◌⊎◌, List, [], IfSome}
use Rattle.std.specs.Io.KnownBytes.{Appends, Keeps, IsAtEnd}
use Rattle.sg_io.specs.Progress.{TakesSome}
use Rattle.sg_parse.specs.declared.refusal.Refusal.TheVariants.{Memory}
use Rattle.sg_command.specs.declared.job.Job.{Job}
use Rattle.sg_run.specs.declared.refusal.Cause.{Cause}
use Rattle.sg_run.specs.declared.refusal.Cause.TheVariants.{Refused}
use Rattle.sg_command.specs.Command.{IsCommand, IsAnyCommand, usage_lines}
use Rattle.sg_run.specs.Jobs.{ReadsInput, input_of, IsTakenBy, Writes, MayWrite}
use Rattle.sg_run.specs.Causes.{IsCause, refusal_line}
use Rattle.sg_run.specs.Ends.{Ends, ReadFails, WriteFails, Gives}

-- the sink took exactly what the job writes for this input
abbrev pub WritesWhole : Job → List ℕ → Ends → Ends → Type 0
WritesWhole job input old new = (bytes : List ℕ) × Writes job input bytes × Appends old.taken new.taken bytes

-- the sink took a front of what the job writes for this input as far as it goes
abbrev pub WritesFront : Job → List ℕ → Ends → Ends → Type 0
WritesFront job input old new = (bytes : List ℕ) × MayWrite job input bytes × TakesSome old.taken new.taken bytes

-- status 0: the words are a command, the input was read to its end, and what was written is what the job writes, whole
pub record Headline (words : List (List ℕ)) (old new : Ends) (status : ℕ) : Type 0 where
  pub command : status ≡ 0 → IsAnyCommand words
  pub written : (job : Job) → IsCommand words job → status ≡ 0 → IfSome (input_of job old.left) (λ input. WritesWhole job input old new)
  pub whole_input : (job : Job) → IsCommand words job → ReadsInput job → status ≡ 0 → IsAtEnd new.left

-- status 1: exactly where the words are no command, with the usage lines; nothing is read then
pub record Usage (words : List (List ℕ)) (old new : Ends) (status : ℕ) : Type 0 where
  pub only : status ≡ 1 → ¬ IsAnyCommand words
  pub always : ¬ IsAnyCommand words → Gives 1 old new status
  pub line : status ≡ 1 → Appends old.taken new.taken usage_lines
  pub unread : ¬ IsAnyCommand words → Keeps old.left new.left

-- the sink took exactly the line that tells why the input isn't accepted, and so it is where the input is told
abbrev pub TellsCause : Ends → Ends → Type 0
TellsCause old new =
    (cause : Cause) × (cause ≢ Refused Memory) × Appends old.taken new.taken (refusal_line cause) × IfSome old.left (λ input. IsCause input cause)

-- status 2: exactly where the words are a command whose job doesn't take the input, with the line that tells why
pub record Refusal (words : List (List ℕ)) (old new : Ends) (status : ℕ) : Type 0 where
  pub command : status ≡ 2 → IsAnyCommand words
  pub only : (job : Job) → IsCommand words job → status ≡ 2 → IfSome (input_of job old.left) (λ input. ¬ IsTakenBy job input)
  pub always : (job : Job) → IsCommand words job
      → IfSome (input_of job old.left) (λ input. ¬ IsTakenBy job input → Gives 2 old new status ⊎ ((status ≡ 3) × ReadFails old new))
  pub line : status ≡ 2 → TellsCause old new

-- status 3: only where the words are a command whose job reads, and a read failed; nothing is written then
pub record ReadFault (words : List (List ℕ)) (old new : Ends) (status : ℕ) : Type 0 where
  pub command : status ≡ 3 → IsAnyCommand words
  pub reads : (job : Job) → IsCommand words job → status ≡ 3 → ReadsInput job
  pub rose : status ≡ 3 → ReadFails old new
  pub untouched : status ≡ 3 → Keeps old.taken new.taken

-- status 4: only where a write failed
abbrev pub WriteFault : Ends → Ends → ℕ → Type 0
WriteFault old new status = status ≡ 4 → WriteFails old new

-- the call stopped early: a write failed or memory ran out
abbrev pub IsCutShort : ℕ → Type 0
IsCutShort status = (status ≡ 4) ⊎ (status ≡ 5)

-- the sink took nothing, or a front of the line that tells why the input isn't accepted
abbrev pub TakesFront : List ℕ → Ends → Ends → Type 0
TakesFront input old new =
    TakesSome old.taken new.taken [] ⊎ ((cause : Cause) × IsCause input cause × TakesSome old.taken new.taken (refusal_line cause))

-- statuses 4 and 5: the sink took a front of what would have been written
pub record Front (words : List (List ℕ)) (old new : Ends) (status : ℕ) : Type 0 where
  pub usage : IsCutShort status → ¬ IsAnyCommand words → TakesSome old.taken new.taken usage_lines
  pub refusal : (job : Job) → IsCommand words job → IsCutShort status
      → IfSome (input_of job old.left) (λ input. ¬ IsTakenBy job input → TakesFront input old new)
  pub written : (job : Job) → IsCommand words job → IsCutShort status
      → IfSome (input_of job old.left) (λ input. IsTakenBy job input → WritesFront job input old new)

-- a job that takes its input is done to its end, where no read and no write failed and memory didn't run out
abbrev pub Complete : List (List ℕ) → Ends → Ends → ℕ → Type 0
Complete words old new status = (job : Job) → IsCommand words job
    → IfSome (input_of job old.left) (λ input. IsTakenBy job input → ¬ ReadFails old new → ¬ WriteFails old new → (status ≡ 0) ⊎ (status ≡ 5))

-- all that is promised of a call
pub record Promises (words : List (List ℕ)) (old new : Ends) (status : ℕ) : Type 0 where
  pub headline : Headline words old new status
  pub usage : Usage words old new status
  pub refusal : Refusal words old new status
  pub read_fault : ReadFault words old new status
  pub write_fault : WriteFault old new status
  pub front : Front words old new status
  pub complete : Complete words old new status
  pub known : status ≤ 5
