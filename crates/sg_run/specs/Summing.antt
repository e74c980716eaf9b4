-- How the writing of the summary of a generated program's run ends.
use Rattle.std.specs.Prelude.{◌≡◌, ℕ, Option, List}
use Rattle.std.specs.Io.KnownBytes.{Appends}
use Rattle.sg_io.specs.Faults.{Rose}
use Rattle.sg_io.specs.Progress.{TakesSome}
use Rattle.sg_run.specs.Jobs.{SumsUp}
use Rattle.sg_run.specs.declared.top.Ending.{Ending}
use Rattle.sg_run.specs.declared.top.Ending.TheVariants.{Done, NoCommand, NotAccepted, SourceFailed, SinkFailed, NoMemory}

-- the summary was taken whole; or a write failed, and a front of it was taken; or memory ran out, and nothing was
abbrev pub Summarizes : ℕ → ℕ → Option (List ℕ) → Option (List ℕ) → ℕ → ℕ → Ending → Type 0
Summarizes seed size old new faults_old faults_new Done = (bytes : List ℕ) × SumsUp seed size bytes × Appends old new bytes
Summarizes seed size old new faults_old faults_new SinkFailed = Rose faults_old faults_new × ((bytes : List ℕ) × SumsUp seed size bytes × TakesSome old new bytes)
Summarizes seed size old new faults_old faults_new NoMemory = new ≡ old
Summarizes seed size old new faults_old faults_new NoCommand = ⊥
Summarizes seed size old new faults_old faults_new NotAccepted = ⊥
Summarizes seed size old new faults_old faults_new SourceFailed = ⊥
