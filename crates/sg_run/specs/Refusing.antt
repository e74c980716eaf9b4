-- How the writing of the line of a refusal ends.
use Rattle.std.specs.Prelude.{◌≡◌, ℕ, Option, List}
use Rattle.std.specs.Io.KnownBytes.{Appends}
use Rattle.sg_io.specs.Faults.{Rose}
use Rattle.sg_io.specs.Progress.{TakesSome}
use Rattle.sg_run.specs.declared.top.Ending.{Ending}
use Rattle.sg_run.specs.declared.top.Ending.TheVariants.{Done, NoCommand, NotAccepted, SourceFailed, SinkFailed, NoMemory}

-- the line was taken whole; or a write failed, and a front of it was taken; or memory ran out, and nothing was
abbrev pub Refuses : Option (List ℕ) → Option (List ℕ) → ℕ → ℕ → List ℕ → Ending → Type 0
Refuses old new faults_old faults_new line NotAccepted = Appends old new line
Refuses old new faults_old faults_new line SinkFailed = Rose faults_old faults_new × TakesSome old new line
Refuses old new faults_old faults_new line NoMemory = new ≡ old
Refuses old new faults_old faults_new line Done = ⊥
Refuses old new faults_old faults_new line NoCommand = ⊥
Refuses old new faults_old faults_new line SourceFailed = ⊥
