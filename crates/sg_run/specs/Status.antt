-- The statuses.
use Rattle.std.specs.Prelude.{ℕ}
use Rattle.sg_run.specs.declared.top.Ending.{Ending}
use Rattle.sg_run.specs.declared.top.Ending.TheVariants.{Done, NoCommand, NotAccepted, SourceFailed, SinkFailed, NoMemory}

-- the status that tells how a call ended
abbrev pub status_of : Ending → ℕ
status_of Done = 0
status_of NoCommand = 1
status_of NotAccepted = 2
status_of SourceFailed = 3
status_of SinkFailed = 4
status_of NoMemory = 5
