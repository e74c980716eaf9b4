-- What a job reads and writes.
use Rattle.std.specs.Prelude.{◌≡◌, ℕ, ◌⊎◌, Bool, true, false, IsTrue, Option, Some, List, [], if◌then◌else◌}
use Rattle.sg_program.specs.declared.program.Program.{Program}
use Rattle.sg_graph.specs.Run.{Phase, IsRun, IsWholeRun}
use Rattle.sg_graph.specs.Follows.{IsRunBy, IsWholeRunBy}
use Rattle.sg_trace.specs.Trace.{text}
use Rattle.sg_parse.specs.Accepted.{IsAcceptedAs, IsAccepted}
use Rattle.sg_gen.specs.Generated.{script_text}
use Rattle.sg_load.specs.Summary.{summary}
use Rattle.sg_command.specs.Command.{IsLoad}
use Rattle.sg_command.specs.declared.job.Job.{Job}
use Rattle.sg_command.specs.declared.job.Job.TheVariants.{Run, Replay, Gen}

-- whether the job reads a program from the source
abbrev pub reads_input : Job → Bool
reads_input Run = true
reads_input (Replay turns) = true
reads_input (Gen seed size) = false

abbrev pub ReadsInput : Job → Type 0
ReadsInput job = IsTrue (reads_input job)

-- the job's input: what is left in the source, where it is told, or nothing where the job reads none
abbrev pub input_of : Job → Option (List ℕ) → Option (List ℕ)
input_of job left = if reads_input job then left else Some []

-- the fact holds where it is asked for
abbrev pub Where : Bool → Type 0 → Type 0
Where true P = P
Where false P = Unit {0}

-- the input is one that the job takes: an accepted one, where it reads any
abbrev pub IsTakenBy : Job → List ℕ → Type 0
IsTakenBy job input = Where (reads_input job) (IsAccepted input)

-- the bytes are the summary of a whole run of the program as which the text of this seed and size is accepted
abbrev pub SumsUp : ℕ → ℕ → List ℕ → Type 0
SumsUp seed size bytes = (p : Program) × (phases : List Phase) × IsAcceptedAs (script_text seed size) p × IsWholeRun p phases × (bytes ≡ summary seed size phases)

-- a job that makes a program has a seed and a size for one
abbrev pub HasLoad : Job → Type 0
HasLoad (Gen seed size) = IsLoad seed size
HasLoad job = Unit {0}

-- What the job writes, whole: the text of a whole run of the program as which the input is accepted; a replay's run follows the list of
-- turns, and each of its pauses copies in order. A job that makes a program writes the summary of a whole run of it.
abbrev pub Writes : Job → List ℕ → List ℕ → Type 0
Writes Run input bytes = (p : Program) × (phases : List Phase) × IsAcceptedAs input p × IsWholeRun p phases × (bytes ≡ text phases)
Writes (Replay turns) input bytes = (p : Program) × (phases : List Phase) × IsAcceptedAs input p × IsWholeRun p phases × IsWholeRunBy p turns phases × (bytes ≡ text phases)
Writes (Gen seed size) input bytes = SumsUp seed size bytes

-- what it writes as far as it goes: the text of a run as far as that went; of a summary nothing is written before the run is whole
abbrev pub MayWrite : Job → List ℕ → List ℕ → Type 0
MayWrite Run input bytes = (p : Program) × (phases : List Phase) × IsAcceptedAs input p × IsRun p phases × (bytes ≡ text phases)
MayWrite (Replay turns) input bytes = (p : Program) × (phases : List Phase) × IsAcceptedAs input p × IsRun p phases × IsRunBy p turns phases × (bytes ≡ text phases)
MayWrite (Gen seed size) input bytes = (bytes ≡ []) ⊎ SumsUp seed size bytes

-- one input and one list of turns have one text
abbrev pub HasOneText : Type 0
HasOneText = (turns : List ℕ) (input bytes bytes' : List ℕ) → Writes (Replay turns) input bytes → Writes (Replay turns) input bytes' → bytes ≡ bytes'

-- the list of turns by which a job's run goes: without one the turns go round
abbrev pub turns_of : Job → List ℕ
turns_of Run = []
turns_of (Replay turns) = turns
turns_of (Gen seed size) = []
