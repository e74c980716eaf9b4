-- Sources and sinks in memory as contracts see them.
use Rattle.std.specs.Prelude.{◌≡◌, ℕ, ◌<◌, ◌⊎◌, List, [], length, Contains}

-- a source in memory: the bytes left, the number of the next call, the numbers of calls that fail, the faults so far
pub record Reading : Type 0 where
  pub left : List ℕ
  pub next_call : ℕ
  pub failing : List ℕ
  pub faults : ℕ

-- a sink in memory: the bytes taken, the room left, the number of the next call, the numbers of calls that fail, the faults so far
pub record Writing : Type 0 where
  pub taken : List ℕ
  pub room : ℕ
  pub next_call : ℕ
  pub failing : List ℕ
  pub faults : ℕ

-- the source before its first call
abbrev pub reading_from_start : List ℕ → List ℕ → Reading
reading_from_start bytes fails = record { left = bytes; next_call = 0; failing = fails; faults = 0 }

-- the sink before its first call
abbrev pub writing_from_start : ℕ → List ℕ → Writing
writing_from_start room fails = record { taken = []; room = room; next_call = 0; failing = fails; faults = 0 }

-- the next read fails: its number is listed
abbrev pub ReadIsToFail : Reading → Type 0
ReadIsToFail source = Contains source.failing source.next_call

-- the next write of the piece fails: its number is listed, or there is something to take and no room
abbrev pub WriteIsToFail : Writing → List ℕ → Type 0
WriteIsToFail sink piece = Contains sink.failing sink.next_call ⊎ (0 < length piece) × (sink.room ≡ 0)
