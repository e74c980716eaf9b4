-- What is read of an input, and why reading stops.
use Rattle.std.specs.Prelude.{◌≡◌, ℕ, ◌<◌, ◌⊎◌, List, length}
use Rattle.sg_io.specs.Faults.{Rose}
use Rattle.sg_run.specs.declared.input.ReadError.{ReadError}
use Rattle.sg_run.specs.declared.input.ReadError.TheVariants.{Source, Memory}

-- the bytes are the whole input, or both are longer than any accepted input
abbrev pub ServesFor : List ℕ → List ℕ → Type 0
ServesFor bytes input = (bytes ≡ input) ⊎ ((1048576 < length bytes) × (1048576 < length input))

-- reading stops early where the source's faults rose, or for want of memory
abbrev pub StopsReading : ReadError → ℕ → ℕ → Type 0
StopsReading Source before now = Rose before now
StopsReading Memory before now = Unit {0}
