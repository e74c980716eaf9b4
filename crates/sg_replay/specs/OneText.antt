-- The law of replay.
use Rattle.std.specs.Prelude.{◌≡◌, ℕ, List}
use Rattle.sg_program.specs.declared.program.Program.{Program}
use Rattle.sg_graph.specs.Run.{Phase}
use Rattle.sg_graph.specs.Follows.{IsWholeRunBy}
use Rattle.sg_trace.specs.Trace.{text}

-- Two whole runs of a program that follow one list of turns have one text.
abbrev pub HasOneText : Type 0
HasOneText = (p : Program) (turns : List ℕ) (phases phases' : List Phase) → IsWholeRunBy p turns phases → IsWholeRunBy p turns phases' →
    text phases ≡ text phases'
