-- The text of a seed and a size is accepted, and as one program.
use Rattle.std.proofs.Common.{◌≡◌, ℕ, List}
use Rattle.sg_program.specs.declared.program.Program.{Program}
use Rattle.sg_grammar.specs.Text.{HasOneReading}
use Rattle.sg_parse.specs.Accepted.{IsAcceptedAs}
use Rattle.sg_accepted.specs.Accepted.{IsAcceptable}

pub accepted_of : (bytes : List ℕ) (p : Program) → IsAcceptable bytes p → IsAcceptedAs bytes p
accepted_of bytes p is = record {
  reads = record { short = is.short; found = is.found; says = is.says; is = is.is; named = is.named; limits = is.limits; now = is.now };
  kinds = is.kinds;
}

pub same_program : HasOneReading → (bytes : List ℕ) (p q : Program) → IsAcceptedAs bytes p → IsAcceptedAs bytes q → p ≡ q
same_program reading bytes p q a b = reading.one bytes p q (a.reads.found, a.reads.says, a.reads.is) (b.reads.found, b.reads.says, b.reads.is)
