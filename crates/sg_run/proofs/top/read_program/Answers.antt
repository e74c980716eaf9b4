use Rattle.std.specs.Prelude.{Result, Ok, Err, IfErr, IfSome, Option}
use Rattle.std.proofs.Common.{List, ℕ, sym, subst}
use Rattle.sg_parse.specs.Accepted.{IsAccepted}
use Rattle.sg_program.specs.declared.program.Program.{Program}
use Rattle.sg_run.specs.declared.refusal.Cause.{Cause}
use Rattle.sg_run.specs.Input.{ServesFor}
use Rattle.sg_run.proofs.Refused.{none_served}
use Rattle.sg_run.proofs.top.read_program.Goals as goal

none_read : (bytes : List ℕ) (left : Option (List ℕ)) (read : Result Program Cause) → IfSome left (ServesFor bytes) → IfErr read (λ _. ¬ IsAccepted bytes) → IfErr read (λ _. IfSome left (λ input. ¬ IsAccepted input))
none_read bytes left (Ok p) serves none = tt
none_read bytes left (Err cause) serves none = none_served bytes left serves none

-- src/top.rt:154:1
pub returns-in-Ok-clause-none : goal.returns-in-Ok-clause-none
returns-in-Ok-clause-none g c =
    none_read c.as_slice.result.now (g.S.Source.left c.args.source.now) c.in-Ok.read (subst (λ (bytes : List ℕ). IfSome (g.S.Source.left c.args.source.now) (ServesFor bytes)) (sym c.as_slice.ensures.value) c.in_ok-bytes.ensures.whole) c.in-Ok.ensures.none
