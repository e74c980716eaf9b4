-- Why an input isn't accepted.
use Rattle.std.proofs.Common.{◌≡◌, ◌≢◌, ℕ, List, inl, inr, refl, ap, sym, subst, arith}
use Rattle.std.specs.Prelude.{Option, Some, None, IfSome}
use Rattle.std.specs.List.{AllByRecursion}
use Rattle.sg_program.specs.declared.program.Script.{Script}
use Rattle.sg_program.specs.declared.program.Program.{Program}
use Rattle.sg_program.specs.Kinds.{HasNoMisuse}
use Rattle.sg_parse.specs.declared.refusal.Refusal.{Refusal}
use Rattle.sg_parse.specs.declared.refusal.Refusal.TheVariants.{TooLong, Syntax, Class, Limit, Later, Memory}
use Rattle.sg_parse.specs.Accepted.{IsReadAs, IsRefusedBy, IsAccepted}
use Rattle.sg_run.specs.declared.refusal.Cause.{Cause}
use Rattle.sg_run.specs.declared.refusal.Cause.TheVariants.{Refused, Misused}
use Rattle.sg_run.specs.Causes.{IsCause}
use Rattle.sg_run.specs.Input.{ServesFor}

pub is_cause : (bytes : List ℕ) (refusal : Refusal) → refusal ≢ Memory → IsRefusedBy bytes refusal → IsCause bytes (Refused refusal)
is_cause bytes TooLong n r = r
is_cause bytes (Syntax line) n r = r
is_cause bytes (Class line) n r = r
is_cause bytes (Limit line which) n r = r
is_cause bytes (Later line) n r = r
is_cause bytes Memory n r = absurd (n refl)

refusal_in : Cause → Refusal
refusal_in (Refused refusal) = refusal
refusal_in (Misused fault) = TooLong

-- want of memory is told by no line
pub is_told : (refusal : Refusal) → refusal ≢ Memory → Refused refusal ≢ Refused Memory
unfolding refusal_in
is_told refusal n e = n (ap refusal_in e)

-- a program that reads and has a misuse is not accepted, and neither is another
pub no_other : (bytes : List ℕ) (p : Program) → ((q : Program) → IsReadAs bytes q → q ≡ p) → ¬ AllByRecursion (λ (script : Script). HasNoMisuse script.items) p.mutators → ¬ IsAccepted bytes
no_other bytes p one wrong a = wrong (subst (λ (q : Program). AllByRecursion (λ (script : Script). HasNoMisuse script.items) q.mutators) (one a.0 a.1.reads) a.1.kinds)

no_accepted : (bytes input : List ℕ) → ServesFor bytes input → ¬ IsAccepted bytes → ¬ IsAccepted input
no_accepted bytes input (inl same) none a = none (subst IsAccepted (sym same) a)
no_accepted bytes input (inr long) none a = let short = a.1.reads.short in absurd (omega (arith, long.1))

-- the input isn't accepted where the bytes that serve for it aren't
pub none_served : (bytes : List ℕ) (left : Option (List ℕ)) → IfSome left (ServesFor bytes) → ¬ IsAccepted bytes → IfSome left (λ input. ¬ IsAccepted input)
none_served bytes None serves none = tt
none_served bytes (Some input) serves none = no_accepted bytes input serves none
