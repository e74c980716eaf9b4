-- An input has one cause of refusal at most.
use Rattle.std.proofs.Common.{◌≡◌, ◌≢◌, ℕ, List, ap, ◌∙◌, subst}
use Rattle.std.specs.List.{AllByRecursion}
use Rattle.sg_program.specs.declared.program.Script.{Script}
use Rattle.sg_program.specs.declared.program.Program.{Program}
use Rattle.sg_program.specs.Kinds.{HasNoMisuse, IsFirstMisuse}
use Rattle.sg_parse.specs.declared.refusal.Refusal.{Refusal}
use Rattle.sg_parse.specs.declared.refusal.Refusal.TheVariants.{TooLong, Syntax, Class, Limit, Later, Memory}
use Rattle.sg_limits.specs.declared.which.Which.{Which}
use Rattle.sg_grammar.specs.Text.{HasOneReading, ReadsAs}
use Rattle.sg_parse.specs.Accepted.{IsReadAs, IsRefusedBy, IsAccepted, HasOneRefusal}
use Rattle.sg_kinds.specs.declared.KindFault.{KindFault}
use Rattle.sg_kinds.specs.Laws.{HasOneMisuse}
use Rattle.sg_run.specs.declared.refusal.Cause.{Cause}
use Rattle.sg_run.specs.declared.refusal.Cause.TheVariants.{Refused, Misused}
use Rattle.sg_run.specs.Causes.{IsCause, HasOneCause}

not_long : TooLong ≢ Memory
not_long e = cc

not_syntax : (line : ℕ) → Syntax line ≢ Memory
not_syntax line e = cc

not_class : (line : ℕ) → Class line ≢ Memory
not_class line e = cc

not_limit : (line : ℕ) (which : Which) → Limit line which ≢ Memory
not_limit line which e = cc

not_later : (line : ℕ) → Later line ≢ Memory
not_later line e = cc

-- a refusal that is a cause is one of the text
cause_refuses : (input : List ℕ) (refusal : Refusal) → IsCause input (Refused refusal) → (refusal ≢ Memory) × IsRefusedBy input refusal
cause_refuses input TooLong c = (not_long, c)
cause_refuses input (Syntax line) c = (not_syntax line, c)
cause_refuses input (Class line) c = (not_class line, c)
cause_refuses input (Limit line which) c = (not_limit line which, c)
cause_refuses input (Later line) c = (not_later line, c)
cause_refuses input Memory c = absurd c

fault_at : ℕ → ℕ → KindFault
fault_at mutator statement = record { mutator = mutator; statement = statement }

same_fault : (a b : KindFault) → a.mutator ≡ b.mutator → a.statement ≡ b.statement → a ≡ b
unfolding fault_at
same_fault a b e q = ap (λ (m : ℕ). fault_at m a.statement) e ∙ ap (λ (s : ℕ). fault_at b.mutator s) q

-- what is read as a program reads as it
reads_of : (input : List ℕ) (p : Program) → IsReadAs input p → ReadsAs input p
reads_of input p r = (r.found, r.says, r.is)

-- two misuses are of one program
same_misuse : (input : List ℕ) (a b : KindFault) → HasOneReading → HasOneMisuse → IsCause input (Misused a) → IsCause input (Misused b) → a ≡ b
same_misuse input a b reading law c d =
    let same : d.0 ≡ c.0 = reading.one input d.0 c.0 (reads_of input d.0 d.1) (reads_of input c.0 c.1) in
    let other : IsFirstMisuse c.0 b.mutator b.statement = subst (λ (p : Program). IsFirstMisuse p b.mutator b.statement) same d.2 in
    same_fault a b (law.mutator c.0 a.mutator b.mutator a.statement b.statement c.2 other) (law.statement c.0 a.mutator b.mutator a.statement b.statement c.2 other)

same_cause : HasOneReading → HasOneRefusal → HasOneMisuse → (input : List ℕ) (c d : Cause) → IsCause input c → IsCause input d → c ≡ d
same_cause reading refusal misuse input (Refused r) (Refused s) c d =
    let here = cause_refuses input r c in
    let there = cause_refuses input s d in
    ap Refused (refusal.one input r s here.0 there.0 here.1 there.1)
same_cause reading refusal misuse input (Refused r) (Misused b) c d =
    let here = cause_refuses input r c in absurd (refusal.none input r d.0 here.0 here.1 d.1)
same_cause reading refusal misuse input (Misused a) (Refused s) c d =
    let there = cause_refuses input s d in absurd (refusal.none input s c.0 there.0 there.1 c.1)
same_cause reading refusal misuse input (Misused a) (Misused b) c d = ap Misused (same_misuse input a b reading misuse c d)

-- an accepted input has no cause
no_cause : HasOneReading → HasOneRefusal → HasOneMisuse → (input : List ℕ) (c : Cause) → IsCause input c → ¬ IsAccepted input
no_cause reading refusal misuse input (Refused r) c a = let here = cause_refuses input r c in refusal.none input r a.0 here.0 here.1 a.1.reads
no_cause reading refusal misuse input (Misused fault) c a =
    let same : a.0 ≡ c.0 = reading.one input a.0 c.0 (reads_of input a.0 a.1.reads) (reads_of input c.0 c.1) in
    misuse.none c.0 fault.mutator fault.statement c.2 (subst (λ (p : Program). AllByRecursion (λ (script : Script). HasNoMisuse script.items) p.mutators) same a.1.kinds)

pub has-one-cause : HasOneReading → HasOneRefusal → HasOneMisuse → HasOneCause
has-one-cause reading refusal misuse = record { one = same_cause reading refusal misuse; none = no_cause reading refusal misuse }
