-- What a world asks of a program holds of an accepted one: it is within the limits, and its statements are run now and find the kinds
-- that they need.
use Rattle.std.proofs.Common.{ℕ, zero, suc, List, [], ◌∷◌, slice_get, refl, subst, arith}
use Rattle.std.specs.List.{AllByRecursion, Contains}
use Rattle.sg_program.specs.declared.program.Script.{Script}
use Rattle.sg_program.specs.declared.program.Statement.{Statement}
use Rattle.sg_program.specs.declared.program.Program.{Program}
use Rattle.sg_program.specs.Scripts.{written, written_out, statements_at}
use Rattle.sg_program.specs.Kinds.{first_kinds, HasNoMisuse}
use Rattle.sg_program.specs.Invariants.{FindKinds, HasOperands, IsGood, IsBuilt, IsGoodScript}
use Rattle.sg_program.specs.Laws.{ItemsDoWhatIsWritten}
use Rattle.sg_parse.specs.Invariants.{IsAcceptedProgram}
use Rattle.sg_rules.specs.Resting.{IsRunnable}
use Rattle.sg_rules.specs.Runnable.{BuiltRuns}
use Rattle.sg_order.specs.Opening.{AreFirstScripts}
use Rattle.sg_world.specs.Worlds.{CanRun}

-- what is known of a script, once for all: its statements as they are written are good and run now, and it misuses nothing
record IsKnownScript (p : Program) (script : Script) : Type 0 where
  good : IsGoodScript p script
  run : AllByRecursion (IsBuilt p) (written script.items)
  kinds : HasNoMisuse script.items

known_scripts : (p : Program) (scripts : List Script) → AllByRecursion (IsGoodScript p) scripts →
    AllByRecursion (λ (script : Script). AllByRecursion (IsBuilt p) (written script.items)) scripts → AllByRecursion (λ (script : Script). HasNoMisuse script.items) scripts →
    AllByRecursion (IsKnownScript p) scripts
known_scripts p [] a b c = tt
known_scripts p (script ∷ scripts) a b c = (record { good = a.0; run = b.0; kinds = c.0 }, known_scripts p scripts a.1 b.1 c.1)

all_known : (p : Program) → IsAcceptedProgram p → AllByRecursion (IsKnownScript p) p.mutators
all_known p a = known_scripts p p.mutators a.read.limits.scripts a.read.run a.kinds

-- what holds of the statements of each such script, and of none, holds of those of each mutator
of_scripts : (p : Program) (Q : List Statement → Type 0) → ((script : Script) → IsKnownScript p script → Q (written_out script.items)) → Q [] →
    (scripts : List Script) (k : ℕ) → AllByRecursion (IsKnownScript p) scripts → Q (statements_at (slice_get scripts k))
of_scripts p Q each none [] k h = none
of_scripts p Q each none (script ∷ scripts) zero h = each script h.0
of_scripts p Q each none (script ∷ scripts) (suc k) h = of_scripts p Q each none scripts k h.1

operands_of : (p : Program) (ss : List Statement) → AllByRecursion (IsGood p) ss → AllByRecursion HasOperands ss
operands_of p [] h = tt
operands_of p (s ∷ ss) h = (h.0.operands, operands_of p ss h.1)

-- what holds of each of some statements holds of each of those that are among them
all_at : (P : Statement → Type 0) (xs : List Statement) (s : Statement) → AllByRecursion P xs → Contains xs s → P s
all_at P [] s all (i, l, e) = absurd (omega arith)
all_at P (x ∷ xs) s all (zero, l, e) = subst P e all.0
all_at P (x ∷ xs) s all (suc i, l, e) = all_at P xs s all.1 (i, omega arith, e)

all_of : (P : Statement → Type 0) (xs : List Statement) → ((s : Statement) → Contains xs s → P s) → AllByRecursion P xs
all_of P [] each = tt
all_of P (x ∷ xs) each = (each x (zero, omega arith, refl), all_of P xs (λ s h. each s (suc h.0, let l = h.1 in omega arith, h.2)))

-- the statements that a mutator does find the kinds that they need, and are run now
pub first_scripts : ItemsDoWhatIsWritten → BuiltRuns → (p : Program) → IsAcceptedProgram p → AreFirstScripts p
first_scripts items runs p a = record {
  kinds = λ k. of_scripts p (FindKinds first_kinds) (λ script h. items.kinds script.items (operands_of p (written script.items) h.good.statements) h.kinds) tt p.mutators k (all_known p a);
  runnable = λ k. of_scripts p (AllByRecursion (IsRunnable p))
      (λ script h. (let all = runs p (written script.items) a.read.limits.fields h.good.statements h.run in
      all_of (IsRunnable p) (written_out script.items) (λ s there. all_at (IsRunnable p) (written script.items) s all (items.each script.items s there))))
      tt p.mutators k (all_known p a);
}

-- a world can run it
pub can_run : ItemsDoWhatIsWritten → BuiltRuns → (p : Program) → IsAcceptedProgram p → CanRun p
can_run items runs p a = record { limits = a.read.limits; scripts = first_scripts items runs p a }
