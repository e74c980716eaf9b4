-- A mutator before its first statement.
use Rattle.std.proofs.Common.{◌≡◌, ℕ, zero, suc, min, slice_get, slice_index, ◌<◌, ◌≤◌, List, [], ◌∷◌, length, get_or, replicate, map, reverse, inl, inr, refl, ap, ◌∙◌, arith}
use Rattle.std.proofs.Math.Path.{fun_ext}
use Rattle.std.specs.List.{sum_by}
use Rattle.std.proofs.lemmas.Bool.{cases_lt}
use Rattle.std.proofs.lemmas.List.{get_or-replicate, get_or_past}
use Rattle.std.proofs.lemmas.List.Sums.{get_or-le-sum_by}
use Rattle.sg_program.specs.declared.program.Program.{Program}
use Rattle.sg_program.specs.declared.program.Statement.{Statement}
use Rattle.sg_program.specs.declared.program.Script.{Script}
use Rattle.sg_program.specs.declared.program.Item.{Item}
use Rattle.sg_program.specs.Scripts.{written_out, statements_at, script_of}
use Rattle.sg_program.specs.Invariants.{IsWithinLimits}
use Rattle.sg_actor.specs.declared.mutator.Stage.TheVariants.{Between}
use Rattle.sg_actor.specs.declared.mutator.Held.{Held}
use Rattle.sg_actor.specs.State.{IsSoundMutator, slot_of, actor_of}
use Rattle.sg_program.specs.declared.answers.Answer.{Answer}
use Rattle.sg_rules.specs.Rules.{Idle, fresh}

-- sixteen zeros, read as a function
pub zeros : ◌≡◌ {A = ℕ → ℕ} (λ r. slice_index (replicate 16 0) r) (λ _. 0)
zeros = fun_ext (λ r. elim (cases_lt r 16) [
  | inl below ↦ get_or-replicate 16 r 0 0 below
  | inr above ↦ get_or_past (replicate 16 0) r 0 above
])

statements_there : (scripts : List Script) (k : ℕ) (d : Script) → k < length scripts → statements_at (slice_get scripts k) ≡ written_out (get_or scripts k d).items
statements_there [] k d l = absurd (omega arith)
statements_there (x ∷ xs) zero d l = refl
statements_there (x ∷ xs) (suc k) d l = statements_there xs k d (omega arith)

-- the statements of a script are some of the program's
script_in : (scripts : List Script) (k : ℕ) → k < length scripts → length (statements_at (slice_get scripts k)) ≤ sum_by (λ (script : Script). length (written_out script.items)) scripts
script_in [] k l = absurd (omega arith)
script_in (x ∷ xs) k l =
    let one = get_or-le-sum_by (λ (script : Script). length (written_out script.items)) (x ∷ xs) k x l in
    omega (arith, one, ap length (statements_there (x ∷ xs) k x l))

pub script_is : (p : Program) (k : ℕ) → k < length p.mutators → (scripts : List Script) → scripts ≡ p.mutators → (script : Script) → script ≡ get_or scripts k script → (items : List Item) → items ≡ script.items → written_out items ≡ script_of p k
script_is p k l scripts are script is items items_are = ap written_out items_are ∙ at scripts k (let q = ap length are in omega arith) is ∙ ap (λ xs. statements_at (slice_get xs k)) are
  where
    at : (xs : List Script) (k : ℕ) → k < length xs → script ≡ get_or xs k script → written_out script.items ≡ statements_at (slice_get xs k)
    at [] k l e = absurd (omega arith)
    at (x ∷ xs) zero l e = ap (λ (y : Script). written_out y.items) e
    at (x ∷ xs) (suc k) l e = at xs k (omega arith) e

pub sound_new : (p : Program) (k : ℕ) (script : List Statement) (stack : List Held) (told : List Answer) (stack_room told_room total : ℕ) → k < length p.mutators → IsWithinLimits p → script ≡ script_of p k →
    stack ≡ [] → told ≡ [] → total ≡ min (length (script_of p k)) 18446744073709551615 → total ≤ told_room → 64 ≤ stack_room → IsSoundMutator p k 0 Between stack script told stack_room told_room
sound_new p k script stack told stack_room told_room total there limits is empty none count room high =
    let few : length (script_of p k) ≤ 1048576 = omega (arith, script_in p.mutators k there, limits.statements) in
    record {
      limits = limits;
      there = there;
      counted = omega (arith, ap length is, ap length none);
      few = few;
      room = omega (arith, count, few);
      piled = omega (arith, ap length empty);
      high = high;
      stage_is = tt;
    }

-- it is the rules' fresh one
pub fresh_is : (p : Program) (k first : ℕ) (script : List Statement) (stack : List Held) (told : List Answer) (sc : List Statement) → script ≡ sc → stack ≡ [] → told ≡ [] →
    actor_of (record { program = p; number = k; first = first; stage = Between; registers = replicate 16 0; offsets = replicate 16 0; stack = stack; from = 0; to = 0; script = script; told = told }) ≡ fresh sc
fresh_is p k first script stack told sc is empty none =
    ap (λ (f : ℕ → ℕ). record { reg = f; offset = λ r. slice_index (replicate 16 0) r; stack = reverse (map slot_of stack); from = 0; to = 0; script = script; told = told; mid = Idle }) zeros
    ∙ ap (λ (f : ℕ → ℕ). record { reg = λ _. 0; offset = f; stack = reverse (map slot_of stack); from = 0; to = 0; script = script; told = told; mid = Idle }) zeros
    ∙ ap (λ (xs : List Held). record { reg = λ _. 0; offset = λ _. 0; stack = reverse (map slot_of xs); from = 0; to = 0; script = script; told = told; mid = Idle }) empty
    ∙ ap (λ xs. record { reg = λ _. 0; offset = λ _. 0; stack = []; from = 0; to = 0; script = xs; told = told; mid = Idle }) is
    ∙ ap (λ xs. record (fresh sc) { told = xs }) none
