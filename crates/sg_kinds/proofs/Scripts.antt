-- What the scripts of a program within the limits are, script by script.
use Rattle.std.proofs.Common.{◌≡◌, ℕ, zero, suc, ◌+◌, ◌<◌, ◌≤◌, List, [], ◌∷◌, length, Some, slice_get, get_or, sym, ap, ◌∙◌, subst, arith, inl, inr}
use Rattle.std.specs.List.{AllByRecursion, sum_by}
use Rattle.std.proofs.lemmas.Bool.{cases_eq}
use Rattle.std.proofs.lemmas.Option.{get_or_from_slice_get, slice_get-get_or}
use Rattle.std.proofs.lemmas.List.Sums.{sum_by-cons}
use Rattle.sg_program.specs.declared.program.Statement.{Statement}
use Rattle.sg_program.specs.declared.program.Item.{Item}
use Rattle.sg_program.specs.declared.program.Script.{Script}
use Rattle.sg_program.specs.declared.program.Program.{Program}
use Rattle.sg_program.specs.Scripts.{written, written_out}
use Rattle.sg_program.specs.Invariants.{HasOperands, IsGood, IsGoodScript, IsWithinLimits}
use Rattle.sg_program.specs.Kinds.{first_kinds, Misuses, HasNoMisuse}
use Rattle.sg_kinds.proofs.Lengths.{longer}
use Rattle.sg_kinds.proofs.Walks.{no_way}

all_at : {A : Type 0} (P : A → Type 0) (xs : List A) (k : ℕ) (d : A) → k < length xs → AllByRecursion P xs → P (get_or xs k d)
all_at P [] k d l h = absurd (omega arith)
all_at P (x ∷ xs) zero d l h = h.0
all_at P (x ∷ xs) (suc k) d l h = all_at P xs k d (omega arith) h.1

all_from : {A : Type 0} (P : A → Type 0) (xs : List A) → ((k : ℕ) (x : A) → k < length xs → slice_get xs k ≡ Some x → P x) → AllByRecursion P xs
all_from P [] f = tt
all_from P (x ∷ xs) f = (f 0 x (omega arith) (λ i. Some x), all_from P xs (λ k y l e. f (suc k) y (omega arith) e))

sum_at : {A : Type 0} (f : A → ℕ) (xs : List A) (k : ℕ) (d : A) → k < length xs → f (get_or xs k d) ≤ sum_by f xs
sum_at f [] k d l = absurd (omega arith)
sum_at f (x ∷ xs) zero d l = let e = sum_by-cons f x xs in omega arith
sum_at f (x ∷ xs) (suc k) d l = let e = sum_by-cons f x xs in let h = sum_at f xs k d (omega arith) in omega arith

operands : (p : Program) (xs : List Statement) → AllByRecursion (IsGood p) xs → AllByRecursion HasOperands xs
operands p [] h = tt
operands p (x ∷ xs) h = (h.0.operands, operands p xs h.1)

-- a script that was read at a place
pub is_there : (scripts seen : List Script) (k : ℕ) (script : Script) → seen ≡ scripts → k < length seen → script ≡ get_or seen k script →
    slice_get scripts k ≡ Some script
is_there scripts seen k script e l is =
    subst (λ xs. slice_get xs k ≡ Some script) e (slice_get-get_or seen k script l ∙ ap (λ (s : Script). Some s) (sym is))

pub few : (p : Program) (seen : List Script) (k : ℕ) (script : Script) (items : List Item) → IsWithinLimits p → seen ≡ p.mutators → k < length seen →
    script ≡ get_or seen k script → items ≡ script.items → length (written items) ≤ 1048576
few p seen k script items limits e l is q =
    let good : IsGoodScript p script = subst (IsGoodScript p) (sym is) (all_at (IsGoodScript p) seen k script l (subst (AllByRecursion (IsGoodScript p)) (sym e) limits.scripts)) in
    let f = λ (s : Script). length (written_out s.items) in
    let some : length (written_out script.items) ≤ sum_by f seen = subst (λ s. f s ≤ sum_by f seen) (sym is) (sum_at f seen k script l) in
    let all = ap (sum_by f) e in
    let long = longer script.items good.times in
    let here = ap (λ (xs : List Item). length (written xs)) q in
    omega (arith, limits.statements)

pub has_operands : (p : Program) (seen : List Script) (k : ℕ) (script : Script) (items : List Item) → IsWithinLimits p → seen ≡ p.mutators → k < length seen →
    script ≡ get_or seen k script → items ≡ script.items → AllByRecursion HasOperands (written items)
has_operands p seen k script items limits e l is q =
    let good : IsGoodScript p script = subst (IsGoodScript p) (sym is) (all_at (IsGoodScript p) seen k script l (subst (AllByRecursion (IsGoodScript p)) (sym e) limits.scripts)) in
    subst (λ xs. AllByRecursion HasOperands (written xs)) (sym q) (operands p _ good.statements)

-- One misuse is enough.
pub not_all : (seen scripts : List Script) (k : ℕ) (script : Script) (items : List Item) (n : ℕ) → seen ≡ scripts → k < length seen →
    script ≡ get_or seen k script → items ≡ script.items → Misuses first_kinds items n → ¬ AllByRecursion (λ (s : Script). HasNoMisuse s.items) scripts
not_all seen scripts k script items n e l is q misuse all =
    let P = λ (s : Script). HasNoMisuse s.items in
    let fine : HasNoMisuse script.items = subst P (sym is) (all_at P seen k script l (subst (AllByRecursion P) (sym e) all)) in
    no_way first_kinds script.items fine.0 n fine.1 (subst (λ xs. Misuses first_kinds xs n) q misuse)

-- the scripts up to a place, and the next
pub fine_up_to : (seen scripts : List Script) (k : ℕ) (script : Script) → seen ≡ scripts → k < length seen → script ≡ get_or seen k script →
    ((j : ℕ) (other : Script) → j < k → slice_get scripts j ≡ Some other → HasNoMisuse other.items) → HasNoMisuse script.items →
    (j : ℕ) (other : Script) → j < k + 1 → slice_get scripts j ≡ Some other → HasNoMisuse other.items
fine_up_to seen scripts k script e l is before here j other below there = elim (cases_eq j k) [
  | inl q ↦ let same : script ≡ other = is ∙ ap (λ i. get_or seen i script) (sym q) ∙ get_or_from_slice_get seen j other script (subst (λ xs. slice_get xs j ≡ Some other) (sym e) there) in
      subst (λ (s : Script). HasNoMisuse s.items) same here
  | inr n ↦ before j other (omega arith) there
]

pub all_fine : (seen scripts : List Script) (k : ℕ) → seen ≡ scripts → length seen ≤ k →
    ((j : ℕ) (other : Script) → j < k → slice_get scripts j ≡ Some other → HasNoMisuse other.items) → AllByRecursion (λ (s : Script). HasNoMisuse s.items) scripts
all_fine seen scripts k e l before =
    let same = ap length e in all_from (λ (s : Script). HasNoMisuse s.items) scripts (λ j other below there. before j other (omega arith) there)
