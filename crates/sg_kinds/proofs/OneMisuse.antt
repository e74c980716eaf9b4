-- A script has one first misuse at most, and so has a program.
use Rattle.std.specs.List.{AllByRecursion}
use Rattle.std.proofs.Common.{◌≡◌, ℕ, zero, suc, ◌+◌, ◌<◌, Some, List, [], ◌∷◌, length, slice_get, inl, inr, refl, sym, ap, ◌∙◌, subst, arith}
use Rattle.std.proofs.lemmas.Bool.{cases_lt}
use Rattle.std.proofs.lemmas.Option.{same_Some}
use Rattle.sg_program.specs.declared.program.Item.{Item}
use Rattle.sg_program.specs.declared.program.Script.{Script}
use Rattle.sg_program.specs.declared.program.Program.{Program}
use Rattle.sg_program.specs.Scripts.{written}
use Rattle.sg_program.specs.Kinds.{Kinds, Needs, kinds_after, first_kinds, AreSame, Leads, Misuses, Here, Behind, Inside, AtItsEnd, BehindIt, HasNoMisuse, IsFirstMisuse}
use Rattle.sg_kinds.specs.Laws.{HasOneMisuse}
use Rattle.sg_kinds.proofs.Walks.{not_both, one_statement, one_body, one_end, no_way}

-- a body's length is fixed by its repeat
same_length : (xs ys : List Item) → xs ≡ ys → length (written xs) ≡ length (written ys)
same_length xs ys e = ap (λ (l : List Item). length (written l)) e

pub one_misuse : (k : Kinds) (items : List Item) (n m : ℕ) → Misuses k items n → Misuses k items m → n ≡ m
one_misuse _ _ _ _ (Here k item s rest e lacks) (Here _ _ t _ q lacks2) = refl
one_misuse _ _ _ _ (Here k item s rest e lacks) (Behind _ _ t _ m q needs misuse) = absurd (lacks (subst (Needs k) (one_statement item t s q e) needs))
one_misuse _ _ _ _ (Here k item s rest e lacks) (Inside _ _ times body _ m q misuse) = absurd (not_both item s times body e q)
one_misuse _ _ _ _ (Here k item s rest e lacks) (AtItsEnd _ _ times body i _ m q leads other last) = absurd (not_both item s times body e q)
one_misuse _ _ _ _ (Here k item s rest e lacks) (BehindIt _ _ times body i _ m q leads same misuse) = absurd (not_both item s times body e q)
one_misuse _ _ _ _ (Behind k item s rest n e needs misuse) (Here _ _ t _ q lacks) = absurd (lacks (subst (Needs k) (one_statement item s t e q) needs))
one_misuse _ _ _ _ (Behind k item s rest n e needs misuse) (Behind _ _ t _ m q needs2 misuse2) =
    ap suc (one_misuse (kinds_after k s) rest n m misuse (subst (λ x. Misuses (kinds_after k x) rest m) (one_statement item t s q e) misuse2))
one_misuse _ _ _ _ (Behind k item s rest n e needs misuse) (Inside _ _ times body _ m q misuse2) = absurd (not_both item s times body e q)
one_misuse _ _ _ _ (Behind k item s rest n e needs misuse) (AtItsEnd _ _ times body i _ m q leads other last) = absurd (not_both item s times body e q)
one_misuse _ _ _ _ (Behind k item s rest n e needs misuse) (BehindIt _ _ times body i _ m q leads same misuse2) = absurd (not_both item s times body e q)
one_misuse _ _ _ _ (Inside k item times body rest n e misuse) (Here _ _ t _ q lacks) = absurd (not_both item t times body q e)
one_misuse _ _ _ _ (Inside k item times body rest n e misuse) (Behind _ _ t _ m q needs misuse2) = absurd (not_both item t times body q e)
one_misuse _ _ _ _ (Inside k item times body rest n e misuse) (Inside _ _ times2 body2 _ m q misuse2) =
    one_misuse k body n m misuse (subst (λ xs. Misuses k xs m) (one_body item times2 times body2 body q e) misuse2)
one_misuse _ _ _ _ (Inside k item times body rest n e misuse) (AtItsEnd _ _ times2 body2 i _ m q leads other last) =
    absurd (no_way k body i n (subst (λ xs. Leads k xs i) (one_body item times2 times body2 body q e) leads) misuse)
one_misuse _ _ _ _ (Inside k item times body rest n e misuse) (BehindIt _ _ times2 body2 i _ m q leads same misuse2) =
    absurd (no_way k body i n (subst (λ xs. Leads k xs i) (one_body item times2 times body2 body q e) leads) misuse)
one_misuse _ _ _ _ (AtItsEnd k item times body i rest n e leads other last) (Here _ _ t _ q lacks) = absurd (not_both item t times body q e)
one_misuse _ _ _ _ (AtItsEnd k item times body i rest n e leads other last) (Behind _ _ t _ m q needs misuse) = absurd (not_both item t times body q e)
one_misuse _ _ _ _ (AtItsEnd k item times body i rest n e leads other last) (Inside _ _ times2 body2 _ m q misuse) =
    absurd (no_way k body i m leads (subst (λ xs. Misuses k xs m) (one_body item times2 times body2 body q e) misuse))
one_misuse _ _ _ _ (AtItsEnd k item times body i rest n e leads other last) (AtItsEnd _ _ times2 body2 i2 _ m q leads2 other2 last2) =
    let l = same_length body2 body (one_body item times2 times body2 body q e) in omega (arith, last, last2)
one_misuse _ _ _ _ (AtItsEnd k item times body i rest n e leads other last) (BehindIt _ _ times2 body2 i2 _ m q leads2 same misuse) =
    let b = one_end k body i2 i (subst (λ xs. Leads k xs i2) (one_body item times2 times body2 body q e) leads2) leads in absurd (other (subst (AreSame k) b same))
one_misuse _ _ _ _ (BehindIt k item times body i rest n e leads same misuse) (Here _ _ t _ q lacks) = absurd (not_both item t times body q e)
one_misuse _ _ _ _ (BehindIt k item times body i rest n e leads same misuse) (Behind _ _ t _ m q needs misuse2) = absurd (not_both item t times body q e)
one_misuse _ _ _ _ (BehindIt k item times body i rest n e leads same misuse) (Inside _ _ times2 body2 _ m q misuse2) =
    absurd (no_way k body i m leads (subst (λ xs. Misuses k xs m) (one_body item times2 times body2 body q e) misuse2))
one_misuse _ _ _ _ (BehindIt k item times body i rest n e leads same misuse) (AtItsEnd _ _ times2 body2 i2 _ m q leads2 other last) =
    let b = one_end k body i i2 leads (subst (λ xs. Leads k xs i2) (one_body item times2 times body2 body q e) leads2) in absurd (other (subst (AreSame k) b same))
one_misuse _ _ _ _ (BehindIt k item times body i rest n e leads same misuse) (BehindIt _ _ times2 body2 i2 _ m q leads2 same2 misuse2) =
    let one = one_body item times2 times body2 body q e in
    let b = one_end k body i2 i (subst (λ xs. Leads k xs i2) one leads2) leads in
    let h = one_misuse i rest n m misuse (subst (λ x. Misuses x rest m) b misuse2) in
    ap (λ (x : ℕ). x + n) (same_length body body2 (sym one)) ∙ ap (λ (x : ℕ). length (written body2) + x) h

-- The first mutator whose script has one is fixed.
not_below : (p : Program) (m n s t : ℕ) → IsFirstMisuse p m s → IsFirstMisuse p n t → ¬ (m < n)
not_below p m n s t a b below =
    let fine = b.before m a.script below a.there in no_way first_kinds a.script.items fine.0 s fine.1 a.misuse

one_mutator : (p : Program) (m n s t : ℕ) → IsFirstMisuse p m s → IsFirstMisuse p n t → m ≡ n
one_mutator p m n s t a b = elim (cases_lt m n) [
  | inl below ↦ absurd (not_below p m n s t a b below)
  | inr rest ↦ elim (cases_lt n m) [
    | inl below ↦ absurd (not_below p n m t s b a below)
    | inr least ↦ omega (arith, rest, least)
  ]
]

one_place : (p : Program) (m n s t : ℕ) → IsFirstMisuse p m s → IsFirstMisuse p n t → s ≡ t
one_place p m n s t a b =
    let same : a.script ≡ b.script = same_Some a.script b.script (sym a.there ∙ ap (slice_get p.mutators) (one_mutator p m n s t a b) ∙ b.there) in
    one_misuse first_kinds b.script.items s t (subst (λ (script : Script). Misuses first_kinds script.items s) same a.misuse) b.misuse

-- a script at a place is one of them all
fine_at : (scripts : List Script) (m : ℕ) (script : Script) → AllByRecursion (λ (script : Script). HasNoMisuse script.items) scripts → slice_get scripts m ≡ Some script → HasNoMisuse script.items
fine_at [] m script all there = absurd (cc there)
fine_at (x ∷ xs) zero script all there = subst (λ (s : Script). HasNoMisuse s.items) (same_Some x script there) all.0
fine_at (x ∷ xs) (suc m) script all there = fine_at xs m script all.1 there

no_misuse : (p : Program) (m s : ℕ) → IsFirstMisuse p m s → ¬ AllByRecursion (λ (script : Script). HasNoMisuse script.items) p.mutators
no_misuse p m s first all = let fine = fine_at p.mutators m first.script all first.there in no_way first_kinds first.script.items fine.0 s fine.1 first.misuse

pub has-one-misuse : HasOneMisuse
has-one-misuse = record { mutator = one_mutator; statement = one_place; none = no_misuse }
