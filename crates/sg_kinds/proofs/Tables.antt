-- What a change of the table is to the rules, and when two tables are the same to them.
use Rattle.std.proofs.Common.{◌≡◌, ◌≢◌, ℕ, zero, suc, ◌+◌, ◌-◌, ◌<◌, ◌≤◌, List, ◌∷◌, length, get_or, set, sym, refl, ap, ◌∙◌, subst, arith, inl, inr, IsTrue, nat_lt}
use Rattle.std.proofs.lemmas.Bool.{cases_eq, lt-ltb}
use borrow.Author.Tests.{ltb-true}
use Rattle.std.proofs.lemmas.List.{get_or-set_other}
use Rattle.std.proofs.lemmas.Grind.{get_or-set_at}
use Rattle.sg_words.specs.Words.{put}
use Rattle.sg_words.proofs.Puts.{put-at, put-other}
use Rattle.sg_program.specs.Kinds.{Kind, Kinds, pops, AreSame}
use Rattle.sg_kinds.specs.declared.table.Kind.{Kind as Mark}
use Rattle.sg_kinds.specs.declared.table.Kind.TheVariants.{Ref, Int, Inner}
use Rattle.sg_kinds.specs.Table.{kind_of, stack_of}

-- a register that is set
set_put : (xs : List Mark) (k : ℕ) (v : Mark) → k < length xs → (r : ℕ) →
    kind_of (get_or (set xs k v) r Ref) ≡ put (λ j. kind_of (get_or xs j Ref)) k (kind_of v) r
set_put xs k v l r = elim (cases_eq r k) [
  | inl e ↦ ap kind_of (get_or-set_at xs k r v Ref e l) ∙ sym (put-at (λ j. kind_of (get_or xs j Ref)) k (kind_of v) r e)
  | inr n ↦ ap kind_of (get_or-set_other xs k r v Ref n) ∙ sym (put-other (λ j. kind_of (get_or xs j Ref)) k (kind_of v) r n)
]

pub set_kinds : (xs : List Mark) (k : ℕ) (v : Mark) (stack : List Kind) → k < length xs →
    (let a : Kinds = record { register = λ r. kind_of (get_or (set xs k v) r Ref); stack = stack } in
    let b : Kinds = record { register = put (λ j. kind_of (get_or xs j Ref)) k (kind_of v); stack = stack } in a ≡ b)
set_kinds xs k v stack l = λ i. record { register = λ r. set_put xs k v l r i; stack = stack }

-- a place behind the stack is no part of it
stack_set : (xs : List Mark) (n k : ℕ) (v : Mark) → n ≤ k → stack_of (set xs k v) n ≡ stack_of xs n
stack_set xs zero k v l = refl
stack_set xs (suc n) k v l =
    let o : n ≢ k = omega arith in
    let h = stack_set xs n k v (omega arith) in
    let e = ap kind_of (get_or-set_other xs k n v Ref o) in
    λ i. e i ∷ h i

pub stack_pushed : (xs : List Mark) (n : ℕ) (v : Mark) → n < length xs → stack_of (set xs n v) (n + 1) ≡ kind_of v ∷ stack_of xs n
stack_pushed xs n v l =
    let e : n + 1 ≡ suc n = omega arith in
    let top = ap kind_of (get_or-set_at xs n n v Ref refl l) in
    let below = stack_set xs n n v (omega arith) in
    ap (stack_of (set xs n v)) e ∙ (λ i. top i ∷ below i)

pub stack_popped : (k : Kinds) (r : ℕ) (xs : List Mark) (n : ℕ) → 0 < n →
    (let a : Kinds = record { register = put k.register r (kind_of (get_or xs (n - 1) Ref)); stack = stack_of xs (n - 1) } in a ≡ pops k r (stack_of xs n))
stack_popped k r xs zero l = absurd (omega arith)
stack_popped k r xs (suc n) l =
    let e : suc n - 1 ≡ n = omega arith in
    λ i. record { register = put k.register r (kind_of (get_or xs (e i) Ref)); stack = stack_of xs (e i) }

pub stack_length : (xs : List Mark) (n : ℕ) → length (stack_of xs n) ≡ n
stack_length xs zero = refl
stack_length xs (suc n) = ap suc (stack_length xs n)

pub has_room : (xs : List Mark) (n : ℕ) → (IsTrue (nat_lt n 64) → length (stack_of xs n) < 64) × (length (stack_of xs n) < 64 → IsTrue (nat_lt n 64))
has_room xs n = (λ h. let e = stack_length xs n in let l : n < 64 = ltb-true n 64 h in omega arith, λ h. let e = stack_length xs n in lt-ltb n 64 (omega arith))

-- the same kinds are the same marks
kind_once : (a b : Mark) → kind_of a ≡ kind_of b → a ≡ b
kind_once Ref Ref e = refl
kind_once Ref Int e = absurd (cc)
kind_once Ref Inner e = absurd (cc)
kind_once Int Ref e = absurd (cc)
kind_once Int Int e = refl
kind_once Int Inner e = absurd (cc)
kind_once Inner Ref e = absurd (cc)
kind_once Inner Int e = absurd (cc)
kind_once Inner Inner e = refl

abbrev pub Agree : List Mark → List Mark → ℕ → Type 0
Agree xs ys n = (k : ℕ) → k < n → get_or xs k Ref ≡ get_or ys k Ref

stacks_agree : (xs ys : List Mark) (n : ℕ) → Agree xs ys n → stack_of xs n ≡ stack_of ys n
stacks_agree xs ys zero h = refl
stacks_agree xs ys (suc n) h =
    let top = ap kind_of (h n (omega arith)) in
    let below = stacks_agree xs ys n (λ k l. h k (omega arith)) in
    λ i. top i ∷ below i

agree_stacks : (xs ys : List Mark) (n : ℕ) → stack_of xs n ≡ stack_of ys n → Agree xs ys n
agree_stacks xs ys zero e k l = absurd (omega arith)
agree_stacks xs ys (suc n) e k l = elim (cases_eq k n) [
  | inl q ↦ let top : kind_of (get_or xs n Ref) ≡ kind_of (get_or ys n Ref) = cc in
      subst (λ j. get_or xs j Ref ≡ get_or ys j Ref) (sym q) (kind_once _ _ top)
  | inr q ↦ let below : stack_of xs n ≡ stack_of ys n = cc in agree_stacks xs ys n below k (omega arith)
]

abbrev seen : List Mark → List Mark → ℕ → Kinds
seen registers stack depth = record { register = λ r. kind_of (get_or registers r Ref); stack = stack_of stack depth }

pub same : (r s : List Mark) (x y : List Mark) (n m : ℕ) → n ≡ m → Agree r s 16 → Agree x y n → AreSame (seen r x n) (seen s y m)
same r s x y n m e h g = record {
  registers = λ k l. ap kind_of (h k l);
  stack = stacks_agree x y n g ∙ ap (stack_of y) e;
}

pub depths : (r s : List Mark) (x y : List Mark) (n m : ℕ) → AreSame (seen r x n) (seen s y m) → n ≡ m
depths r s x y n m h = sym (stack_length x n) ∙ ap length h.stack ∙ stack_length y m

pub registers_agree : (r s : List Mark) (x y : List Mark) (n m : ℕ) → AreSame (seen r x n) (seen s y m) → Agree r s 16
registers_agree r s x y n m h k l = kind_once _ _ (h.registers k l)

pub places_agree : (r s : List Mark) (x y : List Mark) (n m : ℕ) → AreSame (seen r x n) (seen s y m) → Agree x y n
places_agree r s x y n m h = agree_stacks x y n (h.stack ∙ ap (stack_of y) (sym (depths r s x y n m h)))
