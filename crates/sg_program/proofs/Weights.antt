-- Counting the statements that items do.
use Rattle.std.proofs.Common.{◌≡◌, ℕ, zero, suc, ◌+◌, ◌*◌, ◌<◌, ◌≤◌, min, zero-mul, Bool, false, List, [], ◌∷◌, ◌++◌, length, get_or, take, inl, inr, ap, sym, refl, ◌∙◌, arith}
use Rattle.std.proofs.Math.Nat.{min-eq_left, min-eq_right, mul_comm, le-mul_of_pos_right}
use Rattle.std.proofs.lemmas.Bool.{cases_lt}
use Rattle.std.proofs.lemmas.List.{take_more, append-nil}
use Rattle.std.proofs.lemmas.Grind.{flat_map-append}
use Rattle.std.specs.List.{count_by}
use Rattle.sg_words.proofs.Everywhere.{count-append, count-cons}
use Rattle.sg_program.specs.declared.program.Statement.{Statement}
use Rattle.sg_program.specs.declared.program.Item.{Item, out-Item}
use Rattle.sg_program.specs.declared.program.Item.TheOpen.{Repeat}
use Rattle.sg_program.specs.Scripts.{repeated, item_out, written_out}
use Rattle.sg_program.specs.Counts.{is_counted, capped, weight, weight_of_all}
use Rattle.sg_program.proofs.Items.{out_repeat}

-- a sum of two numbers that are held at k, held at k
pub held_sum : (k a b : ℕ) → min (min a k + min b k) k ≡ min (a + b) k
held_sum k a b = elim (cases_lt k a) [
  | inl over ↦ let p = min-eq_right {n = k} {m = a} (omega arith) in
      min-eq_right (omega (arith, p)) ∙ sym (min-eq_right (omega arith))
  | inr within ↦ elim (cases_lt k b) [
    | inl over ↦ let p = min-eq_right {n = k} {m = b} (omega arith) in
        min-eq_right (omega (arith, p)) ∙ sym (min-eq_right (omega arith))
    | inr both ↦ ap (λ x. min x k) (let p = min-eq_left {n = a} {m = k} (omega arith) in let q = min-eq_left {n = b} {m = k} (omega arith) in let r : min a k + min b k ≡ a + b = omega (arith, p, q) in r)
  ]
]

-- a product of a number that is held at k, held at k
pub held_product : (k a t : ℕ) → min (min a k * t) k ≡ min (t * a) k
held_product k a zero = ap (λ x. min x k) (omega arith)
held_product k a (suc t) = elim (cases_lt k a) [
  | inl over ↦ let p = min-eq_right {n = k} {m = a} (omega arith) in
      let q : k ≤ k * suc t = le-mul_of_pos_right k (omega arith) in
      let w : a ≤ a * suc t = le-mul_of_pos_right a (omega arith) in
      let r : k ≤ suc t * a = omega (arith, mul_comm a (suc t)) in
      ap (λ x. min (x * suc t) k) p ∙ min-eq_right q ∙ sym (min-eq_right r)
  | inr within ↦ ap (λ x. min x k) (ap (λ x. x * suc t) (min-eq_left {n = a} {m = k} (omega arith)) ∙ (omega arith))
]

pub count-repeated : {A : Type 0} (p : A → Bool) (n : ℕ) (xs : List A) → count_by p (repeated n xs) ≡ n * count_by p xs
count-repeated p zero xs = sym (zero-mul (count_by p xs))
count-repeated p (suc n) xs = let q = count-append p xs (repeated n xs) in let r = count-repeated p n xs in omega arith

pub count-all : (xs : List Statement) → count_by (is_counted false) xs ≡ length xs
count-all [] = refl
count-all (x ∷ xs) = count-cons (is_counted false) x xs ∙ (let q = count-all xs in omega arith)

-- one more item
pub weight-push : (finals : Bool) (items : List Item) (item : Item) → weight_of_all finals (items ++ item ∷ []) ≡ weight_of_all finals items + weight finals item
weight-push finals items item =
    ap (count_by (is_counted finals)) (flat_map-append item_out items (item ∷ []) ∙ ap (λ x. written_out items ++ x) (append-nil (item_out item)))
    ∙ count-append (is_counted finals) (written_out items) (item_out item)

-- a step of a loop over items
pub weight_more : (finals : Bool) (items : List Item) (i : ℕ) (item : Item) (sum one next : ℕ) →
    i < length items → item ≡ get_or items i item → sum ≡ capped (weight_of_all finals (take i items)) → one ≡ capped (weight finals item) →
    next ≡ capped (sum + one) → next ≡ capped (weight_of_all finals (take (i + 1) items))
weight_more finals items i item sum one next there is before this after =
    let longer = take_more items i item there ∙ ap (λ (q : Item). take i items ++ q ∷ []) (sym is) in
    after ∙ ap capped (ap (λ x. x + one) before ∙ ap (λ x. capped (weight_of_all finals (take i items)) + x) this)
    ∙ held_sum _ (weight_of_all finals (take i items)) (weight finals item)
    ∙ ap capped (sym (weight-push finals (take i items) item) ∙ ap (weight_of_all finals) (sym longer))

-- a repeat does its body that many times
pub weight-repeat : (finals : Bool) (item : Item) (times : ℕ) (body : List Item) → out-Item item ≡ Repeat times body → weight finals item ≡ times * weight_of_all finals body
weight-repeat finals item times body is = ap (count_by (is_counted finals)) (out_repeat item times body is) ∙ count-repeated (is_counted finals) times (written_out body)
