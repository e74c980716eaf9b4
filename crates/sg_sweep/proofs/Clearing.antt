-- The unmarked ones of the first slots became zero.
use Rattle.std.proofs.Common.{◌≡◌, ◌≢◌, ℕ, zero, suc, ◌+◌, ◌-◌, ◌≤◌, ◌<◌, List, [], refl, sym, ap, ◌∙◌, subst, inl, inr, arith}
use Rattle.std.proofs.Math.Numerals.{add-one}
use Rattle.std.proofs.lemmas.Bool.{cases_eq, cond-true, cond-false, eq-eqb, ne_eqb}
use Rattle.std.specs.Int.{bit_at}
use Rattle.sg_words.specs.declared.steps.Step.{Step}
use Rattle.sg_words.specs.declared.steps.Call.{Call}
use Rattle.sg_words.specs.Blocks.{slot_from}
use Rattle.sg_words.specs.Sweeps.{zero_steps}
use Rattle.sg_cells.specs.Made.{Makes, makes_then}
use Rattle.sg_cells.specs.Allowed.{MayMake, may_first, may_rest}
use Rattle.sg_sweep.specs.Sweeping.{slot_steps, clear_steps, unmarked}

-- the steps of a slot that isn't marked, and of one that is
slot_clears : (heap b z marks i : ℕ) → bit_at marks i ≡ 0 → slot_steps heap b z marks i ≡ zero_steps (slot_from heap b z i) z
slot_clears heap b z marks i e = cond-true _ (zero_steps (slot_from heap b z i) z) [] (eq-eqb (bit_at marks i) 0 e)

slot_stays : (heap b z marks i : ℕ) → bit_at marks i ≢ 0 → slot_steps heap b z marks i ≡ []
slot_stays heap b z marks i n = cond-false _ (zero_steps (slot_from heap b z i) z) [] (ne_eqb (bit_at marks i) 0 n)

-- of n slots at most n aren't marked
pub unmarked_most : (marks n : ℕ) → unmarked marks n ≤ n
unmarked_most marks zero = omega arith
unmarked_most marks (suc n) = let h = unmarked_most marks n in omega arith

-- from p on the first n slots were gone over, which led to q, and so many became zero
pub record HasCleared {P : Type 0} (leads : P → List Step → P → Type 0) (sees : P → Step → Type 0) (heap b z marks n freed : ℕ) (p q : P) : Type 0 where
  pub made : Makes leads sees p (clear_steps heap b z marks n) q
  pub count : freed ≡ unmarked marks n

module _ {P : Type 0} (leads : P → List Step → P → Type 0) (sees : P → Step → Type 0) (heap b z marks : ℕ) (p : P) where
  pub cleared_none : HasCleared leads sees heap b z marks 0 0 p p
  cleared_none = record { made = refl; count = refl }

  module _ (n freed : ℕ) (q : P) (h : HasCleared leads sees heap b z marks n freed p q) where
    -- one slot more
    cleared_more : (freed' : ℕ) (r : P) → Makes leads sees q (slot_steps heap b z marks n) r → freed' ≡ freed + (1 - bit_at marks n) →
        HasCleared leads sees heap b z marks (n + 1) freed' p r
    cleared_more freed' r made e = subst (λ (k : ℕ). HasCleared leads sees heap b z marks k freed' p r) (sym (add-one n)) (record {
      made = makes_then leads sees p (clear_steps heap b z marks n) q (slot_steps heap b z marks n) r h.made made;
      count = e ∙ ap (λ (k : ℕ). k + (1 - bit_at marks n)) h.count;
    })

    pub cleared_slot : (r : P) → bit_at marks n ≡ 0 → Makes leads sees q (zero_steps (slot_from heap b z n) z) r →
        HasCleared leads sees heap b z marks (n + 1) (freed + 1) p r
    cleared_slot r e made = cleared_more (freed + 1) r (subst (λ (es : List Step). Makes leads sees q es r) (sym (slot_clears heap b z marks n e)) made) (omega arith)

    pub kept_slot : bit_at marks n ≡ 1 → HasCleared leads sees heap b z marks (n + 1) freed p q
    kept_slot e = cleared_more freed q (subst (λ (es : List Step). Makes leads sees q es q) (sym (slot_stays heap b z marks n (omega arith))) refl) (omega arith)

    module _ (may : P → Call → Type 0) where
      may_upto : (k m : ℕ) → k ≤ m → MayMake leads sees may p (clear_steps heap b z marks m) → MayMake leads sees may p (clear_steps heap b z marks k)
      may_upto k zero l f = subst (λ (i : ℕ). MayMake leads sees may p (clear_steps heap b z marks i)) (let e : 0 ≡ k = omega arith in e) f
      may_upto k (suc m) l f = elim (cases_eq k (suc m)) [
        | inl e ↦ subst (λ (i : ℕ). MayMake leads sees may p (clear_steps heap b z marks i)) (sym e) f
        | inr d ↦ may_upto k m (omega arith) (may_first leads sees may p (clear_steps heap b z marks m) (slot_steps heap b z marks m) f)
      ]

      -- the port lets its actor zero the next slot
      pub may_slot : (all : ℕ) → n < all → MayMake leads sees may p (clear_steps heap b z marks all) → bit_at marks n ≡ 0 →
          MayMake leads sees may q (zero_steps (slot_from heap b z n) z)
      may_slot all l f e =
          let first : MayMake leads sees may p (clear_steps heap b z marks (suc n)) = may_upto (suc n) all (omega arith) f in
          subst (λ (es : List Step). MayMake leads sees may q es) (slot_clears heap b z marks n e)
          (may_rest leads sees may p (clear_steps heap b z marks n) (slot_steps heap b z marks n) q first h.made)
