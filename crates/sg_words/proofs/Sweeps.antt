-- A block's word after a sweep, by cases; a mask that isn't 0 has a bit; and the steps that zero words, as words.
use Rattle.std.proofs.Common.{◌≡◌, ◌≢◌, ℕ, zero, suc, ◌≤◌, ◌/◌, ◌%◌, sym, ◌∙◌, subst, inl, inr, arith}
use Rattle.std.proofs.lemmas.Bool.{cases_eq, cond-true, cond-false, eq-eqb, ne_eqb}
use Rattle.std.proofs.lemmas.Nat.Bits.{bit_at_lowest, bit_at-suc}
use Rattle.std.specs.Int.{bit_at}
use Rattle.sg_words.specs.declared.steps.BlockWord.{BlockWord}
use Rattle.sg_words.specs.declared.steps.BlockWord.TheVariants.{Free, Swept, Need, Sweeping}
use Rattle.sg_words.specs.Blocks.{IsOf}
use Rattle.sg_words.specs.Sweeps.{swept_word}

-- what was to be swept is free or swept
pub by_marks : (P : BlockWord → Type 0) (z m : ℕ) → (m ≡ 0 → P Free) → (m ≢ 0 → P (Swept z)) → P (swept_word (Need z) m)
by_marks P z m free swept = elim (cases_eq m 0) [
  | inl e ↦ subst P (sym (cond-true _ Free (Swept z) (eq-eqb m 0 e))) (free e)
  | inr n ↦ subst P (sym (cond-false _ Free (Swept z) (ne_eqb m 0 n))) (swept n)
]

-- the size stays
pub swept-of : (w : BlockWord) (m s : ℕ) → IsOf (swept_word w m) s → IsOf w s
swept-of Free m s o = o
swept-of (Swept z) m s o = o
swept-of (Need z) m s o = by_marks (λ w. IsOf w s → z ≡ s) z m (λ e f. absurd f) (λ n f. f) o
swept-of (Sweeping z) m s o = o

-- a mask that isn't 0 has a bit
pub some_bit : (k m : ℕ) → m ≤ k → m ≢ 0 → (i : ℕ) × (bit_at m i ≡ 1)
some_bit zero m l n = absurd (n (omega arith))
some_bit (suc k) m l n = elim (cases_eq (m % 2) 1) [
  | inl e ↦ (0, bit_at_lowest m ∙ e)
  | inr d ↦
      let h = some_bit k (m / 2) (omega arith) (omega arith) in
      (suc h.0, bit_at-suc m h.0 ∙ h.1)
]
