-- The words that mutators hold, one mutator after another.
use Rattle.std.proofs.Common.{◌≡◌, ℕ, ◌+◌, ◌<◌, true, Some, List, [], ◌∷◌, ◌++◌, length, slice_get}
use Rattle.std.proofs.Common.{get_or, take, ap, ◌∙◌, sym, subst, append-nil, arith, inl, inr}
use Rattle.std.proofs.lemmas.Bool.{cases_lt}
use Rattle.std.proofs.lemmas.List.{take_more}
use Rattle.std.proofs.lemmas.List.Concat.{flat_map-append}
use Rattle.std.proofs.lemmas.Option.{same_Some}
use Rattle.sg_actor.specs.State.{Mutating}
use Rattle.sg_world.specs.Telling.{goes}
use Rattle.sg_world.specs.Stopping.{held_by, held_in}

module _ (ms : List Mutating) (k : ℕ) (m : Mutating) (there : k < length ms) (is : m ≡ get_or ms k m) where
  pub held_more : (words : List ℕ) → words ≡ held_in (take k ms) → words ++ held_by m m.stage ≡ held_in (take (k + 1) ms)
  held_more words so =
      ap (λ ws. ws ++ held_by m m.stage) so
      ∙ ap (λ ws. held_in (take k ms) ++ ws) (sym (append-nil (held_by m m.stage)))
      ∙ sym (flat_map-append (λ (x : Mutating). held_by x x.stage) (take k ms) (m ∷ []))
      ∙ ap held_in (ap (λ (x : Mutating). take k ms ++ x ∷ []) is ∙ sym (take_more ms k m there))

  pub registers_more : slice_get ms k ≡ Some m → ((j : ℕ) (x : Mutating) → j < k → slice_get ms j ≡ Some x → goes x.stage ≡ true → length x.registers ≡ 16) →
      (goes m.stage ≡ true → length m.registers ≡ 16) → (j : ℕ) (x : Mutating) → j < k + 1 → slice_get ms j ≡ Some x → goes x.stage ≡ true →
      length x.registers ≡ 16
  registers_more at before here j x l e going = elim (cases_lt j k) [
    | inl q ↦ before j x q e going
    | inr q ↦
        let i : j ≡ k = omega arith in
        let same : m ≡ x = same_Some m x (sym at ∙ subst (λ (i : ℕ). slice_get ms i ≡ Some x) i e) in
        subst (λ (y : Mutating). length y.registers ≡ 16) same (here (subst (λ (y : Mutating). goes y.stage ≡ true) (sym same) going))
  ]
