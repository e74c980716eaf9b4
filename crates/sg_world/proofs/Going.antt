-- The numbers of the mutators that go on.
use Rattle.std.proofs.Common.{◌≡◌, ℕ, ◌+◌, ◌↔◌, cond, Bool, true, false, filter, Some, List, [], ◌∷◌, ◌++◌, slice_get, sym, refl, ap, ◌∙◌, append-nil, add-one}
use Rattle.std.proofs.lemmas.List.Elements.{filter-append}
use Rattle.sg_graph.specs.Epoch.{numbers_below}
use Rattle.sg_actor.specs.declared.mutator.Stage.{Stage}
use Rattle.sg_actor.specs.declared.mutator.Stage.TheVariants.{Between, Within, Claiming, OpeningBlock, TakingSlot, TakingOver}
use Rattle.sg_actor.specs.declared.mutator.Stage.TheVariants.{Sweeping, BehindSweep, Ended, Asking, Yielded}
use Rattle.sg_actor.specs.State.{Mutating}
use Rattle.sg_world.specs.Telling.{goes, goes_at}

-- one more number
going_more : (ms : List Mutating) (k : ℕ) (m : Mutating) → slice_get ms k ≡ Some m →
    filter (λ k. goes_at (slice_get ms k)) (numbers_below (k + 1)) ≡ filter (λ k. goes_at (slice_get ms k)) (numbers_below k) ++ cond (goes m.stage) (k ∷ []) []
going_more ms k m e =
    ap (λ n. filter (λ k. goes_at (slice_get ms k)) (numbers_below n)) (add-one k)
    ∙ filter-append (λ k. goes_at (slice_get ms k)) (numbers_below k) (k ∷ [])
    ∙ ap (λ x. filter (λ k. goes_at (slice_get ms k)) (numbers_below k) ++ cond (goes_at x) (k ∷ []) []) e

goes_all : (stage : Stage) (b : Bool) → ((b ≡ true) ↔ (stage ≡ Ended)) → goes stage ≡ cond b false true
goes_all Ended true t = refl
goes_all Ended false t = absurd (let q : false ≡ true = t.1 refl in cc q)
goes_all Between true t = absurd (let q = t.0 refl in cc q)
goes_all Within true t = absurd (let q = t.0 refl in cc q)
goes_all (Claiming statement fragment seen) true t = absurd (let q = t.0 refl in cc q)
goes_all (OpeningBlock statement block) true t = absurd (let q = t.0 refl in cc q)
goes_all (TakingSlot statement block slot) true t = absurd (let q = t.0 refl in cc q)
goes_all (TakingOver statement block size) true t = absurd (let q = t.0 refl in cc q)
goes_all (Sweeping statement block size) true t = absurd (let q = t.0 refl in cc q)
goes_all (BehindSweep statement block) true t = absurd (let q = t.0 refl in cc q)
goes_all (Asking statement request) true t = absurd (let q = t.0 refl in cc q)
goes_all Yielded true t = absurd (let q = t.0 refl in cc q)
goes_all stage false t = refl

-- by the answer to the question whether it has ended
goes_unless : (stage : Stage) (b : Bool) → ((b ≡ true) ↔ (stage ≡ Ended)) → b ≡ false → goes stage ≡ true
goes_unless stage b t e = goes_all stage b t ∙ ap (λ x. cond x false true) e

goes_not : (stage : Stage) (b : Bool) → ((b ≡ true) ↔ (stage ≡ Ended)) → b ≡ true → goes stage ≡ false
goes_not stage b t e = goes_all stage b t ∙ ap (λ x. cond x false true) e

-- one that stands there and goes on hasn't ended
pub goes_is : (stage : Stage) → goes stage ≡ true → ¬ (stage ≡ Ended)
goes_is Ended e d = let q : false ≡ true = e in cc q
goes_is Between e d = cc d
goes_is Within e d = cc d
goes_is (Claiming statement fragment seen) e d = cc d
goes_is (OpeningBlock statement block) e d = cc d
goes_is (TakingSlot statement block slot) e d = cc d
goes_is (TakingOver statement block size) e d = cc d
goes_is (Sweeping statement block size) e d = cc d
goes_is (BehindSweep statement block) e d = cc d
goes_is (Asking statement request) e d = cc d
goes_is Yielded e d = cc d

-- the loop over all of them
module _ (ms : List Mutating) (k : ℕ) (m : Mutating) (at : slice_get ms k ≡ Some m) (numbers : List ℕ)
    (so : numbers ≡ filter (λ k. goes_at (slice_get ms k)) (numbers_below k))
    (b : Bool) (t : (b ≡ true) ↔ (m.stage ≡ Ended)) where
  pub pushed : b ≡ false → numbers ++ k ∷ [] ≡ filter (λ k. goes_at (slice_get ms k)) (numbers_below (k + 1))
  pushed e = ap (λ xs. xs ++ k ∷ []) so
      ∙ sym (going_more ms k m at ∙ ap (λ d. filter (λ k. goes_at (slice_get ms k)) (numbers_below k) ++ cond d (k ∷ []) []) (goes_unless m.stage b t e))

  pub skipped : b ≡ true → numbers ≡ filter (λ k. goes_at (slice_get ms k)) (numbers_below (k + 1))
  skipped e = so
      ∙ sym (going_more ms k m at ∙ ap (λ d. filter (λ k. goes_at (slice_get ms k)) (numbers_below k) ++ cond d (k ∷ []) []) (goes_not m.stage b t e)
      ∙ append-nil _)
