-- The actors of an epoch, one mutator after another.
use Rattle.std.proofs.Common.{◌≡◌, ℕ, ◌+◌, ◌<◌, true, Some, Bool, List, [], ◌∷◌, ◌++◌, length, set, slice_get, get_or, refl, ap, sym, ◌∙◌, arith, add-one}
use Rattle.std.proofs.lemmas.List.{take_more_set, length_push, length-set}
use Rattle.std.proofs.lemmas.Option.{slice_get_read}
use Rattle.sg_actor.specs.declared.mutator.Stage.{Stage}
use Rattle.sg_actor.specs.declared.mutator.Stage.TheVariants.{Ended}
use Rattle.sg_actor.specs.State.{Mutating}
use Rattle.sg_mutate.specs.declared.epochs.Actors.{Actors}
use Rattle.sg_mutate.specs.Going.{goes_on, is_going, going_below, AreActorsBelow}
use Rattle.sg_mutate.proofs.Listed.{those_more, those_same}

going_stage : (stage : Stage) → ¬ (stage ≡ Ended) → goes_on stage ≡ true
going_stage Ended h = absurd (h refl)
going_stage stage h = refl

module _ (ms : List Mutating) (k : ℕ) (m : Mutating) (l : k < length ms) (is : m ≡ get_or ms k m) where
  abbrev P : ℕ → Bool
  P j = is_going (slice_get ms j)

  read : slice_get ms k ≡ Some m
  read = slice_get_read ms (length ms) k m refl l is

  pub one_more : (a : Actors) → k < 16 → ¬ (m.stage ≡ Ended) → AreActorsBelow ms k a →
      AreActorsBelow ms (k + 1) (record { numbers = set a.numbers a.count k; count = a.count + 1 })
  one_more a few going h =
      let more : going_below ms (k + 1) ≡ going_below ms k ++ k ∷ [] =
      ap (going_below ms) (add-one k) ∙ those_more P k (ap is_going read ∙ going_stage m.stage going) in
      let c = h.count in
      let n = h.few in
      let r = h.room in
      record {
        count = let e = ap length more in let q = length_push (going_below ms k) k in omega arith;
        few = omega arith;
        numbers = take_more_set a.numbers a.count k (omega arith) ∙ ap (λ ks. ks ++ k ∷ []) h.numbers ∙ sym more;
        room = length-set a.numbers a.count k ∙ r;
      }

  pub same_ones : (a : Actors) → m.stage ≡ Ended → AreActorsBelow ms k a → AreActorsBelow ms (k + 1) a
  same_ones a ended h =
      let same : going_below ms (k + 1) ≡ going_below ms k = ap (going_below ms) (add-one k) ∙ those_same P k (ap is_going read ∙ ap goes_on ended) in
      let n = h.few in
      record {
        count = h.count ∙ ap length (sym same);
        few = omega arith;
        numbers = h.numbers ∙ sym same;
        room = h.room;
      }
