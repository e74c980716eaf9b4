-- What a walk of the nursery has told when it has come to the word x.
use Rattle.std.proofs.Common.{◌≡◌, ℕ, zero, suc, ◌+◌, ◌<◌, ◌≤◌, ◌⊎◌, inl, inr, List, [], ◌∷◌, ◌++◌, map, length, Option, Some, refl, sym, ap, ◌∙◌, subst, arith}
use Rattle.std.proofs.Common.{slice_get, slice_index}
use Rattle.std.proofs.lemmas.Grind.{common_steps}
use Rattle.std.proofs.lemmas.Bool.{cases_lt}
use Rattle.std.proofs.lemmas.List.{map-append, places}
use Rattle.std.proofs.lemmas.Option.{none-some, same_Some}
use Rattle.std.specs.List.Sorted.{IsStrictlyIncreasing}
use Rattle.sg_words.specs.Address.{byte_at}
use Rattle.sg_space.specs.declared.objects.Object.{Object}
use Rattle.sg_words.specs.Sections.{nursery_base, old_base, IsYoung}
use Rattle.sg_space.specs.Space.{Contents}
use Rattle.sg_space.specs.Standing.{IsSoundBy, IsToldOf, TellsYoung, AreFree, TellsAt}
use Rattle.sg_space.proofs.Reached.{inside_is_front}

-- the elements of a list with one more at its end
module _ {A : Type 0} where
  pushed_cases : (xs : List A) (y z : A) (k : ℕ) → slice_get (xs ++ y ∷ []) k ≡ Some z → (slice_get xs k ≡ Some z) ⊎ (y ≡ z)
  pushed_cases [] y z zero e = inr (same_Some y z e)
  pushed_cases [] y z (suc k) e = absurd (none-some z e)
  pushed_cases (x ∷ xs) y z zero e = inl e
  pushed_cases (x ∷ xs) y z (suc k) e = pushed_cases xs y z k e

  pushed_keeps : (xs : List A) (y z : A) (k : ℕ) → slice_get xs k ≡ Some z → slice_get (xs ++ y ∷ []) k ≡ Some z
  pushed_keeps [] y z k e = absurd (none-some z e)
  pushed_keeps (x ∷ xs) y z zero e = e
  pushed_keeps (x ∷ xs) y z (suc k) e = pushed_keeps xs y z k e

  pushed_last : (xs : List A) (y : A) → slice_get (xs ++ y ∷ []) (length xs) ≡ Some y
  pushed_last [] y = refl
  pushed_last (x ∷ xs) y = pushed_last xs y

-- the addresses of objects
addresses_below : (xs : List Object) (n : ℕ) → ((k : ℕ) (o : Object) → slice_get xs k ≡ Some o → o.at < n) →
    (k : ℕ) → k < length (map (λ (o : Object). o.at) xs) → slice_index (map (λ (o : Object). o.at) xs) k < n
addresses_below [] n each k within = absurd (omega arith)
addresses_below (x ∷ xs) n each zero within = each 0 x refl
addresses_below (x ∷ xs) n each (suc k) within = addresses_below xs n (λ j o e. each (suc j) o e) k (omega arith)

increasing_push : (xs : List ℕ) (y : ℕ) → IsStrictlyIncreasing xs → ((k : ℕ) → k < length xs → slice_index xs k < y) → IsStrictlyIncreasing (xs ++ y ∷ [])
increasing_push xs y sorted below k within = grind (arith, common_steps, places, sorted k, below k)

-- by this owner, the list tells exactly the objects of the nursery that begin below x
pub record TellsBelow (s : Contents) (owner : ℕ → Option ℕ) (x : ℕ) (told : List Object) : Type 0 where
  pub in_order : IsStrictlyIncreasing (map (λ (o : Object). o.at) told)
  pub below : (k : ℕ) (o : Object) → slice_get told k ≡ Some o → o.at < byte_at x
  pub each : (k : ℕ) (o : Object) → slice_get told k ≡ Some o → (h : ℕ) × (owner h ≡ Some h) × IsYoung s.layout h × IsToldOf s h o
  pub all : (h : ℕ) → owner h ≡ Some h → IsYoung s.layout h → h < x → (k : ℕ) × (o : Object) × (slice_get told k ≡ Some o) × (o.at ≡ byte_at h)

-- by every owner by which the space is sound
pub record HasTold (s : Contents) (x : ℕ) (told : List Object) : Type 0 where
  pub tells : (owner : ℕ → Option ℕ) → IsSoundBy s owner → TellsBelow s owner x told

pub told_none : (s : Contents) → HasTold s nursery_base []
told_none s = record {
  tells = λ owner sound. record {
    in_order = λ k within. absurd (omega arith);
    below = λ k o e. absurd (none-some o e);
    each = λ k o e. absurd (none-some o e);
    all = λ h e young before. absurd (omega arith);
  };
}

pub told_jump : (s : Contents) (x y : ℕ) (told : List Object) → HasTold s x told → AreFree s x y → x < y → HasTold s y told
told_jump s x y told has free behind = record {
  tells = λ owner sound.
      let t = has.tells owner sound in
      record {
        in_order = t.in_order;
        below = λ k o e. let b = t.below k o e in omega arith;
        each = t.each;
        all = λ h e young before. elim (cases_lt h x) [
          | inl l ↦ t.all h e young l
          | inr up ↦ absurd (none-some h (sym (free.none owner sound h up before) ∙ e))
        ];
      };
}

module _ (s : Contents) (owner : ℕ → Option ℕ) (sound : IsSoundBy s owner) (x : ℕ) (told : List Object) (o : Object)
    (t : TellsBelow s owner x told) (at : TellsAt s x o) (young_x : IsYoung s.layout x) where
  push_below : (k : ℕ) (p : Object) → slice_get (told ++ o ∷ []) k ≡ Some p → p.at < byte_at (x + o.words)
  push_below k p e = elim (pushed_cases told o p k e) [
    | inl before ↦ let b = t.below k p before in omega arith
    | inr same ↦ let place = at.told.at in let size = at.told.words in subst (λ (q : Object). q.at < byte_at (x + o.words)) same (omega (arith, place, size))
  ]

  push_each : (k : ℕ) (p : Object) → slice_get (told ++ o ∷ []) k ≡ Some p → (h : ℕ) × (owner h ≡ Some h) × IsYoung s.layout h × IsToldOf s h p
  push_each k p e = elim (pushed_cases told o p k e) [
    | inl before ↦ t.each k p before
    | inr same ↦ (x, at.begins owner sound, young_x, subst (λ (q : Object). IsToldOf s x q) same at.told)
  ]

  push_all : (h : ℕ) → owner h ≡ Some h → IsYoung s.layout h → h < x + o.words → (h < x) ⊎ (x ≤ h) → (k : ℕ) × (p : Object) × (slice_get (told ++ o ∷ []) k ≡ Some p) × (p.at ≡ byte_at h)
  push_all h e young before (inl below) = let a = t.all h e young below in (a.0, a.1, pushed_keeps told o a.1 a.0 a.2, a.3)
  push_all h e young before (inr above) =
      let size = at.told.words in
      let same : h ≡ x = inside_is_front s owner sound x h (at.begins owner sound) e above (omega (arith, size)) in
      (length told, o, pushed_last told o, at.told.at ∙ ap byte_at (sym same))

  push_tells : TellsBelow s owner (x + o.words) (told ++ o ∷ [])
  push_tells = record {
    in_order = rw (map-append (λ (p : Object). p.at) told (o ∷ []))
        (increasing_push (map (λ (p : Object). p.at) told) o.at t.in_order (addresses_below told o.at (λ k p e. let b = t.below k p e in let place = at.told.at in omega arith)));
    below = push_below;
    each = push_each;
    all = λ h e young before. push_all h e young before (cases_lt h x);
  }

pub told_push : (s : Contents) (x : ℕ) (told : List Object) (o : Object) → HasTold s x told → TellsAt s x o → IsYoung s.layout x → HasTold s (x + o.words) (told ++ o ∷ [])
told_push s x told o has at young = record { tells = λ owner sound. push_tells s owner sound x told o (has.tells owner sound) at young }

pub told_all : (s : Contents) (x : ℕ) (told : List Object) → HasTold s x told → old_base s.layout ≤ x →
    (owner : ℕ → Option ℕ) → IsSoundBy s owner → TellsYoung s owner told
told_all s x told has reached owner sound =
    let t = has.tells owner sound in
    record { in_order = t.in_order; each = t.each; all = λ h e young. t.all h e young (omega (arith, young.1)) }
