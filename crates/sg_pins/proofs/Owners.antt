-- What the merge gives is what the ambiguous words pin, told by the owners of words.
use Rattle.std.proofs.Common.{◌≡◌, ℕ, ◌/◌, List, Option, Some, refl, sym, subst, arith}
use Rattle.std.specs.List.{Contains}
use Rattle.std.specs.List.Sorted.{IsPermutation}
use Rattle.std.proofs.lemmas.List.Sorted.{Contains-permutation, IsPermutation-sym}
use Rattle.std.proofs.lemmas.Option.{slice_get_within, get_or_from_slice_get, slice_get_read}
use Rattle.sg_space.specs.declared.objects.Object.{Object}
use Rattle.sg_space.specs.Space.{Contents}
use Rattle.sg_space.specs.Standing.{IsSoundBy, TellsYoung, IsToldOf}
use Rattle.sg_pins.specs.Pins.{IsPointedInto, ArePinned, IsReached, AreReached}

pointed : (s : Contents) (owner : ℕ → Option ℕ) (words : List ℕ) (h : ℕ) (o : Object) → IsSoundBy s owner → owner h ≡ Some h → IsToldOf s h o → IsReached words o → IsPointedInto owner words h
pointed s owner words h o sound mine is w =
    let v = w.0 in
    let low = w.2 in
    let high = w.3 in
    let at = is.at in
    let size = is.words in
    (v, w.1, sound.whole h (v / 8) mine (omega arith) (omega arith))

reached : (s : Contents) (owner : ℕ → Option ℕ) (words : List ℕ) (h : ℕ) (o : Object) → IsSoundBy s owner → IsToldOf s h o → IsPointedInto owner words h → IsReached words o
reached s owner words h o sound is w =
    let v = w.0 in
    let within = sound.owned (v / 8) h w.2 in
    let low = within.0 in
    let high = within.1 in
    let at = is.at in
    let size = is.words in
    (v, w.1, omega arith, omega arith)

pub pinned_by : (s : Contents) (owner : ℕ → Option ℕ) (words : List ℕ) (told : List Object) (pinned : List ℕ) → IsSoundBy s owner → TellsYoung s owner told → AreReached words told pinned → ArePinned s.layout owner words pinned
pinned_by s owner words told pinned sound tells r = record {
  in_order = r.in_order;
  each = λ a in_pinned.
      let w = r.each a in_pinned in
      let o = w.0 in
      let t = tells.each w.1.0 o (slice_get_read told _ w.1.0 o refl w.1.1 (sym w.1.2)) in
      let at = t.3.at in
      let is = w.2 in
      (t.0, omega arith, t.1, t.2, pointed s owner words t.0 o sound t.1 t.3 w.3);
  all = λ h mine young into.
      let w = tells.all h mine young in
      let o = w.1 in
      let t = tells.each w.0 o w.2 in
      let at = t.3.at in
      let is = w.3 in
      let h_is : t.0 ≡ h = omega arith in
      let told_of = subst (λ x. IsToldOf s x o) h_is t.3 in
      let in_told : Contains told o = (w.0, slice_get_within told w.0 o w.2, get_or_from_slice_get told w.0 o o w.2) in
      subst (Contains pinned) w.3 (r.all o in_told (reached s owner words h o sound told_of into));
}

-- the order of the words doesn't matter
reached_as : (words others : List ℕ) (o : Object) → IsPermutation words others → IsReached words o → IsReached others o
reached_as words others o same w = (w.0, Contains-permutation words others w.0 same w.1, w.2, w.3)

pub are_reached_as : (words others : List ℕ) (objects : List Object) (pinned : List ℕ) → IsPermutation words others → AreReached others objects pinned → AreReached words objects pinned
are_reached_as words others objects pinned same r = record {
  in_order = r.in_order;
  each = λ a i. let w = r.each a i in (w.0, w.1, w.2, reached_as others words w.0 (IsPermutation-sym words others same) w.3);
  all = λ o i w. r.all o i (reached_as words others o same w);
}
