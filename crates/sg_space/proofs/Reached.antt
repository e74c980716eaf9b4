-- What a walk over a section knows: by every owner by which the space is sound, no object that begins below the place that
-- it reached ends above it.
use Rattle.std.proofs.Common.{◌≡◌, ◌≢◌, ℕ, ◌+◌, ◌%◌, ◌<◌, ◌≤◌, ◌⊎◌, inl, inr, Option, Some, None, refl, sym, ap, ◌∙◌, subst, arith}
use Rattle.std.proofs.lemmas.Bool.{cases_lt}
use Rattle.std.proofs.lemmas.Option.{none-some, same_Some}
use Rattle.sg_words.specs.Address.{word_at}
use Rattle.sg_space.specs.declared.objects.Object.{Object}
use Rattle.sg_words.specs.Sections.{nursery_base, old_base, globals_base}
use Rattle.sg_space.specs.Space.{Contents}
use Rattle.sg_space.proofs.Slots.{place_inside, young_place, none_outside}
use Rattle.sg_space.specs.Standing.{word, size_at, IsSoundBy, IsSound, IsClearAt, IsFree, AreFree, IsNoFront, TellsAt, HoldsWord, HasByte}

-- a range that has x, and doesn't end above x if it begins below x, begins at x
at_front : (x h n : ℕ) → h ≤ x → x < h + n → (h < x → h + n ≤ x) → h ≡ x
at_front x h n above below ends = grind arith

-- the word x is no object's, or the first one of an object, where no object below reaches it
module _ (s : Contents) (owner : ℕ → Option ℕ) (sound : IsSoundBy s owner) (x : ℕ) (clear : IsClearAt s x) where
  owner_is_front : (h : ℕ) → owner x ≡ Some h → owner x ≡ Some x
  owner_is_front h e =
      let o = sound.owned x h e in
      let c = clear.ends owner sound h o.2 in
      let same = at_front x h (size_at s h) o.0 o.1 c in
      subst (λ y. owner x ≡ Some y) same e

  front_has_tag : owner x ≡ Some x → word s x ≢ 0
  front_has_tag e z = let object = sound.objects x e in absurd (omega (arith, object.tag))

  free_where_zero : word s x ≡ 0 → (o : Option ℕ) → owner x ≡ o → owner x ≡ None
  free_where_zero z None e = e
  free_where_zero z (Some h) e = absurd (front_has_tag (owner_is_front h e) z)

  front_where_tag : word s x ≢ 0 → nursery_base ≤ x → x < old_base s.layout → (o : Option ℕ) → owner x ≡ o → owner x ≡ Some x
  front_where_tag n above below None e = absurd (n (sound.clear x e above (omega arith) (λ g. let from = g.from in absurd (omega arith))))
  front_where_tag n above below (Some h) e = owner_is_front h e

pub zero_is_free : (s : Contents) (x : ℕ) → IsClearAt s x → word s x ≡ 0 → IsFree s x
zero_is_free s x clear z = record { none = λ owner sound. free_where_zero s owner sound x clear z (owner x) refl }

pub tag_begins : (s : Contents) (x : ℕ) → IsClearAt s x → word s x ≢ 0 → nursery_base ≤ x → x < old_base s.layout →
    (owner : ℕ → Option ℕ) → IsSoundBy s owner → owner x ≡ Some x
tag_begins s x clear n above below owner sound = front_where_tag s owner sound x clear n above below (owner x) refl

-- two objects that share a word are one
module _ (s : Contents) (owner : ℕ → Option ℕ) (sound : IsSoundBy s owner) where
  pub inside_is_front : (x h : ℕ) → owner x ≡ Some x → owner h ≡ Some h → x ≤ h → h < x + size_at s x → h ≡ x
  inside_is_front x h e f above below = same_Some h x (sym f ∙ sound.whole x h e above below)

-- the walk's step over a word that isn't an object's
pub clear_skip : (s : Contents) (x : ℕ) → IsClearAt s x → IsFree s x → IsClearAt s (x + 1)
clear_skip s x clear free = record {
  ends = λ owner sound h e below.
      let not_here : h ≢ x = λ same. none-some h (sym (free.none owner sound) ∙ subst (λ y. owner y ≡ Some h) same e) in
      let c = clear.ends owner sound h e in
      omega arith;
}

-- and over several
pub clear_jump : (s : Contents) (x y : ℕ) → IsClearAt s x → AreFree s x y → x < y → IsClearAt s y
clear_jump s x y clear free behind = record {
  ends = λ owner sound h e below. elim (cases_lt h x) [
    | inl l ↦ let c = clear.ends owner sound h e l in omega arith
    | inr up ↦ absurd (none-some h (sym (free.none owner sound h up below) ∙ e))
  ];
}

-- and over an object
step_ends : (x n h size_h size_x : ℕ) → n ≡ size_x → (h < x → h + size_h ≤ x) → (x ≤ h → h < x + size_x → h ≡ x) → (h ≡ x → size_h ≡ size_x) → h < x + n → h + size_h ≤ x + n
step_ends x n h size_h size_x size before inside same below = grind arith

pub clear_step : (s : Contents) (x : ℕ) (o : Object) → IsClearAt s x → TellsAt s x o → IsClearAt s (x + o.words)
clear_step s x o clear at = record {
  ends = λ owner sound h e below.
      step_ends x o.words h (size_at s h) (size_at s x) at.told.words (clear.ends owner sound h e)
      (inside_is_front s owner sound x h (at.begins owner sound) e) (λ same. ap (size_at s) same) below;
}

-- the nursery's front
pub clear_nursery : (s : Contents) → IsClearAt s nursery_base
clear_nursery s = record {
  ends = λ owner sound h e below. let i = place_inside s h (sound.places h e) in let above = i.above in absurd (omega arith);
}

-- how far the object that begins at the word x of the nursery reaches
pub record HasSizes (s : Contents) (x : ℕ) (o : Object) : Type 0 where
  pub least : 2 ≤ o.words
  pub within : x + o.words ≤ old_base s.layout

pub sizes_of : (s : Contents) (x : ℕ) (o : Object) → IsSound s → TellsAt s x o → x < old_base s.layout → HasSizes s x o
sizes_of s x o is at below =
    let place = young_place s is.0 is.1 x x (at.begins is.0 is.1) below in
    let within = place.within in
    let size = at.told.words in
    record { least = omega arith; within = omega arith }

-- what is out of the sections of objects has no owner
pub free_outside : (s : Contents) (x : ℕ) → (x < nursery_base) ⊎ (globals_base s.layout ≤ x) → IsFree s x
free_outside s x out = record { none = λ owner sound. none_outside s owner sound x out (owner x) refl }

-- a search for the word y that has come to the word x: the object that has y is ahead
pub record IsAhead (s : Contents) (y x : ℕ) : Type 0 where
  pub ahead : (owner : ℕ → Option ℕ) → IsSoundBy s owner → (h : ℕ) → owner y ≡ Some h → x ≤ h

not_before : (x y h n : ℕ) → x ≤ y → y < h + n → (h < x → h + n ≤ x) → x ≤ h
not_before x y h n below reaches ends = grind arith

pub ahead_first : (s : Contents) (y x : ℕ) → IsClearAt s x → x ≤ y → IsAhead s y x
ahead_first s y x clear below = record {
  ahead = λ owner sound h e.
      let o = sound.owned y h e in
      not_before x y h (size_at s h) below o.1 (clear.ends owner sound h o.2);
}

pub ahead_skip : (s : Contents) (y x : ℕ) → IsAhead s y x → IsFree s x → IsAhead s y (x + 1)
ahead_skip s y x is free = record {
  ahead = λ owner sound h e.
      let o = sound.owned y h e in
      let not_here : h ≢ x = λ same. none-some h (sym (free.none owner sound) ∙ subst (λ z. owner z ≡ Some h) same o.2) in
      let a = is.ahead owner sound h e in
      omega arith;
}

pub ahead_step : (s : Contents) (y x : ℕ) (o : Object) → IsClearAt s x → TellsAt s x o → x + o.words ≤ y → IsAhead s y (x + o.words)
ahead_step s y x o clear at beyond = ahead_first s y (x + o.words) (clear_step s x o clear at) beyond

none_ahead : (s : Contents) (y x : ℕ) (owner : ℕ → Option ℕ) → IsSoundBy s owner → IsAhead s y x → y < x → (o : Option ℕ) → owner y ≡ o → owner y ≡ None
none_ahead s y x owner sound is over None e = e
none_ahead s y x owner sound is over (Some h) e =
    let o = sound.owned y h e in
    let a = is.ahead owner sound h e in
    let h_below = o.0 in
    absurd (omega arith)

pub free_behind : (s : Contents) (y x : ℕ) → IsAhead s y x → y < x → IsFree s y
free_behind s y x is over = record { none = λ owner sound. none_ahead s y x owner sound is over (owner y) refl }

-- the object that begins at x has the word y
pub holds_at : (s : Contents) (y x : ℕ) (o : Object) → TellsAt s x o → x ≤ y → y < x + o.words → HoldsWord s y o
holds_at s y x o at above below =
    let place = at.told.at in
    let number : word_at o.at ≡ x = omega (arith, place) in
    record {
      tells = subst (λ z. TellsAt s z o) (sym number) at;
      whole = omega (arith, place);
      above = omega arith;
      below = omega arith;
    }

pub holder_owns : (s : Contents) (y : ℕ) (o : Object) → HoldsWord s y o → (owner : ℕ → Option ℕ) → IsSoundBy s owner → owner y ≡ Some (word_at o.at)
holder_owns s y o holds owner sound =
    let size = holds.tells.told.words in
    let below = holds.below in
    sound.whole (word_at o.at) y (holds.tells.begins owner sound) holds.above (omega (arith, size, below))

pub has_byte : (s : Contents) (v : ℕ) (o : Object) → HoldsWord s (word_at v) o → HasByte s v o.at
has_byte s v o holds =
    let size = holds.tells.told.words in
    let above = holds.above in
    let below = holds.below in
    let whole = holds.whole in
    record {
      owns = holder_owns s (word_at v) o holds;
      whole = whole;
      above = omega (arith, above, whole);
      below = omega (arith, size, below, whole);
    }

pub free_no_front : (s : Contents) (x : ℕ) → IsFree s x → IsNoFront s x
free_no_front s x free = record { other = λ owner sound e. none-some x (sym (free.none owner sound) ∙ e) }

pub held_no_front : (s : Contents) (a : ℕ) (o : Object) → HoldsWord s (word_at a) o → a % 8 ≡ 0 → o.at ≢ a → IsNoFront s (word_at a)
held_no_front s a o holds whole_a other = record {
  other = λ owner sound e.
      let same : word_at o.at ≡ word_at a = same_Some _ _ (sym (holder_owns s (word_at a) o holds owner sound) ∙ e) in
      let whole = holds.whole in
      other (omega arith);
}

pub held_front : (s : Contents) (a : ℕ) (o : Object) → HoldsWord s (word_at a) o → o.at ≡ a → TellsAt s (word_at a) o
held_front s a o holds same = subst (λ z. TellsAt s (word_at z) o) same holds.tells
