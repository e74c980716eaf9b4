-- The tags of pinned objects, one object at a time.
use Rattle.std.proofs.Common.{◌≡◌, ℕ, ◌+◌, ◌<◌, inl, inr, List, [], ◌∷◌, ◌++◌, length, get_or, take, map, arith, sym, subst, ap, ◌∙◌, refl, false}
use Rattle.std.specs.List.{Contains}
use Rattle.std.specs.List.Sorted.{IsStrictlyIncreasing}
use Rattle.std.proofs.lemmas.List.{get_or-take, take_more, map_push, get_or_default, length-take-le}
use Rattle.sg_words.specs.Address.{byte_at, word_at}
use Rattle.sg_space.specs.Space.{Contents, IsContents}
use Rattle.sg_words.specs.Lists.{In, has}
use Rattle.sg_space.specs.Changes.{IsStill, Stores}
use Rattle.sg_words.proofs.Members.{out, not-in, in-before, in-last, last-cases, map_in, contains_in}
use Rattle.sg_nursery.specs.Parts.{HasTagged}
use Rattle.sg_words.proofs.Sorted.{sorted_far}

pub tagged_none : (w : ℕ → ℕ) → HasTagged w [] w
tagged_none w = record { tagged = λ a i. (let z = i in cc); same = λ y n. refl }

pub tagged_more : (old mid new : ℕ → ℕ) (xs : List ℕ) (a : ℕ) → has a xs ≡ false → HasTagged old xs mid → Stores mid a (mid a + 2) new → HasTagged old (xs ++ a ∷ []) new
tagged_more old mid new xs a fresh f st = record {
  tagged = λ y i. elim (last-cases y a xs i) [
    | inl e ↦ subst (λ z. new z ≡ old z + 2) (sym e) (st.0 ∙ ap (λ z. z + 2) (f.same a fresh))
    | inr j ↦ st.1 y (λ e. absurd (not-in a xs fresh (subst (λ z. In z xs) e j))) ∙ f.tagged y j
  ];
  same = λ y n.
      st.1 y (λ e. absurd (not-in y (xs ++ a ∷ []) n (in-last y a xs e)))
      ∙ f.same y (out y xs (λ i. not-in y (xs ++ a ∷ []) n (in-before y a xs i)));
}

-- the next pin has no tag yet
pub pin_fresh : (pins : List ℕ) (i pin : ℕ) → IsStrictlyIncreasing pins → ((a : ℕ) → Contains pins a → byte_at (word_at a) ≡ a) → i < length pins → pin ≡ get_or pins i pin → has (word_at pin) (map word_at (take i pins)) ≡ false
pin_fresh pins i pin up whole there is = out (word_at pin) (map word_at (take i pins)) (λ j.
    let q = map_in word_at (word_at pin) (take i pins) j in
    let k = contains_in q.0 (take i pins) q.1 in
    let within = length-take-le i pins (omega arith) in
    let lower = k.1 in
    let earlier : k.0 < i = omega arith in
    let at_k : get_or pins k.0 q.0 ≡ q.0 = sym (get_or-take i pins k.0 q.0 earlier) ∙ k.2 in
    let at_k0 = get_or_default pins k.0 0 q.0 (omega arith) in
    let at_i0 = get_or_default pins i 0 pin there in
    let below = sorted_far pins up k.0 i earlier there in
    let whole_k = whole q.0 (k.0, omega arith, at_k) in
    let whole_i = whole pin (i, there, sym is) in
    let same = q.2 in
    absurd (omega arith))

pub tagged_next : (old mid new : ℕ → ℕ) (pins : List ℕ) (i pin : ℕ) → IsStrictlyIncreasing pins → ((a : ℕ) → Contains pins a → byte_at (word_at a) ≡ a) → i < length pins → pin ≡ get_or pins i pin →
    HasTagged old (map word_at (take i pins)) mid → Stores mid (word_at pin) (mid (word_at pin) + 2) new → HasTagged old (map word_at (take (i + 1) pins)) new
tagged_next old mid new pins i pin up whole there is f st =
    let longer : map word_at (take (i + 1) pins) ≡ map word_at (take i pins) ++ word_at pin ∷ [] =
    ap (map word_at) (take_more pins i pin there ∙ ap (λ (q : ℕ). take i pins ++ q ∷ []) (sym is)) ∙ map_push word_at (take i pins) pin in
    subst (λ l. HasTagged old l new) (sym longer) (tagged_more old mid new (map word_at (take i pins)) (word_at pin) (pin_fresh pins i pin up whole there is) f st)
