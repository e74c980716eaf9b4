use Rattle.std.proofs.Common.{◌≡◌, ◌+◌, ◌*◌, ◌<◌, ℕ, inl, inr, false, List, [], ◌∷◌, sym, subst, arith}
use Rattle.std.specs.List.{Contains}
use Rattle.sg_words.proofs.Members.{in_contains, in-one, has-cases}
use Rattle.sg_mark.proofs.tests.marked_twice.Goals as goal

abbrev IsOneOfSeven : ℕ → Type 0
IsOneOfSeven a = (j : ℕ) × (j < 7) × (a ≡ 4096 + 32 * j)

one_root : (roots : List ℕ) (v : ℕ) → roots ≡ v ∷ [] → IsOneOfSeven v → (a : ℕ) → Contains roots a → IsOneOfSeven a
one_root roots v e is a c = subst IsOneOfSeven (sym (in-one a v (in_contains a (v ∷ []) (subst (λ (l : List ℕ). Contains l a) e c)))) is

two_roots : (roots : List ℕ) (v w : ℕ) → roots ≡ v ∷ w ∷ [] → IsOneOfSeven v → IsOneOfSeven w → (a : ℕ) → Contains roots a → IsOneOfSeven a
two_roots roots v w e is also a c = elim (has-cases a v (w ∷ []) (in_contains a (v ∷ w ∷ []) (subst (λ (l : List ℕ). Contains l a) e c))) [
  | inl same ↦ subst IsOneOfSeven (sym same) is
  | inr i ↦ subst IsOneOfSeven (sym (in-one a w i)) also
]

pub mark-requires : goal.mark-requires
mark-requires c =
    let q = c.in_ok-space.ensures in
    record {
      can = (c.in_ok-space.space, q.0, λ x. false, q.1 c.as_slice.result.now (one_root c.as_slice.result.now c.at_word.result c.as_slice.ensures (0, omega arith, c.at_word.ensures)));
    }

pub mark-requires-2 : goal.mark-requires-2
mark-requires-2 c =
    let q = c.in_ok-space.ensures in
    let first = q.1 c.as_slice.result.now (one_root c.as_slice.result.now c.at_word.result c.as_slice.ensures (0, omega arith, c.at_word.ensures)) in
    let second = q.1 c.as_slice-2.result.now
    (two_roots c.as_slice-2.result.now c.at_word-2.result c.at_word-3.result c.as_slice-2.ensures (3, omega arith, c.at_word-2.ensures) (5, omega arith, c.at_word-3.ensures)) in
    let marks = c.in_ok-mark.ensures.marked c.in_ok-space.space q.0 (λ x. false) first in
    record {
      can = (
        c.in_ok-space.space,
        q.0,
        marks.now,
        c.marking_law.ensures.again c.in_ok-space.space q.0 (λ x. false) c.in_ok-space.space c.mark.new.space c.as_slice.result.now c.as_slice-2.result.now first marks second.stand,
      );
    }
