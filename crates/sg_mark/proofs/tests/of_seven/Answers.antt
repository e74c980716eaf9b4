use Rattle.std.proofs.Common.{◌≡◌, ℕ, inl, inr, List, length, slice_index, slice_set, replicate, sym, ap, ◌∙◌, subst, arith}
use Rattle.std.proofs.lemmas.List.{get_or-replicate, get_or_past, length-replicate}
use Rattle.std.proofs.lemmas.Bool.{cases_lt}
use Rattle.sg_desc.specs.declared.shapes.Shape.{Shape}
use Rattle.sg_space.specs.Space.{Contents, IsContents, clear_space}
use Rattle.sg_space.specs.Standing.{word}
use Rattle.sg_mark.specs.Marking.{CanMark}
use Rattle.sg_mark.proofs.Seven.{layout, shapes, owner_of, seven_space, can}
use Rattle.sg_mark.proofs.tests.of_seven.Goals as goal

step_next : Contents → Contents
step_next t = record t { next = slice_set t.next 0 4320 }

zeroes : ℕ → List ℕ
zeroes n = replicate n 0

zeros : (n x : ℕ) → slice_index (replicate n 0) x ≡ 0
unfolding zeroes
zeros n x = elim (cases_lt x n) [
  | inl l ↦ get_or-replicate n x 0 0 l
  | inr l ↦ let size : length (zeroes n) ≡ n = length-replicate n 0 in get_or_past (zeroes n) x 0 (omega arith)
]

made : (s0 s1 s2 : Contents) (kinds : List Shape) → s0 ≡ clear_space layout kinds → kinds ≡ shapes → s1 ≡ record s0 { next = slice_set s0.next 0 4320 } →
    s2 ≡ record s1 { words = s2.words } → s2 ≡ seven_space s2.words
unfolding step_next
made s0 s1 s2 kinds e0 k e1 e2 =
    e2 ∙ ap (λ (t : Contents). record t { words = s2.words }) (e1 ∙ ap step_next (e0 ∙ ap (clear_space layout) k))

empty : (s0 s1 : Contents) (kinds : List Shape) → s0 ≡ clear_space layout kinds → s1 ≡ record s0 { next = slice_set s0.next 0 4320 } → (x : ℕ) → word s1 x ≡ 0
empty s0 s1 kinds e0 e1 x = ap (λ (t : Contents). word t x) e1 ∙ ap (λ (t : Contents). word t x) e0 ∙ zeros 2176 x

pub returns : goal.returns
returns c =
    let new = c.fill.new.space in
    let kinds = c.as_slice.ensures in
    let words = c.as_slice-2.ensures in
    let is = made c.in_ok-space.space c.set_next.new.self new c.as_slice.result.now c.in_ok-space.ensures.clear kinds c.set_next.ensures c.fill.ensures.still in
    let long : length c.as_slice-2.result.now ≡ 28 = ap length words in (
      owner_of,
      λ roots some. subst (λ (s : Contents). CanMark s owner_of _ s roots) (sym is)
          (can new.words (subst IsContents is c.layout.ensures.contents)
          (λ i l. c.fill.ensures.written i (omega arith) ∙ ap (λ (xs : List ℕ). slice_index xs i) words)
          (λ x out. c.fill.ensures.others x (elim out [ inl l ↦ inl l | inr l ↦ inr (omega arith) ]) ∙ empty c.in_ok-space.space c.set_next.new.self c.as_slice.result.now c.in_ok-space.ensures.clear c.set_next.ensures x)
          roots some),
    )
