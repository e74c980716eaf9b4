-- The words in a mutator's hands, written one behind another.
use Rattle.std.proofs.Common.{◌≡◌, ℕ, ◌+◌, ◌-◌, ◌<◌, List, [], ◌∷◌, ◌++◌, length, take, get_or, reverse, slice_set, sym, ap, ◌∙◌, append_assoc, arith}
use Rattle.std.proofs.lemmas.List.{take_more_set, take_more, get_or-map, get_or-reverse, length-map, length-reverse}
use Rattle.sg_actor.specs.declared.mutator.Held.{Held}
use Rattle.sg_actor.specs.State.{words_down}

pub length_of_down : (stack : List Held) → length (words_down stack) ≡ length stack
length_of_down stack = length-map (reverse stack) (λ (h : Held). h.word) ∙ length-reverse stack

-- one word more
pub down_more : (stack : List Held) (before into : List ℕ) (i : ℕ) (d : Held) → take (16 + i) into ≡ before ++ take i (words_down stack) → 16 + i < length into → i < length stack →
    take (16 + (i + 1)) (slice_set into (16 + i) (get_or stack (length stack - 1 - i) d).word) ≡ before ++ take (i + 1) (words_down stack)
down_more stack before into i d so room l =
    let word = (get_or stack (length stack - 1 - i) d).word in
    let fits : i < length (reverse stack) = omega (arith, length-reverse stack) in
    let inside : i < length (words_down stack) = omega (arith, length_of_down stack) in
    let at : get_or (words_down stack) i d.word ≡ word = get_or-map (λ (h : Held). h.word) (reverse stack) i d d.word fits ∙ ap (λ (h : Held). h.word) (get_or-reverse stack i d l) in
    let one : 16 + (i + 1) ≡ (16 + i) + 1 = omega arith in
    ap (λ n. take n (slice_set into (16 + i) word)) one
    ∙ take_more_set into (16 + i) word room
    ∙ ap (λ ys. ys ++ word ∷ []) so
    ∙ append_assoc before (take i (words_down stack)) (word ∷ [])
    ∙ ap (λ ys. before ++ ys) (ap (λ w. take i (words_down stack) ++ w ∷ []) (sym at) ∙ sym (take_more (words_down stack) i d.word inside))
