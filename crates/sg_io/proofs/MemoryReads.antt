-- What a read that copies as much as it can does to the bytes left.
use Rattle.std.proofs.Common.{◌≡◌, ℕ, ◌+◌, ◌-◌, ◌<◌, ◌≤◌, min, List, [], ◌++◌, length, take, drop, sym, ap, ◌∙◌, arith, take-append-drop}
use Rattle.std.proofs.lemmas.List.{take_at, drop_all, length-take-le, take_rest, drop-drop}

-- the bytes given and those that are left make up the bytes that were left
read_front : (left old now : List ℕ) (n : ℕ) → n ≡ min (length old) (length left) → now ≡ take n left ++ drop n old
    → left ≡ take n now ++ drop n left
read_front left old now n count copied =
    let within : n ≤ length left = omega arith in
    let front : take n now ≡ take n left = ap (take n) copied ∙ take_at (take n left) (drop n old) n (length-take-le n left within) in
    sym (take-append-drop n left) ∙ ap (λ l. l ++ drop n left) (sym front)

-- a buffer with room gets nothing only at the end
read_end : (left old now : List ℕ) (n : ℕ) → n ≡ min (length old) (length left) → length now ≡ length old
    → n ≡ 0 → 0 < length now → drop n left ≡ []
read_end left old now n count same none room =
    let short : length left ≤ n = omega arith in drop_all n left short

-- both, where the bytes left are all that stand from a place on
pub read_from : (all left viewed old now : List ℕ) (at n : ℕ) → viewed ≡ all → left ≡ drop at all
    → n ≡ min (length old) (length (take (length viewed - at) (drop at viewed)))
    → now ≡ take n (take (length viewed - at) (drop at viewed)) ++ drop n old
    → length now ≡ length old
    → (left ≡ take n now ++ drop (at + n) all) × (n ≡ 0 → 0 < length now → drop (at + n) all ≡ [])
read_from all left viewed old now at n e l count copied same =
    let whole : take (length viewed - at) (drop at viewed) ≡ left = take_rest viewed at ∙ ap (drop at) e ∙ sym l in
    let count_left : n ≡ min (length old) (length left) = count ∙ ap (λ s. min (length old) (length s)) whole in
    let copied_left : now ≡ take n left ++ drop n old = copied ∙ ap (λ s. take n s ++ drop n old) whole in
    let rest : drop n left ≡ drop (at + n) all = ap (drop n) l ∙ drop-drop n at all in (
      read_front left old now n count_left copied_left ∙ ap (λ s. take n now ++ s) rest,
      λ none room. sym rest ∙ read_end left old now n count_left same none room,
    )
