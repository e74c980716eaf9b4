-- What a sink took of a piece, write after write.
use Rattle.std.proofs.Common.{◌≡◌, ℕ, ◌+◌, ◌≤◌, List, ◌++◌, length, take, drop, refl, ap, arith, sym, ◌∙◌, subst, length-drop, length-append, take_at, drop_at}
use Rattle.std.specs.Prelude.{Option}
use Rattle.std.proofs.Math.Seq.{take-add}
use Rattle.std.proofs.KnownBytes.{Appends-trans}
use Rattle.std.specs.Io.KnownBytes.{Appends}
use Rattle.sg_io.specs.Progress.{TakesSome}

take_further : (xs : List ℕ) (m n : ℕ) → take m xs ++ take n (drop m xs) ≡ take (m + n) xs
take_further xs m n = sym (take-add m n xs)

-- what is taken of the rest is within the piece
pub within_further : (piece rest : List ℕ) (at n : ℕ) → at ≤ length piece → rest ≡ drop at piece → n ≤ length rest → at + n ≤ length piece
within_further piece rest at n within e few = omega (arith, ap length e, length-drop at piece)

-- one more write took n bytes of the rest
pub taken_further : (a b c : Option (List ℕ)) (piece rest : List ℕ) (at n : ℕ) → Appends a b (take at piece) → rest ≡ drop at piece → Appends b c (take n rest)
    → Appends a c (take (at + n) piece)
taken_further a b c piece rest at n before e more =
    let last : Appends b c (take n (drop at piece)) = subst (λ l. Appends b c (take n l)) e more in
    subst (Appends a c) (take_further piece at n) (Appends-trans a b c (take at piece) (take n (drop at piece)) before last)

-- one more write failed, and took some first bytes of the rest
pub taken_some : (a b c : Option (List ℕ)) (piece rest : List ℕ) (at : ℕ) → at ≤ length piece → Appends a b (take at piece) → rest ≡ drop at piece
    → TakesSome b c rest → TakesSome a c piece
taken_some a b c piece rest at within before e (n, few, more) =
    (at + n, within_further piece rest at n within e few, taken_further a b c piece rest at n before e more)

-- all of a piece was taken, and some first bytes of the next one: some first bytes of both
pub some_further : (a b c : Option (List ℕ)) (piece next : List ℕ) → Appends a b piece → TakesSome b c next → TakesSome a c (piece ++ next)
some_further a b c piece next first (n, few, more) =
    let within : length piece + n ≤ length (piece ++ next) = omega (arith, length-append piece next) in
    let front : take (length piece) (piece ++ next) ≡ piece = take_at piece next (length piece) refl in
    let rest : drop (length piece) (piece ++ next) ≡ next = drop_at piece next (length piece) refl in
    let both : piece ++ take n next ≡ take (length piece + n) (piece ++ next) =
    sym (ap (λ l. l ++ take n (drop (length piece) (piece ++ next))) front ∙ ap (λ l. piece ++ take n l) rest) ∙ take_further (piece ++ next) (length piece) n in
    (length piece + n, within, subst (Appends a c) both (Appends-trans a b c piece (take n next) first more))
