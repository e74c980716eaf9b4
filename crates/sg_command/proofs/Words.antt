-- The bytes of the words, where there are one, two or three of them.
use Rattle.std.proofs.Common.{◌≡◌, ◌≤◌, ◌<◌, List, [], ◌∷◌, length, get_or, map, sym, ap, arith}

pub map_one : {A B : Type 0} (f : A → B) (xs : List A) (x : A) → 1 ≤ length xs → length xs < 2 → x ≡ get_or xs 0 x → map f xs ≡ f x ∷ []
map_one f [] x some few is = absurd (omega (arith, some))
map_one f (y ∷ []) x some few is = ap (λ z. f z ∷ []) (sym is)
map_one f (y ∷ z ∷ zs) x some few is = absurd (omega (arith, few))

pub map_two : {A B : Type 0} (f : A → B) (xs : List A) (x y : A) → 2 ≤ length xs → length xs < 3 → x ≡ get_or xs 0 x → y ≡ get_or xs 1 y → map f xs ≡ f x ∷ f y ∷ []
map_two f [] x y some few first second = absurd (omega (arith, some))
map_two f (a ∷ []) x y some few first second = absurd (omega (arith, some))
map_two f (a ∷ b ∷ []) x y some few first second = let one : a ≡ x = sym first in let two : b ≡ y = sym second in cc
map_two f (a ∷ b ∷ d ∷ ds) x y some few first second = absurd (omega (arith, few))

pub map_three : {A B : Type 0} (f : A → B) (xs : List A) (x y z : A) → 3 ≤ length xs → length xs < 4 → x ≡ get_or xs 0 x → y ≡ get_or xs 1 y → z ≡ get_or xs 2 z →
    map f xs ≡ f x ∷ f y ∷ f z ∷ []
map_three f [] x y z some few first second third = absurd (omega (arith, some))
map_three f (a ∷ []) x y z some few first second third = absurd (omega (arith, some))
map_three f (a ∷ b ∷ []) x y z some few first second third = absurd (omega (arith, some))
map_three f (a ∷ b ∷ d ∷ []) x y z some few first second third = let one : a ≡ x = sym first in let two : b ≡ y = sym second in let three : d ≡ z = sym third in cc
map_three f (a ∷ b ∷ d ∷ e ∷ es) x y z some few first second third = absurd (omega (arith, few))
