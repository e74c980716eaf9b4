-- Lists of a round.
use Rattle.std.proofs.Common.{◌≡◌, ℕ, ◌-◌, ◌<◌, List, [], ◌∷◌, ◌++◌, length, map, take, drop, get_or, refl, ap, ◌∙◌, arith}
use Rattle.std.proofs.lemmas.List.{length-map, length-take, get_or-drop, get_or-append_right, map-append}
use Rattle.sg_words.specs.Address.{word_at}
use Rattle.sg_round.specs.Items.{Item, SlotOf, WholeOf}
use Rattle.sg_copy.specs.declared.gray.Gray.{Gray}
use Rattle.sg_copy.specs.declared.gray.Gray.TheVariants.{Slot, Whole}
use Rattle.sg_copy.specs.Grays.{item_of}
use Rattle.sg_copy.specs.Rounds.{AreItems}

-- what a loop that goes through a list hasn't come to is as it was
pub untouched : {X : Type 0} (f : X → X) (xs ys : List X) (i : ℕ) (d : X) → i < length xs → ys ≡ map f (take i xs) ++ drop i xs → get_or ys i d ≡ get_or xs i d
untouched f xs ys i d l e =
    let len : length (map f (take i xs)) ≡ i = simp (length-map, length-take) (omega arith) in
    ap (λ l. get_or l i d) e ∙ get_or-append_right (map f (take i xs)) (drop i xs) i i d len (omega arith)
    ∙ get_or-drop i xs (i - i) d ∙ ap (λ k. get_or xs k d) (omega arith)

slots-are : (xs : List ℕ) → map item_of (map (λ x. Slot x) xs) ≡ map SlotOf (map word_at xs)
slots-are [] = refl
slots-are (x ∷ xs) = ap (λ (l : List Item). SlotOf (word_at x) ∷ l) (slots-are xs)

wholes-are : (xs : List ℕ) → map item_of (map (λ x. Whole x) xs) ≡ map WholeOf (map word_at xs)
wholes-are [] = refl
wholes-are (x ∷ xs) = ap (λ (l : List Item). WholeOf (word_at x) ∷ l) (wholes-are xs)

-- the items by their addresses
pub are-items : (slots wholes : List ℕ) (items : List Gray) → items ≡ map (λ x. Slot x) slots ++ map (λ x. Whole x) wholes →
    AreItems (map word_at slots) (map word_at wholes) items
are-items slots wholes items e =
    ap (map item_of) e ∙ map-append item_of (map (λ x. Slot x) slots) (map (λ x. Whole x) wholes)
    ∙ ap (λ (l : List Item). l ++ map item_of (map (λ x. Whole x) wholes)) (slots-are slots)
    ∙ ap (λ (l : List Item). map SlotOf (map word_at slots) ++ l) (wholes-are wholes)
