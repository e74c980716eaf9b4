-- How deeply repeats stand inside one another: what falls from a repeat to its body.
use Rattle.std.proofs.Common.{◌≡◌, ℕ, zero, suc, ◌+◌, ◌*◌, ◌<◌, max, List, [], ◌∷◌, map, length, get_or, ap, ◌∙◌, arith}
use Rattle.sg_program.specs.declared.program.Item.{Item, out-Item, map-Item, fold-Item, fold_out-Item}
use Rattle.sg_program.specs.declared.program.Item.TheOpen.{Item-F, One, Repeat}

pub most : List ℕ → ℕ
most [] = 0
most (n ∷ ns) = max n (most ns)

abbrev step : Item-F ℕ → ℕ
step (One s) = 0
step (Repeat times body) = suc (most body)

abbrev pub depth : Item → ℕ
depth = fold-Item ℕ step

abbrev pub depths : List Item → ℕ
depths items = most (map depth items)

pub body_below : (item : Item) (times : ℕ) (body : List Item) → out-Item item ≡ Repeat times body → 2 * depths body + 1 < 2 * depth item
body_below item times body e =
    let q : depth item ≡ suc (depths body) = fold_out-Item ℕ step item ∙ ap (λ x. step (map-Item Item ℕ depth x)) e in omega arith

pub item_below : (items : List Item) (i : ℕ) (d : Item) → i < length items → 2 * depth (get_or items i d) < 2 * depths items + 1
unfolding most
item_below [] i d l = absurd (omega arith)
item_below (item ∷ items) zero d l = omega arith
item_below (item ∷ items) (suc i) d l = let h = item_below items i d (omega arith) in omega arith
