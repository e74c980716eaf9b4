-- A script does at least as many statements as are written.
use Rattle.std.proofs.Common.{ℕ, zero, suc, ◌≤◌, List, [], ◌∷◌, map, length, ap, ◌∙◌, subst, arith}
use Rattle.std.specs.List.{AllByRecursion, flat_map}
use Rattle.std.proofs.lemmas.List.{length-append}
use Rattle.std.proofs.lemmas.List.Folds.{flat_map-map}
use Rattle.sg_program.specs.declared.program.Statement.{Statement}
use Rattle.sg_program.specs.declared.program.Item.{Item, roll-Item, map-Item, ind-Item, fold-roll-Item}
use Rattle.sg_program.specs.declared.program.Item.TheOpen.{Item-F, One, Repeat}
use Rattle.sg_program.specs.Scripts.{repeated, statements_of, texts_of, item_out, written_out, item_text, written}
use Rattle.sg_program.specs.Limits.{most_times}
use Rattle.sg_program.specs.Invariants.{times_step, item_times}
use Rattle.sg_words.proofs.Everywhere.{all_front, all_back}

abbrev IsTimes : ℕ → Type 0
IsTimes n = (1 ≤ n) × (n ≤ most_times)

abbrev IsLonger : Item → Type 0
IsLonger item = AllByRecursion IsTimes (item_times item) → length (item_text item) ≤ length (item_out item)

abbrev item_of : ((item : Item) × IsLonger item) → Item
item_of e = e.0

longer_repeated : (n : ℕ) (xs : List Statement) → 1 ≤ n → length xs ≤ length (repeated n xs)
longer_repeated zero xs l = absurd (omega arith)
longer_repeated (suc n) xs l = omega (arith, length-append xs (repeated n xs))

longer_body : (body : List ((item : Item) × IsLonger item)) → AllByRecursion IsTimes (flat_map item_times (map item_of body)) →
    length (written (map item_of body)) ≤ length (written_out (map item_of body))
longer_body [] h = omega arith
longer_body (e ∷ body) h =
    let rest = map item_of body in
    let first = e.1 (all_front IsTimes (item_times e.0) (flat_map item_times rest) h) in
    let behind = longer_body body (all_back IsTimes (item_times e.0) (flat_map item_times rest) h) in
    omega (arith, length-append (item_text e.0) (written rest), length-append (item_out e.0) (written_out rest))

longer_layer : (y : Item-F ((item : Item) × IsLonger item)) → IsLonger (roll-Item (map-Item _ _ item_of y))
longer_layer (One s) h =
    let x : Item-F Item = One s in
    omega (arith, ap length (fold-roll-Item (List Statement) texts_of x), ap length (fold-roll-Item (List Statement) statements_of x))
longer_layer (Repeat times body) h =
    let x : Item-F Item = Repeat times (map item_of body) in
    let g = subst (AllByRecursion IsTimes) (fold-roll-Item (List ℕ) times_step x ∙ ap (λ (ns : List ℕ). times ∷ ns) (flat_map-map (λ ns. ns) item_times (map item_of body))) h in
    let inside = longer_body body g.1 in
    let more = longer_repeated times (written_out (map item_of body)) g.0.0 in
    let text = ap length (fold-roll-Item (List Statement) texts_of x ∙ flat_map-map (λ ys. ys) item_text (map item_of body)) in
    let out = ap length (fold-roll-Item (List Statement) statements_of x ∙ ap (repeated times) (flat_map-map (λ ys. ys) item_out (map item_of body))) in
    omega arith

longer_item : (item : Item) → IsLonger item
longer_item = ind-Item IsLonger (λ x y is. subst (λ z. IsLonger (roll-Item z)) is (longer_layer y))

pub longer : (items : List Item) → AllByRecursion IsTimes (flat_map item_times items) → length (written items) ≤ length (written_out items)
longer [] h = omega arith
longer (item ∷ items) h =
    let first = longer_item item (all_front IsTimes (item_times item) (flat_map item_times items) h) in
    let behind = longer items (all_back IsTimes (item_times item) (flat_map item_times items) h) in
    omega (arith, length-append (item_text item) (written items), length-append (item_out item) (written_out items))
