-- What items do and what they are in the text, item by item.
use Rattle.std.proofs.Common.{◌≡◌, ℕ, List, [], ◌∷◌, ap, ◌∙◌}
use Rattle.std.proofs.lemmas.List.Folds.{flat_map-map}
use Rattle.sg_program.specs.declared.program.Statement.{Statement}
use Rattle.sg_program.specs.declared.program.Item.{Item, out-Item, map-Item, fold_out-Item}
use Rattle.sg_program.specs.declared.program.Item.TheOpen.{One, Repeat}
use Rattle.sg_program.specs.Laws.{ItemsUnfold}
use Rattle.sg_program.specs.Scripts.{repeated, statements_of, item_out, written_out, texts_of, item_text, written}

pub out_one : (item : Item) (s : Statement) → out-Item item ≡ One s → item_out item ≡ s ∷ []
out_one item s e = fold_out-Item (List Statement) statements_of item ∙ ap (λ x. statements_of (map-Item Item (List Statement) item_out x)) e

pub out_repeat : (item : Item) (times : ℕ) (body : List Item) → out-Item item ≡ Repeat times body → item_out item ≡ repeated times (written_out body)
out_repeat item times body e =
    fold_out-Item (List Statement) statements_of item ∙ ap (λ x. statements_of (map-Item Item (List Statement) item_out x)) e ∙ ap (repeated times) (flat_map-map (λ ys. ys) item_out body)

pub text_one : (item : Item) (s : Statement) → out-Item item ≡ One s → item_text item ≡ s ∷ []
text_one item s e = fold_out-Item (List Statement) texts_of item ∙ ap (λ x. texts_of (map-Item Item (List Statement) item_text x)) e

pub text_repeat : (item : Item) (times : ℕ) (body : List Item) → out-Item item ≡ Repeat times body → item_text item ≡ written body
text_repeat item times body e =
    fold_out-Item (List Statement) texts_of item ∙ ap (λ x. texts_of (map-Item Item (List Statement) item_text x)) e ∙ flat_map-map (λ ys. ys) item_text body

pub items_unfold : ItemsUnfold
items_unfold = record { out_one = out_one; out_repeat = out_repeat; text_one = text_one; text_repeat = text_repeat }
