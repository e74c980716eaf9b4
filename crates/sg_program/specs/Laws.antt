-- What items do and what they are in the text.
use Rattle.std.specs.Prelude.{◌≡◌, ℕ, List, [], ◌∷◌}
use Rattle.std.specs.List.{Contains, AllByRecursion}
use Rattle.sg_program.specs.declared.program.Statement.{Statement}
use Rattle.sg_program.specs.declared.program.Item.{Item, out-Item}
use Rattle.sg_program.specs.declared.program.Item.TheOpen.{One, Repeat}
use Rattle.sg_program.specs.Scripts.{repeated, item_out, written_out, item_text, written}
use Rattle.sg_program.specs.Kinds.{first_kinds, HasNoMisuse}
use Rattle.sg_program.specs.Invariants.{HasOperands, FindKinds}

-- an item does and has in the text its statement, or what its body does so many times, and has once
pub record ItemsUnfold : Type 0 where
  pub out_one : (item : Item) (s : Statement) → out-Item item ≡ One s → item_out item ≡ s ∷ []
  pub out_repeat : (item : Item) (times : ℕ) (body : List Item) → out-Item item ≡ Repeat times body → item_out item ≡ repeated times (written_out body)
  pub text_one : (item : Item) (s : Statement) → out-Item item ≡ One s → item_text item ≡ s ∷ []
  pub text_repeat : (item : Item) (times : ℕ) (body : List Item) → out-Item item ≡ Repeat times body → item_text item ≡ written body

-- each statement that items do is written, and items without misuse find, with repeats written out, the kinds that they need
pub record ItemsDoWhatIsWritten : Type 0 where
  pub each : (items : List Item) (s : Statement) → Contains (written_out items) s → Contains (written items) s
  pub kinds : (items : List Item) → AllByRecursion HasOperands (written items) → HasNoMisuse items → FindKinds first_kinds (written_out items)
