-- How many statements items do, of all or of those `final`.
use Rattle.std.specs.Prelude.{ℕ, ◌-◌, ◌^◌, min, Bool, true, false, List}
use Rattle.std.specs.List.{count_by}
use Rattle.sg_program.specs.declared.program.Statement.{Statement}
use Rattle.sg_program.specs.declared.program.Item.{Item}
use Rattle.sg_program.specs.Scripts.{is_final, item_out, written_out}

-- whether a statement is counted: each one, or the statements `final` alone
abbrev pub is_counted : Bool → Statement → Bool
is_counted true s = is_final s
is_counted false s = true

-- the number, held at the greatest one of 64 bits
abbrev pub capped : ℕ → ℕ
capped n = min n (2 ^ 64 - 1)

-- how many counted statements an item does, repeats counted
abbrev pub weight : Bool → Item → ℕ
weight finals item = count_by (is_counted finals) (item_out item)

-- the same of several items
abbrev pub weight_of_all : Bool → List Item → ℕ
weight_of_all finals items = count_by (is_counted finals) (written_out items)
