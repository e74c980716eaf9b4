-- The items of a worker's list as the rules see them.
use Rattle.std.specs.Prelude.{◌^◌, ◌<◌, ◌≤◌}
use Rattle.sg_words.specs.Address.{word_at}
use Rattle.sg_round.specs.Items.{Item, SlotOf, WholeOf}
use Rattle.sg_copy.specs.declared.gray.Gray.{Gray}
use Rattle.sg_copy.specs.declared.gray.Gray.TheVariants.{Slot, Whole}

abbrev pub item_of : Gray → Item
item_of (Slot at) = SlotOf (word_at at)
item_of (Whole at) = WholeOf (word_at at)

-- the item's word has an address
abbrev pub IsCellItem : Item → Type 0
IsCellItem (SlotOf s) = (512 ≤ s) × (s < 2 ^ 37)
IsCellItem (WholeOf t) = (512 ≤ t) × (t < 2 ^ 37)
