-- The items of a round, their words in offer cells, and the slots that they stand for.
use Rattle.std.specs.Prelude.{◌≡◌, ℕ, ◌+◌, ◌*◌, ◌%◌, ◌⊎◌, List, [], ◌∷◌, ◌++◌}
use Rattle.sg_words.specs.Address.{byte_at}
use Rattle.sg_words.specs.Objects.{strong_slots}
use Rattle.sg_round.specs.Area.{Area, class_of}

-- the slot s, or the strong slots of the object t
pub data Item : Type 0 where
  SlotOf : (s : ℕ) → Item
  WholeOf : (t : ℕ) → Item

-- what an offer cell with the item holds; an empty one holds 0
abbrev pub cell_word : Item → ℕ
cell_word (SlotOf s) = byte_at s + 1
cell_word (WholeOf t) = byte_at t + 2

-- the i-th own cell of worker k, and the i-th at which it looks for an item: its own first, and then those of the workers after it
abbrev pub own_cell : ℕ → ℕ → ℕ
own_cell k i = 8 * k + i

abbrev pub looked_cell : ℕ → ℕ → ℕ → ℕ
looked_cell team k i = (8 * k + i) % (8 * team)

-- the strong slots among the n fields of an object of class c at `at`
abbrev pub slots_by : Area → ℕ → ℕ → ℕ → List ℕ
slots_by area c at n = strong_slots (area.strong c) at 0 n

-- the slots of an item, where each word y is the opening's word `source y`
abbrev pub slots_in : Area → (ℕ → ℕ) → (ℕ → ℕ) → Item → List ℕ
slots_in area w source (SlotOf s) = s ∷ []
slots_in area w source (WholeOf t) = slots_by area (class_of (w (source t))) t (w (source (t + 1)))

-- the slots of these items, in order
abbrev pub slots_of : Area → (ℕ → ℕ) → (ℕ → ℕ) → List Item → List ℕ
slots_of area w source [] = []
slots_of area w source (item ∷ items) = slots_in area w source item ++ slots_of area w source items

-- one of the items is the object t
abbrev pub HasWhole : ℕ → List Item → Type 0
HasWhole t [] = ⊥
HasWhole t (SlotOf s ∷ items) = HasWhole t items
HasWhole t (WholeOf u ∷ items) = (t ≡ u) ⊎ HasWhole t items
