-- What a copy round works on, and what the words of an area refer to. Words are functions of their numbers.
use Rattle.std.specs.Prelude.{◌≡◌, ℕ, ◌+◌, ◌-◌, ◌*◌, ◌/◌, ◌^◌, ◌<◌, ◌≤◌, ◌⊎◌, Bool, true, List}
use Rattle.sg_words.specs.Address.{byte_at}
use Rattle.sg_words.specs.Tags.{plain_word, pinned_word}
use Rattle.sg_words.specs.Lists.{In}
use Rattle.sg_words.specs.Reach.{Reached}
use Rattle.sg_words.specs.Blocks.{slot_from, card_from}

-- The nursery is from the word `low` to before `high`, where block 0 begins; there are so many blocks; `rows` is the first word behind
-- blocks and pages, and `end` the one behind all sections. Field i of an object of class c holds a strong reference where `strong c i`.
pub record Area : Type 0 where
  pub low : ℕ
  pub high : ℕ
  pub blocks : ℕ
  pub rows : ℕ
  pub end : ℕ
  pub strong : ℕ → ℕ → Bool

-- the limits of an area, for a round of so many workers
pub record IsArea (area : Area) (team : ℕ) : Type 0 where
  pub above : 512 ≤ area.low
  pub nursery : area.low ≤ area.high
  pub heap : area.high + 256 * area.blocks ≤ area.rows
  pub sections : area.rows ≤ area.end
  pub small : area.end ≤ 2 ^ 32
  pub some : 1 ≤ team
  pub most : team ≤ 8

abbrev pub IsYoung : Area → ℕ → Type 0
IsYoung area x = (area.low ≤ x) × (x < area.high)

-- the first word of slot i of block b, whose slots have z words
abbrev pub place : Area → ℕ → ℕ → ℕ → ℕ
place area b z i = slot_from area.high b z i

-- the word has a card, and which
abbrev pub HasCard : Area → ℕ → Type 0
HasCard area x = (area.high ≤ x) × (x < area.rows)

abbrev pub card_at : Area → ℕ → ℕ
card_at area x = card_from area.high x

-- the class in a first word, whichever of its low bits are set
abbrev pub class_of : ℕ → ℕ
class_of v = v / 8 - 1

-- this is the first word of an object of class c that stays where it is: it is pinned or cemented
abbrev pub IsFixed : ℕ → ℕ → Type 0
IsFixed c v = (v ≡ pinned_word c) ⊎ (v ≡ plain_word c + 4)

-- field i of the object whose first word is a holds a strong reference
abbrev pub is_strong : Area → (ℕ → ℕ) → ℕ → ℕ → Bool
is_strong area w a i = area.strong (class_of (w a)) i

-- a strong field of the object a refers to the young object c
abbrev pub Points : Area → (ℕ → ℕ) → ℕ → ℕ → Type 0
Points area w a c = IsYoung area c × ((i : ℕ) × (i < w (a + 1)) × (is_strong area w a i ≡ true) × (w (a + 2 + i) ≡ byte_at c))

-- one of these slots refers to the young object a
abbrev pub Held : Area → (ℕ → ℕ) → List ℕ → ℕ → Type 0
Held area w slots a = IsYoung area a × ((s : ℕ) × In s slots × (w s ≡ byte_at a))

-- the young objects that the slots refer to, and those that strong fields of these refer to
abbrev pub Traces : Area → (ℕ → ℕ) → List ℕ → ℕ → Type 0
Traces area w slots = Reached (Points area w) (Held area w slots)
