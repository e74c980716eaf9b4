-- The place of a new object at a stop: at the front of the lowest fragment that has room, or in the first clear slot of the major heap.
use Rattle.std.specs.Prelude.{◌≡◌, ◌≢◌, ℕ, ◌+◌, ◌%◌, ◌^◌, ◌<◌, ◌≤◌, ◌⊎◌, length, slice_index, slice_set}
use Rattle.std.specs.Int.{bit_at}
use Rattle.std.specs.Int.Bits.{bit_or}
use Rattle.sg_words.specs.Address.{byte_at, word_at}
use Rattle.sg_words.specs.Tags.{plain_word}
use Rattle.sg_words.specs.Sections.{nursery_base, old_base}
use Rattle.sg_words.specs.Blocks.{slots, slot_base}
use Rattle.sg_words.specs.declared.steps.BlockWord.TheVariants.{Free, Swept}
use Rattle.sg_program.specs.declared.program.Program.{Program}
use Rattle.sg_program.specs.declared.program.Statement.{Statement}
use Rattle.sg_program.specs.declared.program.Statement.TheVariants.{New, NewV, Mature, Collect, Sections}
use Rattle.sg_program.specs.declared.answers.Answer.{Answer}
use Rattle.sg_program.specs.declared.answers.Answer.TheVariants.{At, Fine, Full}
use Rattle.sg_program.specs.Scripts.{fields_of, words_for}
use Rattle.sg_graph.specs.Book.{slot_words}
use Rattle.sg_space.specs.Space.{Contents}
use Rattle.sg_space.specs.Standing.{block_in, used_in}
use Rattle.sg_placing.specs.declared.placing.Room.{Room}
use Rattle.sg_placing.specs.declared.placing.Room.TheVariants.{Fragments, SlotsToo}

-- each fragment ends in the nursery
abbrev pub EndsInside : Contents → Type 0
EndsInside s = (f : ℕ) → f < length s.ends → word_at (slice_index s.ends f) ≤ old_base s.layout

-- the next words are byte addresses of words from the nursery's first one on
abbrev pub HasByteAddresses : Contents → Type 0
HasByteAddresses s = (f : ℕ) → f < length s.ends → (byte_at nursery_base ≤ slice_index s.next f) × (slice_index s.next f % 8 ≡ 0)

-- fragment f has n words left
abbrev pub HasWords : Contents → ℕ → ℕ → Type 0
HasWords s n f = slice_index s.next f + byte_at n ≤ slice_index s.ends f

-- fragment f has fewer than n words left
abbrev pub LacksWords : Contents → ℕ → ℕ → Type 0
LacksWords s n f = slice_index s.ends f < slice_index s.next f + byte_at n

-- no fragment has n words left
abbrev pub HasNowhere : Contents → ℕ → Type 0
HasNowhere s n = (f : ℕ) → f < length s.ends → LacksWords s n f

-- the space with the header of an object of this class, and with so many fields, at the word x
abbrev pub headed : Contents → ℕ → ℕ → ℕ → Contents
headed s x class fields = record s { words = slice_set (slice_set s.words (x + 1) fields) x (plain_word class) }

-- Fragment f is the lowest one with room for a new object of this class, and with so many fields. It gives its front, whose
-- byte address is a: its next word is the one behind the object, whose header is written, and nothing else changes.
pub record HoldsNew (s : Contents) (class fields : ℕ) (t : Contents) (a : ℕ) : Type 0 where
  pub fragment : ℕ
  pub there : fragment < length s.ends
  pub room : HasWords s (words_for fields) fragment
  pub lowest : (j : ℕ) → j < fragment → LacksWords s (words_for fields) j
  pub at : a ≡ slice_index s.next fragment
  pub after : t ≡ headed (record s { next = slice_set s.next fragment (a + byte_at (words_for fields)) }) (word_at a) class fields

-- slot i is the lowest clear one of block c, which is free or has slots of z words
pub record HasClearSlot (s : Contents) (z c i : ℕ) : Type 0 where
  pub fits : i < slots z
  pub state : ((block_in s c ≡ Free) × (i ≡ 0)) ⊎ ((block_in s c ≡ Swept z) × (bit_at (used_in s c) i ≡ 0) × ((k : ℕ) → k < i → bit_at (used_in s c) k ≡ 1))

-- block c isn't free, and where it has slots of z words each of them is occupied
pub record LacksClearSlot (s : Contents) (z c : ℕ) : Type 0 where
  pub taken : block_in s c ≢ Free
  pub full : block_in s c ≡ Swept z → (i : ℕ) → i < slots z → bit_at (used_in s c) i ≡ 1

-- no block is free, or has a clear slot of z words
abbrev pub HasNoClearSlot : Contents → ℕ → Type 0
HasNoClearSlot s z = (c : ℕ) → c < length s.blocks → LacksClearSlot s z c

-- the space where block c has slots of z words, of which slot i is occupied too
abbrev pub occupied : Contents → ℕ → ℕ → ℕ → Contents
occupied s c z i = record s { blocks = slice_set s.blocks c (Swept z); used = slice_set s.used c (bit_or (used_in s c) (2 ^ i)) }

-- The first block that is free, or has a clear slot for a new object of this class, and with so many fields, gives its lowest clear one, whose
-- byte address is a: the slot is occupied, the object's header is written, and nothing else changes.
pub record FillsSlot (s : Contents) (class fields : ℕ) (t : Contents) (a : ℕ) : Type 0 where
  pub block : ℕ
  pub slot : ℕ
  pub there : block < length s.blocks
  pub clear : HasClearSlot s (slot_words fields) block slot
  pub below : (c : ℕ) → c < block → LacksClearSlot s (slot_words fields) c
  pub at : a ≡ byte_at (slot_base s.layout block (slot_words fields) slot)
  pub after : t ≡ headed (occupied s block (slot_words fields) slot) (word_at a) class fields

-- a new object of this class, with so many fields, stands in a slot at this answer's address, or there is none for it
abbrev pub IsMadeOld : Contents → ℕ → ℕ → Answer → Contents → Type 0
IsMadeOld s class fields (At a) t = FillsSlot s class fields t a
IsMadeOld s class fields Full t = HasNoClearSlot s (slot_words fields) × (t ≡ s)
IsMadeOld s class fields answer t = ⊥

-- A new object of this class, with so many fields, stands at this answer's address, or has no place. Where slots are given too, it takes one
-- only where no fragment has room.
abbrev pub IsMade : Room → Contents → ℕ → ℕ → Answer → Contents → Type 0
IsMade Fragments s class fields (At a) t = HoldsNew s class fields t a
IsMade Fragments s class fields Full t = HasNowhere s (words_for fields) × (t ≡ s)
IsMade SlotsToo s class fields (At a) t = HoldsNew s class fields t a ⊎ (HasNowhere s (words_for fields) × FillsSlot s class fields t a)
IsMade SlotsToo s class fields Full t = HasNowhere s (words_for fields) × HasNoClearSlot s (slot_words fields) × (t ≡ s)
IsMade room s class fields answer t = ⊥

-- The statement's answer at a stop, and what becomes of the space. An object that is made in the major heap stands in a slot, wherever those
-- of the nursery may be placed.
abbrev pub IsServing : Program → Room → Contents → Statement → Answer → Contents → Type 0
IsServing p room s (New r class) answer t = IsMade room s class (fields_of p class) answer t
IsServing p room s (NewV r class count) answer t = IsMade room s class count answer t
IsServing p room s (Mature r class) answer t = IsMadeOld s class (fields_of p class) answer t
IsServing p room s (Collect major) Fine t = t ≡ s
IsServing p room s Sections Fine t = t ≡ s
IsServing p room s statement answer t = ⊥
