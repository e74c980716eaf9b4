-- What a round of copying by one worker asks of a space, and what it makes of it.
use Rattle.std.specs.Prelude.{◌≡◌, ◌≢◌, ℕ, ◌<◌, ◌⊎◌, Bool, true, false, Option, Some, None, List, ◌++◌, map, length, slice_index, slice_get}
use Rattle.std.specs.Int.{bit_at}
use Rattle.sg_words.specs.Address.{byte_at}
use Rattle.sg_words.specs.Lists.{In}
use Rattle.sg_words.specs.Objects.{size_of}
use Rattle.sg_words.specs.Reach.{AreDistinct}
use Rattle.sg_words.specs.Blocks.{IsSizeClass, slot_size, slots}
use Rattle.sg_words.specs.Sections.{nursery_base, old_base, globals_base, words_end}
use Rattle.sg_words.specs.declared.layout.Layout.{Layout}
use Rattle.sg_words.specs.declared.pieces.Move.{Move}
use Rattle.sg_words.specs.declared.steps.BlockWord.TheVariants.{Free, Swept}
use Rattle.sg_desc.specs.declared.shapes.Shape.{Shape}
use Rattle.sg_desc.specs.Shapes.{is_strong}
use Rattle.sg_space.specs.Space.{Contents, IsContents}
use Rattle.sg_space.specs.Standing.{word, block_in, used_in}
use Rattle.sg_round.specs.Area.{Area, IsYoung, HasCard, place, card_at}
use Rattle.sg_round.specs.Image.{IsImage}
use Rattle.sg_round.specs.Order.{IsInOrder, strong_of}
use Rattle.sg_round.specs.Round.{IsOpening, AreZoned, Slot, IsPassed, IsTaken}

-- whether field i of an object of this shape holds a reference that keeps its object
abbrev pub is_strong_in : Option Shape → ℕ → Bool
is_strong_in (Some shape) i = is_strong shape.kind i shape.fields
is_strong_in None i = false

-- the area of a round is the nursery, the blocks, the pages and the rows of the space
abbrev pub area_by : Layout → List Shape → Area
area_by layout shapes = record {
  low = nursery_base;
  high = old_base layout;
  blocks = layout.blocks;
  rows = globals_base layout;
  end = words_end layout;
  strong = λ c i. is_strong_in (slice_get shapes c) i;
}

abbrev pub area_of : Contents → Area
area_of s = area_by s.layout s.shapes

-- the slots of all items: these, and the strong fields of the objects that are items as wholes
abbrev pub items_of : Contents → List ℕ → List ℕ → List ℕ
items_of s slots wholes = slots ++ strong_of (area_of s) (word s) wholes

-- What a round asks of a space: what is true of every space; the opening, for some set `zone` of words that are in no object and in no
-- occupied slot; that the words of slots that can be claimed are among these; and that no slot comes twice.
pub record CanCopy (s : Contents) (slots wholes : List ℕ) : Type 0 where
  pub contents : IsContents s
  pub zone : ℕ → Bool
  pub opening : IsOpening (area_of s) (word s) (items_of s slots wholes) wholes zone
  pub zoned : AreZoned (area_of s) (block_in s) (used_in s) zone
  pub once : AreDistinct (items_of s slots wholes)

-- nothing but words, cards, block words and occupancies differs, and there are as many of each
pub record IsStillBeside (old new : Contents) : Type 0 where
  pub same : new ≡ record old { words = new.words; cards = new.cards; blocks = new.blocks; used = new.used }
  pub words : length new.words ≡ length old.words
  pub cards : length new.cards ≡ length old.cards
  pub blocks : length new.blocks ≡ length old.blocks
  pub used : length new.used ≡ length old.used

-- the word of card c
abbrev pub card_in : Contents → ℕ → ℕ
card_in s c = slice_index s.cards c

-- a slot of the round from this space: an item's, or a strong field of a copy or of an object that failed
abbrev pub IsSlotOf : Contents → List ℕ → List ℕ → (ℕ → ℕ) → List ℕ → List ℕ → ℕ → Type 0
IsSlotOf old slots wholes m went stayed s = Slot (area_of old) (word old) (items_of old slots wholes) m went stayed s

-- the slot has a card and still refers to a young object
pub record NeedsCard (old new : Contents) (s : ℕ) : Type 0 where
  pub card : HasCard (area_of old) s
  pub target : ℕ
  pub young : IsYoung (area_of old) target
  pub refers : word new s ≡ byte_at target

-- the card of each such slot of the round is dirty, and no other card changes
pub record AreMarked (old : Contents) (slots wholes : List ℕ) (m : ℕ → ℕ) (went stayed : List ℕ) (new : Contents) : Type 0 where
  pub dirty : (s : ℕ) → IsSlotOf old slots wholes m went stayed s → NeedsCard old new s → card_in new (card_at (area_of old) s) ≢ 0
  pub kept : (c : ℕ) → card_in old c ≢ 0 → card_in new c ≢ 0
  pub others : (c : ℕ) → (card_in new c ≡ card_in old c)
      ⊎ ((card_in new c ≡ 1) × ((s : ℕ) × IsSlotOf old slots wholes m went stayed s × NeedsCard old new s × (c ≡ card_at (area_of old) s)))

-- A block's word changes from Free to Swept alone, and no bit falls. Each moved object is at a slot of its size that was clear, and each
-- slot that was clear and isn't is the place of one.
pub record AreFilled (old : Contents) (m : ℕ → ℕ) (went : List ℕ) (new : Contents) : Type 0 where
  pub opened : (b : ℕ) →
      (block_in new b ≡ block_in old b) ⊎ ((b < old.layout.blocks) × (block_in old b ≡ Free) × ((z : ℕ) × IsSizeClass z × (block_in new b ≡ Swept z)))
  pub risen : (b i : ℕ) → bit_at (used_in new b) i ≡ 0 → bit_at (used_in old b) i ≡ 0
  pub homes : (a : ℕ) → In a went → IsTaken (area_of old) (block_in new) (used_in old) (used_in new) (m a) (slot_size (size_of (word old) a))
  pub bits : (b i : ℕ) → bit_at (used_in new b) i ≡ 1 → bit_at (used_in old b) i ≡ 0 →
      (z : ℕ) × IsSizeClass z × (b < old.layout.blocks) × (i < slots z) × (block_in new b ≡ Swept z) × ((a : ℕ) × In a went × (m a ≡ place (area_of old) b z i))

-- an object that moved, by its byte addresses before and after
abbrev pub moved_by : (ℕ → ℕ) → ℕ → Move
moved_by m a = record { from = byte_at a; to = byte_at (m a) }

-- The space is the image of the old one by a round of one worker over these slots and whole objects, which leaves no spare slot. The
-- objects that went moved to m, and those that stayed failed, both in the order in which they were found; where the copies stand is
-- said by `order` and by `blocks`. An object failed only where no block is Free and each block of its size is full.
pub record HasCopiedTo (old : Contents) (slots wholes : List ℕ) (new : Contents) (moves : List Move) (fails : List ℕ) : Type 0 where
  pub still : IsStillBeside old new
  pub m : ℕ → ℕ
  pub went : List ℕ
  pub stayed : List ℕ
  pub image : IsImage (area_of old) (word old) (items_of old slots wholes) (λ _. true) went stayed m (word new) (λ _. false)
  pub cards : AreMarked old slots wholes m went stayed new
  pub blocks : AreFilled old m went new
  pub full : (a b : ℕ) → In a stayed → b < old.layout.blocks → IsPassed (block_in new) (used_in new) (slot_size (size_of (word old) a)) b
  pub order : IsInOrder (area_of old) (word old) (items_of old slots wholes) m (block_in old) (used_in old) went stayed (block_in new) (used_in new)
  pub told_moves : moves ≡ map (moved_by m) went
  pub told_fails : fails ≡ map byte_at stayed
