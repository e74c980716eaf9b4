-- A copy round: what it begins with, and how its words stand to the opening while it is under way.
use Rattle.std.specs.Prelude.{◌≡◌, ◌≢◌, ℕ, ◌+◌, ◌≤◌, ◌<◌, ◌⊎◌, Bool, true, false, if◌then◌else◌, List, [], length}
use Rattle.std.specs.Int.{bit_at}
use Rattle.sg_words.specs.Address.{byte_at}
use Rattle.sg_words.specs.Tags.{plain_word, forward_word}
use Rattle.sg_words.specs.Lists.{In, has}
use Rattle.sg_words.specs.Objects.{size_of, sent}
use Rattle.sg_words.specs.Reach.{AreDistinct}
use Rattle.sg_words.specs.Blocks.{IsSizeClass, slots}
use Rattle.sg_words.specs.declared.steps.BlockWord.{BlockWord}
use Rattle.sg_words.specs.declared.steps.BlockWord.TheVariants.{Free, Swept}
use Rattle.sg_words.specs.Words.{Words}
use Rattle.sg_round.specs.Area.{Area, IsArea, IsYoung, IsFixed, place, is_strong, Traces}
use Rattle.sg_round.specs.Items.{HasWhole, slots_of}
use Rattle.sg_round.specs.Worker.{Idle, Over, Worker}

-- What a round starts with: the area; how many workers, and how many items a list may have; the slots of all items; the objects that
-- are items as wholes; which words are in no object and in no occupied slot; the words; and the workers with their items.
pub record Start : Type 0 where
  pub area : Area
  pub team : ℕ
  pub most : ℕ
  pub items : List ℕ
  pub wholes : List ℕ
  pub zone : ℕ → Bool
  pub words : Words
  pub workers : ℕ → Worker

-- an object that the round can come to: a traced one, or an item as a whole
abbrev pub IsMet : Area → (ℕ → ℕ) → List ℕ → List ℕ → ℕ → Type 0
IsMet area w items wholes a = Traces area w items a ⊎ In a wholes

-- The objects that the round can come to lie apart in the nursery, plain, pinned or cemented; its slots lie outside of the plain ones.
-- The words of the zone are zero, and none of them is of the nursery or a slot of the round.
pub record IsOpening (area : Area) (w : ℕ → ℕ) (items wholes : List ℕ) (zone : ℕ → Bool) : Type 0 where
  pub above : (y : ℕ) → zone y ≡ true → area.high ≤ y
  pub zero : (y : ℕ) → zone y ≡ true → w y ≡ 0
  pub inside : (a : ℕ) → IsMet area w items wholes a → IsYoung area a × (a + size_of w a ≤ area.high) × (w (a + 1) ≤ 62)
  pub apart : (a c : ℕ) → IsMet area w items wholes a → IsMet area w items wholes c → a ≤ c → c < a + size_of w a → a ≡ c
  pub first : (a : ℕ) → IsMet area w items wholes a → (c : ℕ) × (c < 256) × ((w a ≡ plain_word c) ⊎ IsFixed c (w a))
  pub stays : (t : ℕ) → In t wholes → (c : ℕ) × IsFixed c (w t)
  pub item_word : (s : ℕ) → In s items → (area.low ≤ s) × (s < area.end)
  pub item_apart : (s a : ℕ) → In s items → IsMet area w items wholes a → (s ≢ a) × (s ≢ a + 1)
  pub item_out : (s a c : ℕ) → In s items → Traces area w items a → w a ≡ plain_word c → a ≤ s → s < a + size_of w a → ⊥
  pub item_zone : (s : ℕ) → In s items → zone s ≡ false
  -- the strong slots of an object that stays, those that refer to young objects, are slots of the round
  pub whole : (a c i x : ℕ) → Traces area w items a → IsFixed c (w a) → i < w (a + 1) → is_strong area w a i ≡ true → w (a + 2 + i) ≡ byte_at x →
      IsYoung area x → In (a + 2 + i) items

-- the word y is one of slot i of block b at the slot size z
abbrev pub InSlot : Area → ℕ → ℕ → ℕ → ℕ → Type 0
InSlot area b z i y = (b < area.blocks) × (i < slots z) × (place area b z i ≤ y) × (y < place area b z i + z)

-- slot i of block b can be claimed for z words
abbrev pub IsClear : (block : ℕ → BlockWord) (used : ℕ → ℕ) (b z i : ℕ) → Type 0
IsClear block used b z i = (block b ≡ Free) ⊎ ((block b ≡ Swept z) × (bit_at (used b) i ≡ 0))

-- the words of slots that can be claimed are of the zone, and no bit of a free block is set
pub record AreZoned (area : Area) (block : ℕ → BlockWord) (used : ℕ → ℕ) (zone : ℕ → Bool) : Type 0 where
  pub clear : (b z i y : ℕ) → InSlot area b z i y → IsClear block used b z i → zone y ≡ true
  pub bare : (b : ℕ) → b < area.blocks → block b ≡ Free → used b ≡ 0

-- The items are dealt out to the workers, who hold nothing else, and the cells are empty. Each slot is in one item of one worker.
pub record AreDealt (t : Start) : Type 0 where
  pub given : (s : ℕ) → In s t.items → (k : ℕ) × In s (slots_of t.area t.words.word (λ x. x) (t.workers k).list)
  pub only : (k s : ℕ) → In s (slots_of t.area t.words.word (λ x. x) (t.workers k).list) → In s t.items
  pub wholes : (k x : ℕ) → HasWhole x (t.workers k).list → In x t.wholes
  pub once : (k : ℕ) → AreDistinct (slots_of t.area t.words.word (λ x. x) (t.workers k).list)
  pub apart : (j k s : ℕ) → In s (slots_of t.area t.words.word (λ x. x) (t.workers j).list) →
      In s (slots_of t.area t.words.word (λ x. x) (t.workers k).list) → j ≡ k
  pub few : (k : ℕ) → length (t.workers k).list ≤ t.most
  pub hands : (k : ℕ) → (t.workers k).hand ≡ []
  pub spares : (k z : ℕ) → (t.workers k).spare z ≡ 0
  pub passed : (k z : ℕ) → (t.workers k).passed z ≡ 0
  pub mids : (k : ℕ) → ((k < t.team) × ((t.workers k).mid ≡ Idle)) ⊎ (((t.workers k).mid ≡ Over) × ((t.workers k).list ≡ []))
  pub cells : (i : ℕ) → t.words.cell i ≡ 0

-- a round opens
pub record IsRoundOpening (t : Start) : Type 0 where
  pub limits : IsArea t.area t.team
  pub opening : IsOpening t.area t.words.word t.items t.wholes t.zone
  pub zoned : AreZoned t.area t.words.block t.words.used t.zone
  pub dealt : AreDealt t

-- whose a word is: nobody's in this round; of the place of z words at `at` that worker k has claimed; of the copy of a
pub data Owner : Type 0 where
  Nobody : Owner
  Claimed : (k at z : ℕ) → Owner
  Target : (a : ℕ) → Owner

abbrev pub is_claimed : Owner → Bool
is_claimed Nobody = false
is_claimed (Claimed k at z) = true
is_claimed (Target a) = false

abbrev pub is_target : Owner → Bool
is_target Nobody = false
is_target (Claimed k at z) = false
is_target (Target a) = true

-- Where each object is now; which word of the opening each word was copied from; whose each word is; the slots handled; the objects
-- that moved and those that failed. The map changes at a won exchange alone.
pub record Round : Type 0 where
  pub m : ℕ → ℕ
  pub source : ℕ → ℕ
  pub owner : ℕ → Owner
  pub handled : List ℕ
  pub moves : List ℕ
  pub fails : List ℕ

-- a slot of the round: one that it began with, or a strong slot of a copy or of a failed object
pub data Slot (area : Area) (w : ℕ → ℕ) (items : List ℕ) (m : ℕ → ℕ) (moves fails : List ℕ) (s : ℕ) : Type 0 where
  Given : In s items → Slot area w items m moves fails s
  Copied : (a i : ℕ) → In a moves → i < w (a + 1) → is_strong area w a i ≡ true → s ≡ m a + 2 + i → Slot area w items m moves fails s
  Failed : (a i : ℕ) → In a fails → i < w (a + 1) → is_strong area w a i ≡ true → s ≡ a + 2 + i → Slot area w items m moves fails s

-- x isn't plain any more
abbrev pub IsSettled : (ℕ → ℕ) → List ℕ → List ℕ → ℕ → Type 0
IsSettled w moves fails x = In x moves ⊎ (In x fails ⊎ ((c : ℕ) × IsFixed c (w x)))

-- How a round under way stands to its opening, with these words, and these slots still to come. Of the words that are claimed and not
-- forwarded to it says nothing. How words are claimed is no matter of it.
pub record IsGoing (area : Area) (w : ℕ → ℕ) (items : List ℕ) (zone : ℕ → Bool) (word : ℕ → ℕ) (todo : ℕ → Type 0) (r : Round) : Type 0 where
  pub once : AreDistinct r.moves × AreDistinct r.fails
  pub others : (a : ℕ) → has a r.moves ≡ false → r.m a ≡ a
  pub rest : (y : ℕ) → zone y ≡ false → r.owner y ≡ Nobody
  pub target : (a j : ℕ) → In a r.moves → j < size_of w a → r.owner (r.m a + j) ≡ Target a
  pub target_is : (a y : ℕ) → r.owner y ≡ Target a → In a r.moves × ((j : ℕ) × (j < size_of w a) × (y ≡ r.m a + j))
  pub source_out : (y : ℕ) → is_target (r.owner y) ≡ false → r.source y ≡ y
  pub source_in : (a j : ℕ) → In a r.moves → j < size_of w a → r.source (r.m a + j) ≡ a + j
  -- a handled slot is sent, each other word is what it was copied from
  pub words : (y : ℕ) → has y r.moves ≡ false → has y r.fails ≡ false → is_claimed (r.owner y) ≡ false →
      word y ≡ (if has y r.handled then sent r.m (w (r.source y)) else w (r.source y))
  pub forwarded : (a : ℕ) → In a r.moves → word a ≡ forward_word (byte_at (r.m a))
  pub pinned : (a : ℕ) → In a r.fails → word a ≡ w a + 2
  -- what moved or failed was plain, and is traced
  pub moved : (a : ℕ) → In a r.moves → Traces area w items a × ((c : ℕ) × (w a ≡ plain_word c))
  pub failed : (a : ℕ) → In a r.fails → Traces area w items a × ((c : ℕ) × (w a ≡ plain_word c)) × (has a r.moves ≡ false)
  -- the slots
  pub settled : (s x : ℕ) → In s r.handled → w (r.source s) ≡ byte_at x → IsYoung area x → IsSettled w r.moves r.fails x
  pub slots : (s : ℕ) → (todo s ⊎ In s r.handled) → Slot area w items r.m r.moves r.fails s
  pub all : (s : ℕ) → Slot area w items r.m r.moves r.fails s → todo s ⊎ In s r.handled

-- worker k has claimed the z words from `at` on
abbrev pub Owns : (ℕ → Owner) → ℕ → ℕ → ℕ → Type 0
Owns owner k at z = (y : ℕ) → at ≤ y → y < at + z → owner y ≡ Claimed k at z

-- block b can't take an object of the slot size z: it isn't free, and has no clear slot of this size
pub record IsPassed (block : ℕ → BlockWord) (used : ℕ → ℕ) (z b : ℕ) : Type 0 where
  pub taken : block b ≢ Free
  pub full : block b ≡ Swept z → (i : ℕ) → i < slots z → bit_at (used b) i ≡ 1

-- a slot of z words that was clear in the opening and is claimed is at this place
pub record IsTaken (area : Area) (block : ℕ → BlockWord) (used0 used : ℕ → ℕ) (at z : ℕ) : Type 0 where
  pub b : ℕ
  pub i : ℕ
  pub there : b < area.blocks
  pub class : IsSizeClass z
  pub fits : i < slots z
  pub is : at ≡ place area b z i
  pub state : block b ≡ Swept z
  pub clear : bit_at (used0 b) i ≡ 0
  pub set : bit_at (used b) i ≡ 1
