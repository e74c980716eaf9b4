-- How the parts of a pause meet: tags of the pinned objects, a round of copying, tags away and sweep.
use Rattle.std.specs.Prelude.{◌≡◌, ◌≢◌, ℕ, ◌+◌, ◌<◌, ◌≤◌, ◌⊎◌, nat_le, nat_lt, ◌==◌, ◌&&◌, Bool, true, false, if◌then◌else◌, Option, List, ◌++◌, map, filter}
use Rattle.std.specs.Int.{bit_at}
use Rattle.std.specs.List.Sorted.{IsStrictlyIncreasing}
use Rattle.sg_words.specs.Found.{IsSearched}
use Rattle.sg_words.specs.Address.{byte_at, word_at}
use Rattle.sg_words.specs.Blocks.{slot_size, slots, card_of}
use Rattle.sg_words.specs.Lists.{In, has}
use Rattle.sg_words.specs.Objects.{size_of, sent}
use Rattle.sg_words.specs.Reach.{Reached}
use Rattle.sg_words.specs.Sections.{globals_base}
use Rattle.sg_words.specs.declared.steps.BlockWord.TheVariants.{Free}
use Rattle.sg_words.specs.declared.layout.Layout.{Layout}
use Rattle.sg_words.specs.declared.pieces.Move.{Move}
use Rattle.sg_desc.specs.Shapes.{is_strong as is_strong_by}
use Rattle.sg_program.specs.declared.program.Program.{Program}
use Rattle.sg_program.specs.Scripts.{kind_of}
use Rattle.sg_graph.specs.Graph.{Graph}
use Rattle.sg_graph.specs.Book.{Book, Old, nursery_end, slot_at, IsWordOf, IsEmptySlot}
use Rattle.sg_graph.specs.Pause.{IsPinned}
use Rattle.sg_graph.specs.Epoch.{numbers_below}
use Rattle.sg_graph.specs.Copies.{StandsOld, IsMovable, AreByAddress, items_of, leads_of}
use Rattle.sg_graph.specs.Heap.{layout_of}
use Rattle.sg_space.specs.Space.{Contents, IsContents}
use Rattle.sg_space.specs.Standing.{word, block_in, used_in, IsSoundBy}
use Rattle.sg_space.specs.Changes.{IsStill}
use Rattle.sg_cards.specs.declared.found.Seed.{Seed}
use Rattle.sg_cards.specs.Seeds.{AreSeeds}
use Rattle.sg_round.specs.Area.{Area, IsYoung, is_strong, Points}
use Rattle.sg_round.specs.Order.{Fits}
use Rattle.sg_round.specs.Round.{IsPassed}
use Rattle.sg_copy.specs.Copying.{area_of, card_in, CanCopy, HasCopiedTo}
use Rattle.sg_nursery.specs.Parts.{HasTagged}
use Rattle.sg_heap.specs.Holding.{HoldsHeap, OwesNothing}

-- these are the first words of exactly the pinned objects
pub record ArePins (g : Graph) (b : Book) (ambiguous pins : List ℕ) : Type 0 where
  pub each : (a : ℕ) → In a pins → (n : ℕ) × IsPinned g b ambiguous n × (b.address n ≡ a)
  pub all : (n : ℕ) → IsPinned g b ambiguous n → In (b.address n) pins

-- the first n globals' slots, by number
abbrev pub global_slots : Layout → ℕ → List ℕ
global_slots layout n = map (λ x. globals_base layout + x) (numbers_below n)

-- whether the word is the address of a word of the nursery, and whether the slot holds one
abbrev pub is_young_word : Area → ℕ → Bool
is_young_word area v = (v == byte_at (word_at v)) && (nat_le area.low (word_at v) && nat_lt (word_at v) area.high)

abbrev pub holds_young : Area → (ℕ → ℕ) → ℕ → Bool
holds_young area w s = is_young_word area (w s)

-- these are the seeds of the space, by every owner by which it is sound
abbrev pub AreFound : Contents → List Seed → Type 0
AreFound s found = (owner : ℕ → Option ℕ) → IsSoundBy s owner → AreSeeds s owner found

-- the slots with which a round begins: the globals that refer to young objects, by number, and then the seeds
abbrev pub slots_from : Contents → List Seed → List ℕ
slots_from s found = filter (holds_young (area_of s) (word s)) (global_slots s.layout 64) ++ map (λ (seed : Seed). word_at seed.slot) found

-- What a pause begins from: the young object is pinned, or a global or a strong field of an old object refers to it.
abbrev pub IsItem : Program → Area → (ℕ → ℕ) → Graph → Book → List ℕ → ℕ → Type 0
IsItem p area w g b ambiguous a =
    IsYoung area a
    × (((n : ℕ) × IsPinned g b ambiguous n × (b.address n ≡ a))
    ⊎ (((x : ℕ) × (x < 64) × (w (globals_base (layout_of p) + x) ≡ byte_at a))
    ⊎ ((n : ℕ) × (n ≢ 0) × (b.stands n ≡ true) × (b.section n ≡ Old) × Points area w (b.address n) a)))

-- the object at a stays or moves
abbrev pub IsKept : List ℕ → List ℕ → ℕ → Type 0
IsKept stays moves a = In a stays ⊎ In a moves

-- the kept young objects are those that stay and those that move: what the pause begins from, closed under strong fields,
-- and nothing else
pub record IsTraced (p : Program) (area : Area) (w : ℕ → ℕ) (g : Graph) (b : Book) (ambiguous stays moves : List ℕ) : Type 0 where
  pub items : (a : ℕ) → IsItem p area w g b ambiguous a → IsKept stays moves a
  pub closed : (a c : ℕ) → IsKept stays moves a → Points area w a c → IsKept stays moves c
  pub reached : (a : ℕ) → IsKept stays moves a → Reached (Points area w) (IsItem p area w g b ambiguous) a
  pub apart : (a : ℕ) → In a stays → has a moves ≡ false

-- the object a is at m a now: at the front of a slot of its size class in which no object stood
pub record IsHome (p : Program) (w : ℕ → ℕ) (g : Graph) (b : Book) (m : ℕ → ℕ) (a : ℕ) : Type 0 where
  pub block : ℕ
  pub slot : ℕ
  pub there : block < p.config.blocks
  pub small : size_of w a ≤ 64
  pub fits : slot < slots (slot_size (size_of w a))
  pub at : m a ≡ slot_at p block (slot_size (size_of w a)) slot
  pub empty : IsEmptySlot p g b block (slot_size (size_of w a)) slot

-- v holds at m a what w holds at a, with each strong reference sent
pub record IsPictured (area : Area) (w v : ℕ → ℕ) (m : ℕ → ℕ) (a : ℕ) : Type 0 where
  pub first : v (m a) ≡ w a
  pub length : v (m a + 1) ≡ w (a + 1)
  pub fields : (i : ℕ) → i < w (a + 1) → v (m a + 2 + i) ≡ (if is_strong area w a i then sent m (w (a + 2 + i)) else w (a + 2 + i))

-- the word x is none of a copy's
abbrev pub IsUncopied : (ℕ → ℕ) → List ℕ → (ℕ → ℕ) → ℕ → Type 0
IsUncopied w moves m x = (a i : ℕ) → In a moves → i < size_of w a → x ≢ m a + i

-- The words v are the picture of the words w by m: the moved objects stand in slots of the major heap, all others where they stood.
pub record IsPicture (p : Program) (area : Area) (w : ℕ → ℕ) (g : Graph) (b : Book) (stays moves : List ℕ) (m : ℕ → ℕ) (v : ℕ → ℕ) : Type 0 where
  pub homes : (a : ℕ) → In a moves → IsHome p w g b m a
  pub apart : (a c i j : ℕ) → In a moves → In c moves → i < size_of w a → j < size_of w c → m a + i ≡ m c + j → a ≡ c
  pub others : (a : ℕ) → has a moves ≡ false → m a ≡ a
  pub stayed : (a : ℕ) → In a stays → IsPictured area w v m a
  pub moved : (a : ℕ) → In a moves → IsPictured area w v m a
  pub old : (n : ℕ) → n ≢ 0 → b.stands n ≡ true → b.section n ≡ Old → IsPictured area w v m (b.address n)
  pub globals : (x : ℕ) → x < 64 → v (globals_base (layout_of p) + x) ≡ sent m (w (globals_base (layout_of p) + x))
  -- the nursery is zero but for what stayed
  pub swept : (x : ℕ) → IsYoung area x → ((a : ℕ) → In a stays → a ≤ x → x < a + size_of w a → ⊥) → v x ≡ 0
  -- what is behind the nursery is as it was, but for the globals, the old objects and the copies
  pub same : (x : ℕ) → nursery_end p ≤ x → ((j : ℕ) → j < 64 → x ≢ globals_base (layout_of p) + j) → ((n : ℕ) → IsWordOf g b n x → ⊥) → IsUncopied w moves m x →
      v x ≡ w x

-- After the round: what stays gets its plain tag again, all other nursery words become zero, and nothing else changes. Sizes
-- are those of the words w before the pause.
pub record HasSwept (area : Area) (w : ℕ → ℕ) (stays : List ℕ) (old new : ℕ → ℕ) : Type 0 where
  pub untagged : (a : ℕ) → In a stays → new a + 2 ≡ old a
  pub kept : (a y : ℕ) → In a stays → a < y → y < a + size_of w a → new y ≡ old y
  pub swept : (x : ℕ) → IsYoung area x → ((a : ℕ) → In a stays → a ≤ x → x < a + size_of w a → ⊥) → new x ≡ 0
  pub others : (y : ℕ) → (IsYoung area y → ⊥) → new y ≡ old y

-- the same blocks, occupancies and cards
pub record HasBlocksOf (old new : Contents) : Type 0 where
  pub blocks : new.blocks ≡ old.blocks
  pub used : new.used ≡ old.used
  pub cards : new.cards ≡ old.cards

-- the parts of a pause up to the round
pub record IsBegun (p : Program) (s : Contents) (g : Graph) (b : Book) (ambiguous pins : List ℕ) (found : List Seed) (tagged : Contents) : Type 0 where
  pub heap : HoldsHeap p s g b
  pub owes : OwesNothing p b
  pub contents : IsContents s
  pub pinned : ArePins g b ambiguous pins
  pub in_order : IsStrictlyIncreasing pins
  pub still : IsStill s tagged
  pub tags : HasTagged (word s) pins (word tagged)
  pub seeds : AreFound s found

-- The order in which the movable objects are found: of them those move that find a slot in turn, and the others fail.
pub record IsOrdered (p : Program) (s : Contents) (g : Graph) (b : Book) (ambiguous moves fails : List ℕ) (m : ℕ → ℕ) (v : Contents) : Type 0 where
  pub old : List ℕ
  pub pinned : List ℕ
  pub found : List ℕ
  pub old_are : AreByAddress b (StandsOld b) old
  pub pinned_are : AreByAddress b (IsPinned g b ambiguous) pinned
  pub each : (n : ℕ) → In n found → IsMovable g b ambiguous n
  pub searched : IsSearched (IsMovable g b ambiguous) (leads_of p g (items_of p g old pinned)) found
  pub parts : Fits (area_of s) (word s) m (block_in s) (used_in s) moves fails (map b.address found) (block_in v) (used_in v)

-- the word x is a strong field of an old object, or of a copy
pub data IsOldField (p : Program) (area : Area) (w : ℕ → ℕ) (g : Graph) (b : Book) (moves : List ℕ) (m : ℕ → ℕ) (x : ℕ) : Type 0 where
  OfOld : (n i : ℕ) → n ≢ 0 → b.stands n ≡ true → b.section n ≡ Old → i < g.size n → is_strong_by (kind_of p (g.class n)) i (g.size n) ≡ true →
      x ≡ b.address n + 2 + i → IsOldField p area w g b moves m x
  OfCopy : (a i : ℕ) → In a moves → i < w (a + 1) → is_strong area w a i ≡ true → x ≡ m a + 2 + i → IsOldField p area w g b moves m x

-- a block's word changes from Free alone, and no bit falls
pub record AreRisen (s v : Contents) : Type 0 where
  pub opened : (c : ℕ) → (block_in v c ≡ block_in s c) ⊎ (block_in s c ≡ Free)
  pub risen : (c i : ℕ) → bit_at (used_in s c) i ≡ 1 → bit_at (used_in v c) i ≡ 1

-- where the objects are after a pause, what stayed and what moved, and how blocks and cards are
pub record IsEnded (p : Program) (s : Contents) (g : Graph) (b : Book) (ambiguous pins : List ℕ) (moves fails : List ℕ) (m : ℕ → ℕ) (v : Contents) : Type 0
  where
    pub traced : IsTraced p (area_of s) (word s) g b ambiguous (pins ++ fails) moves
    pub picture : IsPicture p (area_of s) (word s) g b (pins ++ fails) moves m (word v)
    -- what failed wasn't pinned by a word, and no block has a place for it
    pub failed : (a : ℕ) → In a fails → has a pins ≡ false
    pub full : (a c : ℕ) → In a fails → c < p.config.blocks → IsPassed (block_in v) (used_in v) (slot_size (size_of (word s) a)) c
    pub order : IsOrdered p s g b ambiguous moves fails m v
    pub risen : AreRisen s v
    -- each strong field of an old object that refers to a young one has a dirty card
    pub carded : (x y : ℕ) → IsOldField p (area_of s) (word s) g b moves m x → word v x ≡ byte_at y → IsYoung (area_of s) y → card_in v (card_of (layout_of p) x)
        ≡ 1

-- The parts up to the round open it, and after it, with what it moved and failed, a sweep ends the pause.
pub record JoinLaw : Type 0 where
  pub opens : (p : Program) (s : Contents) (g : Graph) (b : Book) (ambiguous pins : List ℕ) (found : List Seed) (tagged : Contents) →
      IsBegun p s g b ambiguous pins found tagged → CanCopy tagged (slots_from s found) pins
  pub closes : (p : Program) (s : Contents) (g : Graph) (b : Book) (ambiguous pins : List ℕ) (found : List Seed) (tagged round : Contents)
      (told_moves : List Move) (told_fails : List ℕ) →
      IsBegun p s g b ambiguous pins found tagged →
      (copied : HasCopiedTo tagged (slots_from s found) pins round told_moves told_fails) →
      (v : Contents) → HasBlocksOf round v → HasSwept (area_of s) (word s) (pins ++ copied.stayed) (word round) (word v) →
      IsEnded p s g b ambiguous pins copied.went copied.stayed copied.m v
