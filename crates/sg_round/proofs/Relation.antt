-- How the words and the workers of a round in its midst stand to its opening.
use Rattle.std.specs.Prelude.{◌≡◌, ◌≢◌, ℕ, ◌+◌, ◌*◌, ◌≤◌, ◌<◌, ◌⊎◌, false, List, [], ◌∷◌, ◌++◌, length}
use Rattle.std.specs.Int.{bit_at}
use Rattle.sg_words.specs.Address.{byte_at}
use Rattle.sg_words.specs.Tags.{plain_word}
use Rattle.sg_words.specs.Lists.{In, has}
use Rattle.sg_words.specs.Objects.{size_of}
use Rattle.sg_words.specs.Reach.{AreDistinct}
use Rattle.sg_words.specs.Blocks.{IsSizeClass, slot_size, slots}
use Rattle.sg_words.specs.Words.{Words}
use Rattle.sg_words.specs.declared.steps.BlockWord.{BlockWord}
use Rattle.sg_words.specs.declared.steps.BlockWord.TheVariants.{Free, Swept}
use Rattle.sg_round.specs.Area.{Area, IsYoung, IsFixed, HasCard, place, card_at, class_of}
use Rattle.sg_round.specs.Items.{Item, SlotOf, WholeOf, cell_word, own_cell, slots_in, slots_of}
use Rattle.sg_round.specs.Worker.{Object, Stage, Look, Size, Room, Take, Slots, Mark, Body, Puts, Swap, Pin, Send, Dirty, Mid, Idle, Took, Count, On, Offer}
use Rattle.sg_round.specs.Worker.{Seek, Grab, Over, Worker, size_for}
use Rattle.sg_round.specs.Rules.{Effect, MayOffer, ended, moved, failed}
use Rattle.sg_round.specs.Round.{Start, InSlot, IsClear, Owner, Nobody, Claimed, Round, Slot, IsGoing, Owns, IsPassed, IsTaken}

-- a slot of the round r
abbrev pub InRound : Start → Round → ℕ → Type 0
InRound t r s = Slot t.area t.words.word t.items r.m r.moves r.fails s

-- x is neither moved nor failed
abbrev pub IsWhole : Round → ℕ → Type 0
IsWhole r x = (has x r.moves ≡ false) × (has x r.fails ≡ false)

-- x stays where it is: it has failed, or was pinned or cemented
abbrev pub IsStaying : (ℕ → ℕ) → List ℕ → ℕ → Type 0
IsStaying w fails x = In x fails ⊎ ((c : ℕ) × IsFixed c (w x))

-- the slot s held a reference to the young object x in the opening, or where it was copied from
pub record HasRead (area : Area) (w : ℕ → ℕ) (items : List ℕ) (m source : ℕ → ℕ) (moves fails : List ℕ) (s x : ℕ) : Type 0 where
  pub slot : Slot area w items m moves fails s
  pub held : w (source s) ≡ byte_at x
  pub young : IsYoung area x

abbrev pub Reads : Start → Round → ℕ → ℕ → Type 0
Reads t r s x = HasRead t.area t.words.word t.items r.m r.source r.moves r.fails s x

-- the strong slots of the object t are slots of the round: it is an item as a whole, it has failed, or it is a copy
abbrev pub IsKnown : List ℕ → Round → ℕ → Type 0
IsKnown wholes r x = In x wholes ⊎ (In x r.fails ⊎ ((a : ℕ) × In a r.moves × (x ≡ r.m a)))

abbrev pub IsKnownItem : Start → Round → Item → Type 0
IsKnownItem t r (SlotOf s) = InRound t r s
IsKnownItem t r (WholeOf x) = IsKnown t.wholes r x

abbrev pub AreKnown : Start → Round → List Item → Type 0
AreKnown t r [] = Unit {0}
AreKnown t r (item ∷ items) = IsKnownItem t r item × AreKnown t r items

-- the slots that a worker has to do: those in hand, and those of its list
abbrev pub in_hand : Start → (ℕ → ℕ) → Mid → List ℕ
in_hand t source Idle = []
in_hand t source (Took item) = slots_in t.area t.words.word source item
in_hand t source (Count x class) = slots_in t.area t.words.word source (WholeOf x)
in_hand t source (On s stage) = s ∷ []
in_hand t source (Offer i next) = in_hand t source next
in_hand t source (Seek i) = []
in_hand t source (Grab i item) = []
in_hand t source Over = []

abbrev pub todo_of : Start → (ℕ → ℕ) → Worker → List ℕ
todo_of t source a = in_hand t source a.mid ++ (a.hand ++ slots_of t.area t.words.word source a.list)

-- the slot s is one of the item in cell j
abbrev pub InCell : Start → (ℕ → ℕ) → (ℕ → ℕ) → ℕ → ℕ → Type 0
InCell t source cell j s = (item : Item) × (cell j ≡ cell_word item) × In s (slots_in t.area t.words.word source item)

-- the slot is in a worker's hand, in its list or in an offer cell
abbrev pub Pending : Start → (ℕ → ℕ) → (ℕ → ℕ) → (ℕ → Worker) → ℕ → Type 0
Pending t source cell workers s = ((k : ℕ) × In s (todo_of t source (workers k))) ⊎ ((j : ℕ) × InCell t source cell j s)

-- How the blocks stand to the claims: blocks of these words and occupancies began as `block0` and `used0`.
pub record AreClaims (area : Area) (team : ℕ) (w : ℕ → ℕ) (block0 : ℕ → BlockWord) (used0 : ℕ → ℕ) (block : ℕ → BlockWord) (used : ℕ → ℕ)
    (owner : ℕ → Owner) (m : ℕ → ℕ) (moves fails : List ℕ) : Type 0 where
  -- a word changes only where it was Free, and no bit falls
  pub opened : (b : ℕ) → (block b ≡ block0 b) ⊎ ((b < area.blocks) × (block0 b ≡ Free) × ((z : ℕ) × IsSizeClass z × (block b ≡ Swept z)))
  pub risen : (b i : ℕ) → bit_at (used b) i ≡ 0 → bit_at (used0 b) i ≡ 0
  -- the words of a slot that can be claimed are nobody's
  pub clear : (b z i y : ℕ) → InSlot area b z i y → IsClear block used b z i → owner y ≡ Nobody
  -- what is claimed is a slot, and so is the place of a moved object
  pub held : (k at z y : ℕ) → owner y ≡ Claimed k at z → IsTaken area block used0 used at z
  pub homed : (a : ℕ) → In a moves → IsTaken area block used0 used (m a) (slot_size (size_of w a))
  -- and a slot that was clear in the opening and isn't is somebody's
  pub taken : (b i : ℕ) → bit_at (used b) i ≡ 1 → bit_at (used0 b) i ≡ 0 →
      (z : ℕ) × IsSizeClass z × (b < area.blocks) × (i < slots z) × (block b ≡ Swept z) × (owner (place area b z i) ≢ Nobody)
  -- an object fails only where no block can take it
  pub full : (a b : ℕ) → In a fails → b < area.blocks → IsPassed block used (slot_size (size_of w a)) b
  -- and then some worker of the team has claimed no slot of its size
  pub short : (a : ℕ) → In a fails → (k : ℕ) × (k < team) × ((at y : ℕ) → owner y ≡ Claimed k at (slot_size (size_of w a)) → ⊥)

-- the card c has become dirty for the slot s, which refers to the object x that stays
pub record IsMarking (area : Area) (w : ℕ → ℕ) (source : ℕ → ℕ) (handled fails : List ℕ) (c : ℕ) : Type 0 where
  pub s : ℕ
  pub x : ℕ
  pub done : In s handled
  pub has : HasCard area s
  pub is : c ≡ card_at area s
  pub held : w (source s) ≡ byte_at x
  pub young : IsYoung area x
  pub stays : IsStaying w fails x

-- A handled slot that refers to an object which hasn't moved has a dirty card, if it has any; no card becomes clean, nor dirty for
-- another reason.
pub record AreCards (area : Area) (w : ℕ → ℕ) (card0 card : ℕ → ℕ) (source : ℕ → ℕ) (handled moves fails : List ℕ) : Type 0 where
  pub marked : (s x : ℕ) → In s handled → HasCard area s → w (source s) ≡ byte_at x → IsYoung area x → has x moves ≡ false → card (card_at area s) ≢ 0
  pub kept : (c : ℕ) → card0 c ≢ 0 → card c ≢ 0
  pub changed : (c : ℕ) → (card c ≡ card0 c) ⊎ ((card c ≡ 1) × IsMarking area w source handled fails c)

-- a cell is empty, or holds an item of the round; and only the team has any
pub record AreCells (t : Start) (r : Round) (cell : ℕ → ℕ) : Type 0 where
  pub filled : (j : ℕ) → (cell j ≡ 0) ⊎ ((item : Item) × (cell j ≡ cell_word item) × IsKnownItem t r item)
  pub beyond : (j : ℕ) → 8 * t.team ≤ j → cell j ≡ 0

-- the blocks before b can't take an object of the slot size z
abbrev pub ArePassed : Start → Words → ℕ → ℕ → Type 0
ArePassed t v z b = (d : ℕ) → d < b → d < t.area.blocks → IsPassed v.block v.used z d

-- what a worker that has these spare places knows of the target of the slot in its hand
pub record IsSized (area : Area) (w : ℕ → ℕ) (items : List ℕ) (m source : ℕ → ℕ) (moves fails : List ℕ) (spare : ℕ → ℕ) (s : ℕ) (o : Object) : Type 0 where
  pub seen : HasRead area w items m source moves fails s o.x
  pub plain : w o.x ≡ plain_word o.class
  pub length : w (o.x + 1) ≡ o.n
  pub short : o.n ≤ 62
  pub none : spare (size_for o) ≡ 0

abbrev pub Sized : Start → Round → (ℕ → ℕ) → ℕ → Object → Type 0
Sized t r spare s o = IsSized t.area t.words.word t.items r.m r.source r.moves r.fails spare s o

-- The words of its copy from `from` to before j are, as long as the target is whole, the opening's, and behind it zeros.
abbrev pub IsWritten : Start → Words → Round → Object → ℕ → ℕ → ℕ → Type 0
IsWritten t v r o at from j =
    (IsWhole r o.x → (i : ℕ) → from ≤ i → i < j → i < o.n + 2 → v.word (at + i) ≡ t.words.word (o.x + i)) ×
    ((i : ℕ) → o.n + 2 ≤ i → i < j → v.word (at + i) ≡ 0)

-- the own cells of worker k before the i-th are empty
abbrev pub AreEmpty : Words → ℕ → ℕ → Type 0
AreEmpty v k i = (d : ℕ) → d < i → d < 8 → v.cell (own_cell k d) ≡ 0

abbrev pub AtStage : Start → Words → Round → ℕ → (ℕ → ℕ) → ℕ → Stage → Type 0
AtStage t v r k spare s (Look x) = Reads t r s x
AtStage t v r k spare s (Size x class) = Reads t r s x × (t.words.word x ≡ plain_word class)
AtStage t v r k spare s (Room o b) = Sized t r spare s o × ArePassed t v (size_for o) b × (b < t.area.blocks)
AtStage t v r k spare s (Take o b) = Sized t r spare s o × ArePassed t v (size_for o) b × (b < t.area.blocks)
AtStage t v r k spare s (Slots o b) = Sized t r spare s o × ArePassed t v (size_for o) b × (b < t.area.blocks) × (v.block b ≡ Swept (size_for o))
AtStage t v r k spare s (Mark o b i) =
    Sized t r spare s o × ArePassed t v (size_for o) b × (b < t.area.blocks) × (v.block b ≡ Swept (size_for o)) × (i < slots (size_for o))
AtStage t v r k spare s (Body o at j) = Sized t r spare s o × Owns r.owner k at (size_for o) × (1 ≤ j) × (j ≤ size_for o) × IsWritten t v r o at 1 j
AtStage t v r k spare s (Puts o at j u) =
    Sized t r spare s o × Owns r.owner k at (size_for o) × (1 ≤ j) × (j < o.n + 2) × IsWritten t v r o at 1 j × (IsWhole r o.x → u ≡ t.words.word (o.x + j))
AtStage t v r k spare s (Swap o at) = Sized t r spare s o × Owns r.owner k at (size_for o) × IsWritten t v r o at 0 (size_for o)
AtStage t v r k spare s (Pin o) = Sized t r spare s o × ArePassed t v (size_for o) t.area.blocks
AtStage t v r k spare s (Send to) = (x : ℕ) × Reads t r s x × In x r.moves × (r.m x ≡ to)
AtStage t v r k spare s Dirty = (x : ℕ) × Reads t r s x × HasCard t.area s × IsStaying t.words.word r.fails x

abbrev pub AtMid : Start → Words → Round → ℕ → (ℕ → ℕ) → List Item → List ℕ → Mid → Type 0
AtMid t v r k spare list hand Idle = Unit {0}
AtMid t v r k spare list hand (Took item) = IsKnownItem t r item × (hand ≡ [])
AtMid t v r k spare list hand (Count x class) = IsKnown t.wholes r x × (class ≡ class_of (t.words.word (r.source x))) × (hand ≡ [])
AtMid t v r k spare list hand (On s stage) = AtStage t v r k spare s stage
AtMid t v r k spare list hand (Offer i next) =
    (i < 8) × (v.cell (own_cell k i) ≡ 0) × ((items : List Item) × (item : Item) × (list ≡ items ++ item ∷ [])) × AtMid t v r k spare list hand next ×
    MayOffer next
AtMid t v r k spare list hand (Seek i) = (list ≡ []) × (hand ≡ []) × (i < 8 * t.team) × AreEmpty v k i
AtMid t v r k spare list hand (Grab i item) = (list ≡ []) × (hand ≡ []) × (i < 8 * t.team) × AreEmpty v k i × IsKnownItem t r item
AtMid t v r k spare list hand Over = (list ≡ []) × (hand ≡ []) × AreEmpty v k 8

-- the worker in this state writes a copy into the slot of z words at `at`
abbrev pub IsFilling : ℕ → ℕ → Mid → Type 0
IsFilling at z (On s (Body o to j)) = (at ≡ to) × (z ≡ size_for o)
IsFilling at z (On s (Puts o to j u)) = (at ≡ to) × (z ≡ size_for o)
IsFilling at z (On s (Swap o to)) = (at ≡ to) × (z ≡ size_for o)
IsFilling at z (Offer i next) = IsFilling at z next
IsFilling at z mid = ⊥

-- what is true of worker k
pub record Stands (t : Start) (v : Words) (r : Round) (k : ℕ) (a : Worker) : Type 0 where
  -- it is one of the team, or has never had anything
  pub member : (k < t.team) ⊎ ((a.mid ≡ Over) × ((z : ℕ) → a.spare z ≡ 0))
  pub spares : (z : ℕ) → a.spare z ≢ 0 → Owns r.owner k (a.spare z) z
  pub classes : (z : ℕ) → a.spare z ≢ 0 → IsSizeClass z
  -- what it has claimed is in its hand or spare
  pub claims : (at z y : ℕ) → r.owner y ≡ Claimed k at z → ((a.spare z ≡ at) ⊎ IsFilling at z a.mid) × (at ≤ y) × (y < at + z) × (at ≢ 0)
  -- it has passed blocks that can't take its objects
  pub passed : (z : ℕ) → (a.passed z ≤ t.area.blocks) × ArePassed t v z (a.passed z)
  pub known : AreKnown t r a.list
  pub few : length a.list ≤ t.most + 1 + (length r.moves + length r.fails)
  pub at : AtMid t v r k a.spare a.list a.hand a.mid

-- each slot to come is in one place, and each handled one was handled once
pub record AreSingle (t : Start) (source cell : ℕ → ℕ) (workers : ℕ → Worker) (handled : List ℕ) : Type 0 where
  pub lists : (k : ℕ) → AreDistinct (todo_of t source (workers k))
  pub apart : (j k s : ℕ) → In s (todo_of t source (workers j)) → In s (todo_of t source (workers k)) → j ≡ k
  pub celled : (i k s : ℕ) → InCell t source cell i s → In s (todo_of t source (workers k)) → ⊥
  pub cells : (i j s : ℕ) → InCell t source cell i s → InCell t source cell j s → i ≡ j
  pub done : (s : ℕ) → In s handled → Pending t source cell workers s → ⊥
  pub once : AreDistinct handled

-- the sections that no worker changes
abbrev pub IsStill : Words → Words → Type 0
IsStill w v = (v.stop ≡ w.stop) × (v.head ≡ w.head) × (v.next ≡ w.next) × (v.marks ≡ w.marks)

pub record World (t : Start) (v : Words) (workers : ℕ → Worker) : Type 0 where
  pub round : Round
  pub going : IsGoing t.area t.words.word t.items t.zone v.word (Pending t round.source v.cell workers) round
  pub claims : AreClaims t.area t.team t.words.word t.words.block t.words.used v.block v.used round.owner round.m round.moves round.fails
  pub cards : AreCards t.area t.words.word t.words.card v.card round.source round.handled round.moves round.fails
  pub cells : AreCells t round v.cell
  pub stands : (k : ℕ) → Stands t v round k (workers k)
  pub single : AreSingle t round.source v.cell workers round.handled
  pub still : IsStill t.words v

-- what a step of worker k leaves of what the others rest on
pub record Later (t : Start) (k : ℕ) (v : Words) (r : Round) (v' : Words) (r' : Round) : Type 0 where
  pub blocks : (b : ℕ) → v.block b ≢ Free → v'.block b ≡ v.block b
  pub bits : (b i : ℕ) → bit_at (v.used b) i ≡ 1 → bit_at (v'.used b) i ≡ 1
  pub moves : (x : ℕ) → In x r.moves → In x r'.moves × (r'.m x ≡ r.m x)
  pub fails : (x : ℕ) → In x r.fails → In x r'.fails
  pub more : length r.moves + length r.fails ≤ length r'.moves + length r'.fails
  pub whole : (x : ℕ) → IsWhole r' x → IsWhole r x
  pub slots : (s : ℕ) → InRound t r s → InRound t r' s
  pub sources : (s : ℕ) → InRound t r s → r'.source s ≡ r.source s
  pub heads : (x : ℕ) → IsKnown t.wholes r x → (r'.source x ≡ r.source x) × (r'.source (x + 1) ≡ r.source (x + 1))
  -- the slots that the others have claimed, and their words
  pub owns : (j at z y : ℕ) → j ≢ k → r.owner y ≡ Claimed j at z → (r'.owner y ≡ Claimed j at z) × (v'.word y ≡ v.word y)
  pub claims : (j at z y : ℕ) → j ≢ k → r'.owner y ≡ Claimed j at z → r.owner y ≡ Claimed j at z
  -- an empty own cell of another worker
  pub cells : (j i : ℕ) → j ≢ k → i < 8 → v.cell (own_cell j i) ≡ 0 → v'.cell (own_cell j i) ≡ 0

-- the slot is one of the others', of this worker's or of a cell's
abbrev pub todo_with : (ℕ → Type 0) → (ℕ → ℕ → Type 0) → List ℕ → ℕ → Type 0
todo_with others celled xs s = others s ⊎ (In s xs ⊎ ((j : ℕ) × celled j s))

-- Each slot to come is in one place: the others', the list xs of this worker, or one cell; and each handled one was handled once.
pub record IsSingle (others : ℕ → Type 0) (inside : ℕ → ℕ → Type 0) (xs handled : List ℕ) : Type 0 where
  pub mine : AreDistinct xs
  pub theirs : (s : ℕ) → In s xs → others s → ⊥
  pub celled : (j s : ℕ) → inside j s → In s xs ⊎ others s → ⊥
  pub cells : (i j s : ℕ) → inside i s → inside j s → i ≡ j
  pub done : (s : ℕ) → In s handled → todo_with others inside xs s → ⊥
  pub once : AreDistinct handled

-- the result of a step of worker k, which was a and is b now
pub record Kept (t : Start) (others : ℕ → Type 0) (k : ℕ) (v : Words) (r : Round) (a : Worker) (effect : Effect) (v' : Words) (b : Worker) : Type 0 where
  pub round : Round
  pub later : Later t k v r v' round
  pub going : IsGoing t.area t.words.word t.items t.zone v'.word (todo_with others (InCell t round.source v'.cell) (todo_of t round.source b)) round
  pub claims : AreClaims t.area t.team t.words.word t.words.block t.words.used v'.block v'.used round.owner round.m round.moves round.fails
  pub cards : AreCards t.area t.words.word t.words.card v'.card round.source round.handled round.moves round.fails
  pub cells : AreCells t round v'.cell
  pub stands : Stands t v' round k b
  pub told : (round.handled ≡ ended effect ++ r.handled) × (round.moves ≡ r.moves ++ moved effect) × (round.fails ≡ r.fails ++ failed effect)
  pub single : IsSingle others (InCell t r.source v.cell) (todo_of t r.source a) r.handled →
      IsSingle others (InCell t round.source v'.cell) (todo_of t round.source b) round.handled
