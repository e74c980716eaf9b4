-- What is true of a copying worker by itself, whatever stands in the words: what its code rests on, as that it holds addresses in range.
use Rattle.std.specs.Prelude.{◌≡◌, ◌≢◌, ℕ, ◌+◌, ◌-◌, ◌*◌, ◌<◌, ◌≤◌, ◌⊎◌, List, [], ◌∷◌, ◌++◌, length}
use Rattle.sg_words.specs.Blocks.{IsSizeClass, slots}
use Rattle.sg_words.specs.Lists.{In}
use Rattle.sg_round.specs.Area.{Area, IsArea, IsYoung, HasCard}
use Rattle.sg_round.specs.Items.{Item, SlotOf, WholeOf}
use Rattle.sg_round.specs.Worker.{Object, Stage, Look, Size, Room, Take, Slots, Mark, Body, Puts, Swap, Pin, Send, Dirty, Mid, Idle, Took, Count, On, Offer}
use Rattle.sg_round.specs.Worker.{Seek, Grab, Over, Worker, size_for}

-- a word of some section
abbrev pub IsWord : Area → ℕ → Type 0
IsWord area x = (area.low ≤ x) × (x < area.end)

abbrev pub IsSaneItem : Area → Item → Type 0
IsSaneItem area (SlotOf s) = IsWord area s
IsSaneItem area (WholeOf t) = (area.low ≤ t) × (t + 1 < area.rows)

abbrev pub AreSaneItems : Area → List Item → Type 0
AreSaneItems area [] = Unit {0}
AreSaneItems area (item ∷ items) = IsSaneItem area item × AreSaneItems area items

-- a young object that was read lies in the nursery, and is small
pub record IsSaneObject (area : Area) (o : Object) : Type 0 where
  pub young : IsYoung area o.x
  pub inside : o.x + (o.n + 2) ≤ area.high
  pub short : o.n ≤ 62
  pub known : o.class < 256

-- its copy has a place in a block
abbrev pub IsSaneCopy : Area → Object → ℕ → Type 0
IsSaneCopy area o at = (area.high ≤ at) × (at + size_for o ≤ area.rows)

abbrev pub IsSaneStage : Area → ℕ → Stage → Type 0
IsSaneStage area s (Look x) = IsYoung area x
IsSaneStage area s (Size x class) = IsYoung area x × (x + 1 < area.high) × (class < 256)
IsSaneStage area s (Room o b) = IsSaneObject area o × (b < area.blocks)
IsSaneStage area s (Take o b) = IsSaneObject area o × (b < area.blocks)
IsSaneStage area s (Slots o b) = IsSaneObject area o × (b < area.blocks)
IsSaneStage area s (Mark o b i) = IsSaneObject area o × (b < area.blocks) × (i < slots (size_for o))
IsSaneStage area s (Body o at j) = IsSaneObject area o × IsSaneCopy area o at × (1 ≤ j) × (j ≤ size_for o)
IsSaneStage area s (Puts o at j v) = IsSaneObject area o × IsSaneCopy area o at × (1 ≤ j) × (j < o.n + 2)
IsSaneStage area s (Swap o at) = IsSaneObject area o × IsSaneCopy area o at
IsSaneStage area s (Pin o) = IsSaneObject area o
IsSaneStage area s (Send t) = (area.high ≤ t) × (t + 1 < area.rows)
IsSaneStage area s Dirty = HasCard area s

-- an item stands in the list for each offer that is prepared, and a worker that looks for one has nothing to do
abbrev pub IsSaneAt : Area → ℕ → List Item → List ℕ → Mid → Type 0
IsSaneAt area team list hand Idle = Unit {0}
IsSaneAt area team list hand (Took item) = IsSaneItem area item × (hand ≡ [])
IsSaneAt area team list hand (Count t class) = IsSaneItem area (WholeOf t) × (class < 256) × (hand ≡ [])
IsSaneAt area team list hand (On s stage) = IsWord area s × IsSaneStage area s stage
IsSaneAt area team list hand (Offer i next) = (i < 8) × ((items : List Item) × (item : Item) × (list ≡ items ++ item ∷ [])) × IsSaneAt area team list hand next
IsSaneAt area team list hand (Seek i) = (i < 8 * team) × (list ≡ []) × (hand ≡ [])
IsSaneAt area team list hand (Grab i item) = (i < 8 * team) × IsSaneItem area item × (list ≡ []) × (hand ≡ [])
IsSaneAt area team list hand Over = (list ≡ []) × (hand ≡ [])

-- What is true of worker k of so many by itself. `most` is how many items its list may begin with; each object of the nursery can add one.
pub record IsSane (area : Area) (team most k : ℕ) (a : Worker) : Type 0 where
  pub limits : IsArea area team
  pub member : (k < team) ⊎ (a.mid ≡ Over)
  pub list : AreSaneItems area a.list
  pub few : length a.list ≤ most + 1 + (area.high - area.low)
  pub hand : (s : ℕ) → In s a.hand → IsWord area s
  pub spares : (z : ℕ) → a.spare z ≢ 0 → IsSizeClass z × (area.high ≤ a.spare z) × (a.spare z + z ≤ area.rows)
  pub passed : (z : ℕ) → a.passed z ≤ area.blocks
  pub at : IsSaneAt area team a.list a.hand a.mid
