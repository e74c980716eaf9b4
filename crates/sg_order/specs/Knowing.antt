-- What an actor knows of the blocks, by where it stands, as long as its epoch lasts.
use Rattle.std.specs.Prelude.{◌≡◌, ◌≢◌, ℕ, ◌+◌, ◌<◌, ◌≤◌, ◌⊎◌, Bool, true}
use Rattle.std.specs.Int.{bit_at}
use Rattle.sg_words.specs.declared.steps.BlockWord.{BlockWord}
use Rattle.sg_words.specs.declared.steps.BlockWord.TheVariants.{Free, Swept, Need, Sweeping}
use Rattle.sg_words.specs.Blocks.{IsSizeClass, slots}
use Rattle.sg_words.specs.Words.{Words}
use Rattle.sg_program.specs.declared.program.Statement.{Statement}
use Rattle.sg_program.specs.declared.program.Statement.TheVariants.{Mature}
use Rattle.sg_program.specs.declared.program.Program.{Program}
use Rattle.sg_program.specs.Scripts.{made_slot}
use Rattle.sg_graph.specs.Book.{block_at, slot_at}
use Rattle.sg_rules.specs.Rules.{Constants, Task, Search, Roam, Mid, SeeBlock, TakeBlock, SeeUsed, TakeSlot, TakeOver, StoreOccupancy, ClearSlots, ClearWords, Ask, Left}
use Rattle.sg_rules.specs.Rules.{MaySee, AreTaken}

-- the block isn't to be swept any more: somebody sweeps it, or has swept it
abbrev pub IsPast : BlockWord → Type 0
IsPast (Need z) = ⊥
IsPast Free = Unit {0}
IsPast (Swept z) = Unit {0}
IsPast (Sweeping z) = Unit {0}

-- A search for a slot of z words has passed over block c for good: the block was owed as the epoch began, and isn't to be swept any more; or it
-- has other slots; or such slots, which are all occupied.
abbrev pub IsPassed : Words → (ℕ → Bool) → ℕ → ℕ → Type 0
IsPassed w owed z c =
    ((owed c ≡ true) × IsPast (w.block c)) ⊎
    (((size : ℕ) × (w.block c ≡ Swept size) × (size ≢ z)) ⊎ ((w.block c ≡ Swept z) × AreTaken (w.used c) (slots z)))

-- a search that is at block c has passed over each lower one
abbrev pub HasPassed : Program → Words → (ℕ → Bool) → Task → ℕ → Type 0
HasPassed p w owed (Search s) c = (j : ℕ) → j < c → IsPassed w owed (made_slot p s) j
HasPassed p w owed Roam c = Unit {0}

-- who asks for a slot has passed over all blocks
abbrev pub HasPassedAll : Program → Words → (ℕ → Bool) → Statement → Type 0
HasPassedAll p w owed (Mature r class) = HasPassed p w owed (Search (Mature r class)) p.config.blocks
HasPassedAll p w owed s = Unit {0}

-- block c has slots for the object of a statement, and is swept
abbrev pub IsFitting : Program → Words → Statement → ℕ → Type 0
IsFitting p w s c = w.block c ≡ Swept (made_slot p s)

-- actor k sweeps block c, of slots of z words, since it won the block's last exchange
pub record Sweeps (p : Program) (state : ℕ → BlockWord) (by : ℕ → ℕ) (k c z : ℕ) : Type 0 where
  pub there : c < p.config.blocks
  pub word : state c ≡ Sweeping z
  pub mine : by c ≡ k

-- the words of slot i of block c from the front to before the one with number f are zero
abbrev pub IsZeroTo : Program → (ℕ → ℕ) → ℕ → ℕ → ℕ → ℕ → Type 0
IsZeroTo p word c z i f = (x : ℕ) → slot_at p c z i ≤ x → x < slot_at p c z i + f → word x ≡ 0

-- the unmarked slots of block c below slot i are zero
abbrev pub AreZeroBelow : Program → ℕ → (ℕ → ℕ) → ℕ → ℕ → ℕ → Type 0
AreZeroBelow p marks word c z i = (j : ℕ) → j < i → j < slots z → bit_at marks j ≡ 0 → IsZeroTo p word c z j z

-- what actor k knows in the midst of the sweep of block c, of whose slots it is at number i
pub record IsMidSweep (p : Program) (lay : Constants) (w : Words) (by : ℕ → ℕ) (k c z i : ℕ) : Type 0 where
  pub sweeps : Sweeps p w.block by k c z
  pub occupied : w.used c ≡ lay.marks c
  pub zero : AreZeroBelow p (lay.marks c) w.word c z i

-- and of that slot the first f words are zero
pub record IsMidSlot (p : Program) (lay : Constants) (w : Words) (by : ℕ → ℕ) (k c z i f : ℕ) : Type 0 where
  pub mid : IsMidSweep p lay w by k c z i
  pub fits : i < slots z
  pub unmarked : bit_at (lay.marks c) i ≡ 0
  pub front : IsZeroTo p w.word c z i f
  pub more : f < z

-- what actor k knows of the blocks, where `by` says who won each block's last exchange
abbrev pub KnowsAt : Program → Constants → Words → (ℕ → Bool) → (ℕ → ℕ) → ℕ → Mid → Type 0
KnowsAt p lay w owed by k (SeeBlock t begins c) = HasPassed p w owed t c × (MaySee t begins → c < p.config.blocks)
KnowsAt p lay w owed by k (TakeBlock s c) = HasPassed p w owed (Search s) c × (c < p.config.blocks)
KnowsAt p lay w owed by k (SeeUsed s c) = HasPassed p w owed (Search s) c × (c < p.config.blocks) × IsFitting p w s c
KnowsAt p lay w owed by k (TakeSlot s c i) =
    HasPassed p w owed (Search s) c × (c < p.config.blocks) × IsFitting p w s c × (i < slots (made_slot p s)) × AreTaken (w.used c) i
KnowsAt p lay w owed by k (TakeOver t c z) = HasPassed p w owed t c × (c < p.config.blocks) × IsSizeClass z
KnowsAt p lay w owed by k (StoreOccupancy t c z) = HasPassed p w owed t c × Sweeps p w.block by k c z
KnowsAt p lay w owed by k (ClearSlots t c z i) = HasPassed p w owed t c × IsMidSweep p lay w by k c z i
KnowsAt p lay w owed by k (ClearWords t c z i f) = HasPassed p w owed t c × IsMidSlot p lay w by k c z i f
KnowsAt p lay w owed by k (Ask s) = HasPassedAll p w owed s
KnowsAt p lay w owed by k (Left s) = HasPassedAll p w owed s
KnowsAt p lay w owed by k mid = Unit {0}

-- the actor is in the midst of the sweep of block c, of slots of z words
abbrev pub IsInSweep : ℕ → ℕ → Mid → Type 0
IsInSweep c z (StoreOccupancy t d y) = (c ≡ d) × (z ≡ y)
IsInSweep c z (ClearSlots t d y i) = (c ≡ d) × (z ≡ y)
IsInSweep c z (ClearWords t d y i f) = (c ≡ d) × (z ≡ y)
IsInSweep c z mid = ⊥

-- the actor's search is at block c, where it looks for a slot of z words
abbrev pub IsInSearch : Program → ℕ → ℕ → Mid → Type 0
IsInSearch p c z (SeeBlock (Search s) begins d) = (c ≡ d) × (z ≡ made_slot p s)
IsInSearch p c z (SeeUsed s d) = (c ≡ d) × (z ≡ made_slot p s)
IsInSearch p c z (TakeSlot s d i) = (c ≡ d) × (z ≡ made_slot p s)
IsInSearch p c z mid = ⊥

-- an object stands in block c
abbrev pub HasObject : Program → (ℕ → Bool) → (ℕ → ℕ) → ℕ → Type 0
HasObject p stands address c = (n : ℕ) × (1 ≤ n) × (stands n ≡ true) × (block_at p c ≤ address n) × (address n < block_at p c + 256)

-- the actor makes an object in the major heap, and hasn't claimed its slot yet
abbrev pub Seeks : Statement → Mid → Type 0
Seeks s (SeeBlock (Search s') begins c) = s ≡ s'
Seeks s (TakeBlock s' c) = s ≡ s'
Seeks s (SeeUsed s' c) = s ≡ s'
Seeks s (TakeSlot s' c i) = s ≡ s'
Seeks s (TakeOver (Search s') c z) = s ≡ s'
Seeks s (StoreOccupancy (Search s') c z) = s ≡ s'
Seeks s (ClearSlots (Search s') c z i) = s ≡ s'
Seeks s (ClearWords (Search s') c z i f) = s ≡ s'
Seeks s mid = ⊥
