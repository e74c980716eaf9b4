-- How a slot is claimed, and what a port may show meanwhile.
use Rattle.std.specs.Prelude.{◌≡◌, ℕ, ◌<◌, Option, Some, None, List, [], ◌∷◌, ◌++◌}
use Rattle.std.specs.Int.{bit_at}
use Rattle.std.specs.List.{AllByRecursion}
use Rattle.sg_words.specs.declared.steps.BlockWord.{BlockWord}
use Rattle.sg_words.specs.declared.steps.BlockWord.TheVariants.{Free, Swept}
use Rattle.sg_words.specs.declared.steps.BlockStep.{BlockStep}
use Rattle.sg_words.specs.declared.steps.BlockStep.TheVariants.{LoadBlock, WonBlock, LostBlock, StoreBlock, LoadUsed, OrUsed, StoreUsed, LoadMarks, OrMarks}
use Rattle.sg_words.specs.declared.steps.BlockStep.TheVariants.{StoreMarks, Zero}
use Rattle.sg_words.specs.declared.steps.Step.{Step}
use Rattle.sg_words.specs.declared.steps.Step.TheVariants.{Load, Store, Won, Lost, OnBlock}
use Rattle.sg_words.specs.declared.steps.Call.{Call}
use Rattle.sg_words.specs.Calls.{call_of}
use Rattle.sg_words.specs.Blocks.{slots, IsOwing}
use Rattle.sg_words.specs.Words.{Words}
use Rattle.sg_cells.specs.Made.{Makes}
use Rattle.sg_slots.specs.declared.search.Found.{Found}
use Rattle.sg_slots.specs.declared.search.Found.TheVariants.{Free as IsFree, Slot, None as NoSlot}
use Rattle.sg_slots.specs.Looks.{PassesOver, AreLooks}

-- a claim of a slot of `size` words among so many blocks makes only such steps: loads of words and occupancies, the exchange of a free
-- block's word, and the fetch-or of a slot's bit
abbrev pub IsOfClaimOn : ℕ → ℕ → BlockStep → Type 0
IsOfClaimOn size blocks (LoadBlock c saw) = c < blocks
IsOfClaimOn size blocks (WonBlock c seen new) = (c < blocks) × (seen ≡ Free) × (new ≡ Swept size)
IsOfClaimOn size blocks (LostBlock c seen new found) = (c < blocks) × (seen ≡ Free) × (new ≡ Swept size)
IsOfClaimOn size blocks (StoreBlock c new) = ⊥
IsOfClaimOn size blocks (LoadUsed c saw) = c < blocks
IsOfClaimOn size blocks (OrUsed c i found) = (c < blocks) × (i < slots size)
IsOfClaimOn size blocks (StoreUsed c new) = ⊥
IsOfClaimOn size blocks (LoadMarks c saw) = ⊥
IsOfClaimOn size blocks (OrMarks c i found) = ⊥
IsOfClaimOn size blocks (StoreMarks c new) = ⊥
IsOfClaimOn size blocks (Zero x) = ⊥

abbrev pub IsOfClaim : ℕ → ℕ → Step → Type 0
IsOfClaim size blocks (Load place saw) = ⊥
IsOfClaim size blocks (Store place new) = ⊥
IsOfClaim size blocks (Won place seen new) = ⊥
IsOfClaim size blocks (Lost place seen new found) = ⊥
IsOfClaim size blocks (OnBlock step) = IsOfClaimOn size blocks step

-- a block's word that is seen where `known` is known: a swept block is still that, and one that is to be swept was known to be so
pub record FitsBlock (known saw : BlockWord) : Type 0 where
  pub swept : (z : ℕ) → known ≡ Swept z → saw ≡ Swept z
  pub owing : (z : ℕ) → IsOwing saw z → IsOwing known z

-- an occupancy that is seen has each bit that is known to be set
abbrev pub FitsUsed : ℕ → ℕ → Type 0
FitsUsed known saw = (i : ℕ) → bit_at known i ≡ 1 → bit_at saw i ≡ 1

-- what a step sees fits what is known
abbrev pub Fits : Words → BlockStep → Type 0
Fits w (LoadBlock c saw) = FitsBlock (w.block c) saw
Fits w (WonBlock c seen new) = Unit {0}
Fits w (LostBlock c seen new found) = FitsBlock (w.block c) found
Fits w (StoreBlock c new) = Unit {0}
Fits w (LoadUsed c saw) = FitsUsed (w.used c) saw
Fits w (OrUsed c i found) = FitsUsed (w.used c) found
Fits w (StoreUsed c new) = Unit {0}
Fits w (LoadMarks c saw) = Unit {0}
Fits w (OrMarks c i found) = Unit {0}
Fits w (StoreMarks c new) = Unit {0}
Fits w (Zero x) = Unit {0}

-- what a step has shown is known after it
abbrev pub Shows : BlockStep → Words → Type 0
Shows (LoadBlock c saw) w = (z : ℕ) → saw ≡ Swept z → w.block c ≡ Swept z
Shows (WonBlock c seen new) w = (z : ℕ) → new ≡ Swept z → w.block c ≡ Swept z
Shows (LostBlock c seen new found) w = (found ≡ Free → ⊥) × ((z : ℕ) → found ≡ Swept z → w.block c ≡ Swept z)
Shows (StoreBlock c new) w = Unit {0}
Shows (LoadUsed c saw) w = (i : ℕ) → bit_at saw i ≡ 1 → bit_at (w.used c) i ≡ 1
Shows (OrUsed c j found) w = (bit_at (w.used c) j ≡ 1) × ((i : ℕ) → bit_at found i ≡ 1 → bit_at (w.used c) i ≡ 1)
Shows (StoreUsed c new) w = Unit {0}
Shows (LoadMarks c saw) w = Unit {0}
Shows (OrMarks c i found) w = Unit {0}
Shows (StoreMarks c new) w = Unit {0}
Shows (Zero x) w = Unit {0}

-- what is known of blocks stays known
pub record KeepsKnown (w v : Words) : Type 0 where
  pub swept : (c z : ℕ) → w.block c ≡ Swept z → v.block c ≡ Swept z
  pub owing : (c z : ℕ) → IsOwing (v.block c) z → IsOwing (w.block c) z
  pub bits : (c i : ℕ) → bit_at (w.used c) i ≡ 1 → bit_at (v.used c) i ≡ 1

-- While a claim makes its steps, the port shows blocks and bits that grow: `known` is what is known of them in a state of the port. What a
-- step sees fits it, and after the step it is still known, and so is what the step has shown.
pub record ShowsGrowing {P : Type 0} (leads : P → List Step → P → Type 0) (sees : P → Step → Type 0) (size blocks : ℕ) (known : P → Words) : Type 0 where
  pub fits : (p : P) (t : BlockStep) → IsOfClaimOn size blocks t → sees p (OnBlock t) → Fits (known p) t
  pub keeps : (p q : P) (t : BlockStep) → IsOfClaimOn size blocks t → sees p (OnBlock t) → leads p (OnBlock t ∷ []) q → KeepsKnown (known p) (known q) ×
      Shows t (known q)

-- no block is known to be still to be swept, or to be in the midst of it
abbrev pub IsSettled : Words → ℕ → Type 0
IsSettled w blocks = (c z : ℕ) → c < blocks → IsOwing (w.block c) z → ⊥

-- the port lets its actor make each step of a claim, wherever the steps before have led it
abbrev pub MayClaim : {P : Type 0} → (P → List Step → P → Type 0) → (P → Step → Type 0) → (P → Call → Type 0) → ℕ → ℕ → P → Type 0
MayClaim {P} leads sees may size blocks p =
    (es : List Step) (q : P) (t : Step) → AllByRecursion (IsOfClaim size blocks) es → Makes leads sees p es q → IsOfClaim size blocks t → may q (call_of t)

-- the steps have passed over block c
pub record IsPassedIn (size c : ℕ) (es : List Step) : Type 0 where
  pub before : List Step
  pub passing : List Step
  pub after : List Step
  pub parts : es ≡ before ++ passing ++ after
  pub passes : PassesOver size c passing

-- the exchange of block c's word from free to swept of this size, won or lost
pub data IsExchange (size c : ℕ) : BlockStep → Type 0 where
  IsWon : IsExchange size c (WonBlock c Free (Swept size))
  IsLost : (found : BlockWord) → IsExchange size c (LostBlock c Free (Swept size) found)

-- These steps of a claim have got no slot yet, and its next search begins at block c: searches one after another, of which each is followed by
-- the exchange of the free block that it found, or by the claim of the slot that it found, whose bit was set meanwhile.
pub data IsTried (size blocks : ℕ) : List Step → ℕ → Type 0 where
  Begins : IsTried size blocks [] 0
  Opens : (es fs : List Step) (c d : ℕ) (t : BlockStep) → IsTried size blocks es c → AreLooks size blocks c fs (IsFree d) → IsExchange size d t →
      IsTried size blocks ((es ++ fs) ++ OnBlock t ∷ []) d
  Misses : (es fs : List Step) (c d i found : ℕ) → IsTried size blocks es c → AreLooks size blocks c fs (Slot d i) → bit_at found i ≡ 1 →
      IsTried size blocks ((es ++ fs) ++ OnBlock (OrUsed d i found) ∷ []) d

-- the last search, from block c on, after the steps `before`; each block below d was passed over
pub record IsLastSearch (size blocks d : ℕ) (before looks : List Step) (found : Found) : Type 0 where
  pub from : ℕ
  pub tried : IsTried size blocks before from
  pub finds : AreLooks size blocks from looks found
  pub passed : (b : ℕ) → b < d → IsPassedIn size b (before ++ looks)

-- The steps of a claim lead from p to q with this answer: the slot that the last search found, whose bit the last step found clear and set; or none,
-- where the last search found none, and each block was passed over.
abbrev pub Claims : {P : Type 0} → (P → List Step → P → Type 0) → (P → Step → Type 0) → ℕ → ℕ → P → P → Option (ℕ × ℕ) → Type 0
Claims {P} leads sees size blocks p q None = (before : List Step) × (looks : List Step) × Makes leads sees p (before ++ looks) q ×
    IsLastSearch size blocks blocks before looks NoSlot
Claims {P} leads sees size blocks p q (Some place) = (before : List Step) × (looks : List Step) × (found : ℕ) ×
    Makes leads sees p ((before ++ looks) ++ OnBlock (OrUsed place.0 place.1 found) ∷ []) q ×
    IsLastSearch size blocks place.0 before looks (Slot place.0 place.1) × (place.0 < blocks) × (place.1 < slots size) × (bit_at found place.1 ≡ 0)
