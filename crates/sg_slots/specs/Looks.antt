-- What a search for a slot looks at, and what it finds.
use Rattle.std.specs.Prelude.{◌≡◌, ◌≢◌, ℕ, zero, suc, ◌+◌, ◌-◌, ◌<◌, List, [], ◌∷◌, ◌++◌}
use Rattle.std.specs.Int.{bit_at}
use Rattle.sg_words.specs.declared.steps.BlockWord.{BlockWord}
use Rattle.sg_words.specs.declared.steps.BlockWord.TheVariants.{Free, Swept}
use Rattle.sg_words.specs.declared.steps.BlockStep.TheVariants.{LoadBlock, LoadUsed}
use Rattle.sg_words.specs.declared.steps.Step.{Step}
use Rattle.sg_words.specs.declared.steps.Step.TheVariants.{OnBlock}
use Rattle.sg_words.specs.declared.steps.Call.{Call}
use Rattle.sg_words.specs.declared.steps.Call.TheVariants.{OnBlocks}
use Rattle.sg_words.specs.declared.steps.BlockCall.TheVariants.{LoadsBlock, LoadsUsed}
use Rattle.sg_words.specs.Blocks.{slots}
use Rattle.sg_cells.specs.Made.{Makes}
use Rattle.sg_slots.specs.declared.search.Found.{Found}
use Rattle.sg_slots.specs.declared.search.Found.TheVariants.{Free as IsFree, Slot, None as NoSlot}

-- each of the first n bits is set
abbrev pub IsFull : ℕ → ℕ → Type 0
IsFull used n = (i : ℕ) → i < n → bit_at used i ≡ 1

-- bit i is the lowest clear one of the first n
pub record IsLowest (used n i : ℕ) : Type 0 where
  pub within : i < n
  pub clear : bit_at used i ≡ 0
  pub below : IsFull used i

-- these loads pass over block c: it is seen neither free nor swept of this size, or swept of this size and full
pub data PassesOver (size c : ℕ) : List Step → Type 0 where
  PassesOther : (state : BlockWord) → state ≢ Free → state ≢ Swept size → PassesOver size c (OnBlock (LoadBlock c state) ∷ [])
  PassesFull : (used : ℕ) → IsFull used (slots size) → PassesOver size c (OnBlock (LoadBlock c (Swept size)) ∷ OnBlock (LoadUsed c used) ∷ [])

-- these loads pass over the n blocks from block `from` on, in order
abbrev pub ArePassed : ℕ → ℕ → ℕ → List Step → Type 0
ArePassed size from zero es = es ≡ []
ArePassed size from (suc n) es = (before : List Step) × (ts : List Step) × ArePassed size from n before × PassesOver size (from + n) ts × (es ≡ before ++ ts)

-- at block c these loads find this: it is seen free, or swept of this size with a clear slot, of which the answer is the lowest
pub data Finds (size c : ℕ) : List Step → Found → Type 0 where
  FindsFree : Finds size c (OnBlock (LoadBlock c Free) ∷ []) (IsFree c)
  FindsSlot : (used i : ℕ) → IsLowest used (slots size) i → Finds size c (OnBlock (LoadBlock c (Swept size)) ∷ OnBlock (LoadUsed c used) ∷ []) (Slot c i)

-- these loads, in this order, look for a slot of `size` words from block `from` on, of so many blocks, and find this: they pass over blocks
-- and find it at the next one, or pass over all that are left
pub data AreLooks (size blocks from : ℕ) : List Step → Found → Type 0 where
  PassesAll : (n : ℕ) (es : List Step) → ArePassed size from n es → n ≡ blocks - from → AreLooks size blocks from es NoSlot
  PassesTo : (n : ℕ) (es ts : List Step) (found : Found) → ArePassed size from n es → from + n < blocks → Finds size (from + n) ts found →
      AreLooks size blocks from (es ++ ts) found

-- the port lets its actor look for a slot from block `from` on: load the word of each block to which the loads before have led, and its
-- occupancy where it was seen swept of this size
pub record MayLook {P : Type 0} (leads : P → List Step → P → Type 0) (sees : P → Step → Type 0) (may : P → Call → Type 0) (size blocks from : ℕ) (p : P) :
    Type 0 where
  pub block : (n : ℕ) (es : List Step) (q : P) → ArePassed size from n es → Makes leads sees p es q → from + n < blocks →
      may q (OnBlocks (LoadsBlock (from + n)))
  pub used : (n : ℕ) (es : List Step) (q : P) → ArePassed size from n es → Makes leads sees p (es ++ OnBlock (LoadBlock (from + n) (Swept size)) ∷ []) q →
      from + n < blocks →
      may q (OnBlocks (LoadsUsed (from + n)))
