-- What a search for a slot finds at one block.
use Rattle.std.specs.Prelude.{◌≢◌, ℕ, Option, Some, None, List, [], ◌∷◌}
use Rattle.sg_words.specs.declared.steps.BlockWord.TheVariants.{Free, Swept, Need, Sweeping}
use Rattle.sg_words.specs.declared.steps.BlockStep.TheVariants.{LoadBlock, LoadUsed}
use Rattle.sg_words.specs.declared.steps.Step.{Step}
use Rattle.sg_words.specs.declared.steps.Step.TheVariants.{OnBlock}
use Rattle.sg_words.specs.Blocks.{slots}
use Rattle.sg_program.specs.declared.program.Statement.{Statement}
use Rattle.sg_slots.specs.Looks.{IsFull, IsLowest}
use Rattle.sg_actor.specs.declared.mutator.Stage.{Stage}
use Rattle.sg_actor.specs.declared.mutator.Stage.TheVariants.{OpeningBlock, TakingSlot, TakingOver}

-- block c is seen swept with slots of this size, and then its occupancy as `used`
abbrev pub looks_within : ℕ → ℕ → ℕ → List Step
looks_within size c used = OnBlock (LoadBlock c (Swept size)) ∷ OnBlock (LoadUsed c used) ∷ []

-- These loads are a look at block c, for a slot of `size` words for the object of the statement s, and end so: with what the mutator
-- prepares there, or with none, where the search goes on behind the block. It is that of a free block, of one of this size with a clear
-- slot, and of an owed one.
pub data IsLook (s : Statement) (size c : ℕ) : List Step → Option Stage → Type 0 where
  SeesFree : IsLook s size c (OnBlock (LoadBlock c Free) ∷ []) (Some (OpeningBlock s c))
  SeesSlot : (used i : ℕ) → IsLowest used (slots size) i → IsLook s size c (looks_within size c used) (Some (TakingSlot s c i))
  SeesFull : (used : ℕ) → IsFull used (slots size) → IsLook s size c (looks_within size c used) None
  SeesOther : (z : ℕ) → z ≢ size → IsLook s size c (OnBlock (LoadBlock c (Swept z)) ∷ []) None
  SeesOwed : (z : ℕ) → IsLook s size c (OnBlock (LoadBlock c (Need z)) ∷ []) (Some (TakingOver s c z))
  SeesSweep : (z : ℕ) → IsLook s size c (OnBlock (LoadBlock c (Sweeping z)) ∷ []) None
