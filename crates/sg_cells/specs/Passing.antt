-- What a port passes over in a search for a slot.
use Rattle.std.specs.Prelude.{◌≡◌, ◌≢◌, ℕ, zero, suc, ◌+◌, ◌<◌, List, [], ◌∷◌, ◌++◌}
use Rattle.std.specs.Int.{bit_at}
use Rattle.sg_words.specs.declared.steps.BlockWord.TheVariants.{Swept}
use Rattle.sg_words.specs.declared.steps.BlockStep.TheVariants.{LoadBlock, LoadUsed}
use Rattle.sg_words.specs.declared.steps.Step.{Step}
use Rattle.sg_words.specs.declared.steps.Step.TheVariants.{OnBlock}
use Rattle.sg_words.specs.Blocks.{slots}

-- These loads pass over block c: they see that it is swept, and that it has no slot of `size` words for a new object, since its slots have another
-- size, or are all occupied.
pub data PassesBlock (size c : ℕ) : List Step → Type 0 where
  SeesOther : (z : ℕ) → z ≢ size → PassesBlock size c (OnBlock (LoadBlock c (Swept z)) ∷ [])
  SeesFull : (used : ℕ) → ((i : ℕ) → i < slots size → bit_at used i ≡ 1) → PassesBlock size c
      (OnBlock (LoadBlock c (Swept size)) ∷ OnBlock (LoadUsed c used) ∷ [])

-- these loads pass so over the n blocks from block `from` on, in order
abbrev pub PassBlocks : ℕ → ℕ → ℕ → List Step → Type 0
PassBlocks size from zero es = es ≡ []
PassBlocks size from (suc n) es =
    (before : List Step) × (ts : List Step) × PassBlocks size from n before × PassesBlock size (from + n) ts × (es ≡ before ++ ts)
