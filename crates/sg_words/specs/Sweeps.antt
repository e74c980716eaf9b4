-- What the sweep of a block makes of its word and its occupancy, and the steps that zero words.
use Rattle.std.specs.Prelude.{ℕ, zero, suc, ◌+◌, ◌==◌, if◌then◌else◌, List, [], ◌∷◌, ◌++◌}
use Rattle.sg_words.specs.declared.steps.BlockWord.{BlockWord}
use Rattle.sg_words.specs.declared.steps.BlockWord.TheVariants.{Free, Swept, Need, Sweeping}
use Rattle.sg_words.specs.declared.steps.BlockStep.TheVariants.{Zero}
use Rattle.sg_words.specs.declared.steps.Step.{Step}
use Rattle.sg_words.specs.declared.steps.Step.TheVariants.{OnBlock}

-- a block's word after what is to be swept was swept, by the block's marks: such a block is swept, or free where nothing is marked
abbrev pub swept_word : BlockWord → ℕ → BlockWord
swept_word Free marks = Free
swept_word (Swept size) marks = Swept size
swept_word (Need size) marks = if marks == 0 then Free else Swept size
swept_word (Sweeping size) marks = Sweeping size

-- its occupancy then: that of a block that was to be swept is its marks
abbrev pub swept_used : BlockWord → ℕ → ℕ → ℕ
swept_used Free used marks = used
swept_used (Swept size) used marks = used
swept_used (Need size) used marks = marks
swept_used (Sweeping size) used marks = used

-- n words from the word `from` on become zero, in order
abbrev pub zero_steps : ℕ → ℕ → List Step
zero_steps from zero = []
zero_steps from (suc n) = zero_steps from n ++ OnBlock (Zero (from + n)) ∷ []
