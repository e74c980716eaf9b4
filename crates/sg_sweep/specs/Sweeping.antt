-- The steps of the sweep of a block, and how it ends.
use Rattle.std.specs.Prelude.{◌≡◌, ℕ, zero, suc, ◌+◌, ◌-◌, ◌==◌, if◌then◌else◌, List, [], ◌∷◌, ◌++◌}
use Rattle.std.specs.Int.{bit_at}
use Rattle.sg_words.specs.declared.steps.BlockWord.{BlockWord}
use Rattle.sg_words.specs.declared.steps.BlockWord.TheVariants.{Free, Swept, Need, Sweeping}
use Rattle.sg_words.specs.declared.steps.BlockStep.TheVariants.{LoadBlock, WonBlock, LostBlock, StoreBlock, StoreUsed}
use Rattle.sg_words.specs.declared.steps.Step.{Step}
use Rattle.sg_words.specs.declared.steps.Step.TheVariants.{OnBlock}
use Rattle.sg_words.specs.declared.steps.Call.{Call}
use Rattle.sg_words.specs.declared.steps.Call.TheVariants.{OnBlocks}
use Rattle.sg_words.specs.declared.steps.BlockCall.TheVariants.{LoadsBlock, SwapsBlock}
use Rattle.sg_words.specs.Blocks.{IsSizeClass, slots, slot_from}
use Rattle.sg_words.specs.Sweeps.{swept_word, zero_steps}
use Rattle.sg_cells.specs.Made.{Makes}
use Rattle.sg_cells.specs.Allowed.{MayMake}
use Rattle.sg_sweep.specs.declared.sweep.Sweep.{Sweep}
use Rattle.sg_sweep.specs.declared.sweep.Sweep.TheVariants.{Done, NotOwed, Lost}

-- the block is to be swept
abbrev pub IsOwed : BlockWord → Type 0
IsOwed Free = ⊥
IsOwed (Swept size) = ⊥
IsOwed (Need size) = Unit {0}
IsOwed (Sweeping size) = ⊥

-- the word of a block that is taken over
abbrev pub taken_word : BlockWord → BlockWord
taken_word Free = Free
taken_word (Swept size) = Swept size
taken_word (Need size) = Sweeping size
taken_word (Sweeping size) = Sweeping size

-- the steps that zero slot i of z words of block b where it isn't marked, and those for the first n slots, in order; the major heap begins at `heap`
abbrev pub slot_steps : ℕ → ℕ → ℕ → ℕ → ℕ → List Step
slot_steps heap b z marks i = if bit_at marks i == 0 then zero_steps (slot_from heap b z i) z else []

abbrev pub clear_steps : ℕ → ℕ → ℕ → ℕ → ℕ → List Step
clear_steps heap b z marks zero = []
clear_steps heap b z marks (suc n) = clear_steps heap b z marks n ++ slot_steps heap b z marks n

-- the steps of who sweeps block b, of slots of z words: the occupancy becomes the marks, the slots that aren't marked become zero, and the block's
-- word is stored
abbrev pub sweep_steps : ℕ → ℕ → ℕ → ℕ → List Step
sweep_steps heap b z marks = OnBlock (StoreUsed b marks) ∷ clear_steps heap b z marks (slots z) ++ OnBlock (StoreBlock b (swept_word (Need z) marks)) ∷ []

-- how many of the first n slots aren't marked
abbrev pub unmarked : ℕ → ℕ → ℕ
unmarked marks zero = 0
unmarked marks (suc n) = unmarked marks n + (1 - bit_at marks n)

-- the port lets its actor sweep block b: load its word; where it was seen to be still to be swept, make the exchange; and where that was won, make the
-- steps of the sweep
pub record MaySweep {P : Type 0} (leads : P → List Step → P → Type 0) (sees : P → Step → Type 0) (may : P → Call → Type 0) (heap b marks : ℕ) (p : P) :
    Type 0 where
  pub load : may p (OnBlocks (LoadsBlock b))
  pub swap : (z : ℕ) (q : P) → Makes leads sees p (OnBlock (LoadBlock b (Need z)) ∷ []) q → may q (OnBlocks (SwapsBlock b (Need z) (Sweeping z)))
  pub write : (z : ℕ) (q : P) → Makes leads sees p (OnBlock (LoadBlock b (Need z)) ∷ OnBlock (WonBlock b (Need z) (Sweeping z)) ∷ []) q →
      MayMake leads sees may q (sweep_steps heap b z marks)

-- the port shows block b only with slots of a size class where it is still to be swept
abbrev pub ShowsClass : {P : Type 0} → (P → Step → Type 0) → ℕ → P → Type 0
ShowsClass {P} sees b p = (z : ℕ) → sees p (OnBlock (LoadBlock b (Need z))) → IsSizeClass z

-- The steps lead from p to q with this end: another word was seen; or the exchange found another one; or the block was swept, and so many slots became
-- zero.
abbrev pub Sweeps : {P : Type 0} → (P → List Step → P → Type 0) → (P → Step → Type 0) → ℕ → ℕ → ℕ → P → P → Sweep → Type 0
Sweeps {P} leads sees heap b marks p q (Done freed) = (z : ℕ) ×
    Makes leads sees p (OnBlock (LoadBlock b (Need z)) ∷ OnBlock (WonBlock b (Need z) (Sweeping z)) ∷ sweep_steps heap b z marks) q ×
    (freed ≡ unmarked marks (slots z))
Sweeps {P} leads sees heap b marks p q (NotOwed seen) = Makes leads sees p (OnBlock (LoadBlock b seen) ∷ []) q × (IsOwed seen → ⊥)
Sweeps {P} leads sees heap b marks p q (Lost found) = (z : ℕ) ×
    Makes leads sees p (OnBlock (LoadBlock b (Need z)) ∷ OnBlock (LostBlock b (Need z) (Sweeping z) found) ∷ []) q
