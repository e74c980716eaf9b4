-- What the sweeping of all blocks that are to be swept makes of them.
use Rattle.std.specs.Prelude.{◌≡◌, ℕ, ◌+◌, ◌<◌, ◌≤◌, Bool, true}
use Rattle.sg_words.specs.Sweeps.{swept_word, swept_used}
use Rattle.sg_words.specs.declared.steps.BlockWord.{BlockWord}
use Rattle.sg_words.specs.declared.steps.BlockWord.TheVariants.{Swept, Sweeping}
use Rattle.sg_program.specs.declared.program.Program.{Program}
use Rattle.sg_graph.specs.Book.{block_at}
use Rattle.sg_graph.specs.Blocks.{IsDirty}

-- What was to be swept was swept: the words and the occupancies of blocks are by their marks, the slots that were to be zeroed are zero, and each
-- other word is as it was.
pub record AreSwept (p : Program) (marks used used' word word' : ℕ → ℕ) (state state' : ℕ → BlockWord) : Type 0 where
  pub states : (c : ℕ) → c < p.config.blocks → state' c ≡ swept_word (state c) (marks c)
  pub occupied : (c : ℕ) → c < p.config.blocks → used' c ≡ swept_used (state c) (used c) (marks c)
  pub zero : (c x : ℕ) → c < p.config.blocks → IsDirty p (marks c) (state c) c x → word' x ≡ 0
  pub kept : (x : ℕ) → ((c : ℕ) → c < p.config.blocks → IsDirty p (marks c) (state c) c x → ⊥) → word' x ≡ word x

-- no block is being swept
abbrev pub AreAtRest : Program → (ℕ → BlockWord) → Type 0
AreAtRest p state = (c s : ℕ) → c < p.config.blocks → state c ≡ Sweeping s → ⊥

-- an object stands in each swept block
abbrev pub AreInhabited : Program → (ℕ → BlockWord) → (ℕ → Bool) → (ℕ → ℕ) → Type 0
AreInhabited p state stands address =
    (c s : ℕ) → c < p.config.blocks → state c ≡ Swept s → (n : ℕ) × (1 ≤ n) × (stands n ≡ true) × (block_at p c ≤ address n) × (address n < block_at p c + 256)
