-- The number of a block's word, and the size class for an object.
use Rattle.std.specs.Prelude.{◌≡◌, ℕ, ◌+◌, ◌*◌, ◌<◌, ◌≤◌, ◌⊎◌, ◌==◌, if◌then◌else◌, Option, Some, None, List, [], ◌∷◌}
use Rattle.sg_words.specs.declared.steps.BlockWord.{BlockWord}
use Rattle.sg_words.specs.declared.steps.BlockWord.TheVariants.{Free, Swept, Need, Sweeping}
use Rattle.sg_words.specs.Blocks.{sizes, slot_size, IsSizeClass}

-- the place of z in a list
abbrev pub place_in : ℕ → List ℕ → ℕ
place_in z [] = 0
place_in z (y ∷ ys) = if z == y then 0 else place_in z ys + 1

-- the place of a size class among them, from 0 to 8
abbrev pub place_of : ℕ → ℕ
place_of z = place_in z sizes

-- the size in a block's word is a size class
abbrev pub IsBlockWord : BlockWord → Type 0
IsBlockWord Free = Unit {0}
IsBlockWord (Swept size) = IsSizeClass size
IsBlockWord (Need size) = IsSizeClass size
IsBlockWord (Sweeping size) = IsSizeClass size

-- the number that stands for a block's word
abbrev pub block_number : BlockWord → ℕ
block_number Free = 0
block_number (Swept size) = 4 * place_of size + 1
block_number (Need size) = 4 * place_of size + 2
block_number (Sweeping size) = 4 * place_of size + 3

-- the answer is the least size class that holds n words, or none where there is none or no need
abbrev pub IsSizeFor : ℕ → Option ℕ → Type 0
IsSizeFor n (Some size) = (1 ≤ n) × (n ≤ 64) × (size ≡ slot_size n)
IsSizeFor n None = (n ≡ 0) ⊎ (64 < n)
