-- What the parts of telling the sections say of words and lists.
use Rattle.std.specs.Prelude.{◌≡◌, ℕ, zero, suc, ◌+◌, ◌<◌, List, map}
use Rattle.std.specs.Int.{bit_at}
use Rattle.std.specs.List.{Contains, sum_by}
use Rattle.std.specs.List.Sorted.{IsStrictlyIncreasing}
use Rattle.sg_words.specs.declared.steps.BlockWord.TheVariants.{Swept}
use Rattle.sg_program.specs.declared.program.Program.{Program}
use Rattle.sg_graph.specs.declared.reports.BlockLine.{BlockLine}
use Rattle.sg_graph.specs.Graph.{Graph}
use Rattle.sg_graph.specs.Book.{Book}
use Rattle.sg_graph.specs.Sections.{block_number}
use Rattle.sg_space.specs.declared.objects.Object.{Object}
use Rattle.sg_space.specs.Space.{Contents}
use Rattle.sg_space.specs.Standing.{block_in, used_in}
use Rattle.sg_heap.specs.Holding.{HoldsHeap, OwesNothing}

-- some program's graph stands in the space by some book, and no block is still to be swept
abbrev pub HoldsSwept : Contents → Type 0
HoldsSwept s = (p : Program) × (g : Graph) × (b : Book) × HoldsHeap p s g b × OwesNothing p b

-- how many words the objects have together
abbrev pub words_together : List Object → ℕ
words_together told = sum_by (λ (o : Object). o.words) told

-- how many of the n lowest bits of the mask are set
unfoldable pub bits_below : ℕ → ℕ → ℕ
bits_below mask zero = 0
bits_below mask (suc n) = bits_below mask n + bit_at mask n

-- the block is swept, has slots of this size, and so many of them are occupied
pub record IsLineOf (s : Contents) (line : BlockLine) : Type 0 where
  pub swept : block_in s line.block ≡ Swept line.size
  pub used : line.used ≡ bits_below (used_in s line.block) 64

-- this is the line of block b
pub record IsLineAt (s : Contents) (b : ℕ) (line : BlockLine) : Type 0 where
  pub block : line.block ≡ b
  pub of : IsLineOf s line

-- there is a line for exactly the swept ones of the first n blocks, in order
pub record AreLines (s : Contents) (n : ℕ) (lines : List BlockLine) : Type 0 where
  pub in_order : IsStrictlyIncreasing (map block_number lines)
  pub below : (line : BlockLine) → Contains lines line → line.block < n
  pub each : (line : BlockLine) → Contains lines line → IsLineOf s line
  pub all : (b z : ℕ) → b < n → block_in s b ≡ Swept z → (line : BlockLine) × Contains lines line × (line.block ≡ b)
