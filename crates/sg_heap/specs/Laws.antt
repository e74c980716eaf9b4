-- A space that holds a graph by a book is sound by the first words of its objects, whether blocks are owed or not; and it still holds
-- the graph when they are swept.
use Rattle.std.specs.Prelude.{◌≡◌, ℕ, ◌<◌, length}
use Rattle.sg_words.specs.Blocks.{IsSizeClass}
use Rattle.sg_words.specs.declared.steps.BlockWord.TheVariants.{Need, Sweeping}
use Rattle.sg_program.specs.declared.program.Program.{Program}
use Rattle.sg_graph.specs.Graph.{Graph}
use Rattle.sg_graph.specs.Book.{Book, swept_out}
use Rattle.sg_graph.specs.Heap.{Owner, IsHeap}
use Rattle.sg_graph.specs.Blocks.{AreSettled}
use Rattle.sg_space.specs.Space.{Contents, IsContents, words_of}
use Rattle.sg_space.specs.Standing.{word, block_in}
use Rattle.sg_space.specs.Swept.{HasSwept}
use Rattle.sg_heap.specs.Holding.{IsSpaceOf, HoldsHeap, OwesNothing}
use Rattle.sg_heap.specs.Fronts.{IsFronted}

pub record FrontLaw : Type 0 where
  pub fronted : (p : Program) (s : Contents) (g : Graph) (b : Book) (owner : ℕ → Owner) → IsSpaceOf p s b → IsHeap p (word s) g b owner →
      AreSettled p (words_of s) g b owner → IsContents s → IsFronted p s g b owner

-- Where all blocks that were to be swept were swept, the space holds the same graph by the book that owes no block. Until then no block is being
-- swept, and one that is to be swept has slots of a size class. The stop word says nothing of the graph.
pub record SweepLaw : Type 0 where
  pub swept : (p : Program) (s t : Contents) (g : Graph) (b : Book) → IsContents s → HoldsHeap p s g b → HasSwept s t →
      HoldsHeap p t g (swept_out b) × IsContents t × OwesNothing p (swept_out b)
  pub settled : (p : Program) (s : Contents) (g : Graph) (b : Book) → HoldsHeap p s g b → IsContents s → (c z : ℕ) → c < length s.blocks →
      block_in s c ≡ Sweeping z → ⊥
  pub sized : (p : Program) (s : Contents) (g : Graph) (b : Book) → HoldsHeap p s g b → IsContents s → (c z : ℕ) → c < length s.blocks →
      block_in s c ≡ Need z → IsSizeClass z
  pub stops : (p : Program) (s : Contents) (g : Graph) (b : Book) (n : ℕ) → HoldsHeap p s g b → HoldsHeap p (record s { stop = n }) g b
