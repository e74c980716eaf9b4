-- A space that holds a graph of named objects, by the book of their addresses.
use Rattle.std.specs.Prelude.{◌≡◌, ℕ, ◌<◌, false, [], map, length, slice_index}
use Rattle.std.specs.Int.{bit_at}
use Rattle.sg_words.specs.Address.{byte_at}
use Rattle.sg_words.specs.Blocks.{slots}
use Rattle.sg_words.specs.declared.steps.BlockWord.TheVariants.{Swept}
use Rattle.sg_program.specs.declared.program.Class.{Class}
use Rattle.sg_program.specs.declared.program.Program.{Program}
use Rattle.sg_graph.specs.Graph.{Graph}
use Rattle.sg_graph.specs.Book.{Book}
use Rattle.sg_graph.specs.Heap.{Owner, IsHeap, layout_of}
use Rattle.sg_graph.specs.Blocks.{AreSettled}
use Rattle.sg_space.specs.Space.{Contents, words_of}
use Rattle.sg_space.specs.Standing.{word, block_in, used_in}

-- The space has the program's sections and classes, and the book's fragments; only slots of a block are occupied. No page is taken,
-- nothing is registered or ready, and no pair stands, since none of these is built yet.
pub record IsSpaceOf (p : Program) (s : Contents) (b : Book) : Type 0 where
  pub layout : s.layout ≡ layout_of p
  pub shapes : s.shapes ≡ map (λ (class : Class). class.shape) p.classes
  pub fragments : b.fragments ≡ length s.ends
  pub same : length s.next ≡ length s.ends
  pub next : (f : ℕ) → f < b.fragments → slice_index s.next f ≡ byte_at (b.next f)
  pub limit : (f : ℕ) → f < b.fragments → slice_index s.ends f ≡ byte_at (b.limit f)
  pub fits : (c z i : ℕ) → c < p.config.blocks → block_in s c ≡ Swept z → bit_at (used_in s c) i ≡ 1 → i < slots z
  pub pages : (j : ℕ) → slice_index s.pages j ≡ 0
  pub head : s.head ≡ 0
  pub made : s.made ≡ 0
  pub registered : s.registered ≡ []
  pub pairs : s.pairs ≡ []

-- the space holds the graph by the book, and its blocks and cards are as they are between two phases
abbrev pub HoldsHeap : Program → Contents → Graph → Book → Type 0
HoldsHeap p s g b = IsSpaceOf p s b × ((owner : ℕ → Owner) × IsHeap p (word s) g b owner × AreSettled p (words_of s) g b owner)

-- no block is still to be swept
abbrev pub OwesNothing : Program → Book → Type 0
OwesNothing p b = (c : ℕ) → c < p.config.blocks → b.owed c ≡ false
