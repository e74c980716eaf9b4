-- What is told of the sections: the objects of the nursery, and the blocks in which something stands.
use Rattle.std.specs.Prelude.{◌≡◌, ℕ, ◌<◌, List, length, map}
use Rattle.std.specs.List.{Contains, sum_by}
use Rattle.std.specs.List.Sorted.{IsStrictlyIncreasing}
use Rattle.sg_program.specs.declared.program.Program.{Program}
use Rattle.sg_program.specs.Scripts.{words_for}
use Rattle.sg_graph.specs.declared.reports.BlockLine.{BlockLine}
use Rattle.sg_graph.specs.declared.reports.Sections.{Sections}
use Rattle.sg_graph.specs.Graph.{Graph}
use Rattle.sg_graph.specs.Book.{Book, slot_words, IsInBlock}
use Rattle.sg_graph.specs.Pause.{StandsYoung}
use Rattle.sg_graph.specs.Major.{AreNames, HasCount}

-- how many objects stand in the nursery, and how many words they have together
pub record TellsNursery (g : Graph) (b : Book) (told : Sections) : Type 0 where
  pub names : List ℕ
  pub are : AreNames (StandsYoung b) names
  pub count : told.young ≡ length names
  pub words : told.young_words ≡ sum_by (λ n. words_for (g.size n)) names

-- objects stand in this block; each has this size, and there are so many
pub record TellsBlock (p : Program) (g : Graph) (b : Book) (line : BlockLine) : Type 0 where
  pub there : line.block < p.config.blocks
  pub name : ℕ
  pub some : IsInBlock p b name line.block
  pub size : (n : ℕ) → IsInBlock p b n line.block → slot_words (g.size n) ≡ line.size
  pub used : HasCount (λ n. IsInBlock p b n line.block) line.used

abbrev pub block_number : BlockLine → ℕ
block_number line = line.block

-- what is told of all sections: there is a line for exactly the blocks in which an object stands, in order
pub record TellsSections (p : Program) (g : Graph) (b : Book) (told : Sections) : Type 0 where
  pub nursery : TellsNursery g b told
  pub in_order : IsStrictlyIncreasing (map block_number told.blocks)
  pub each : (line : BlockLine) → Contains told.blocks line → TellsBlock p g b line
  pub all : (j n : ℕ) → j < p.config.blocks → IsInBlock p b n j → (line : BlockLine) × Contains told.blocks line × (line.block ≡ j)
