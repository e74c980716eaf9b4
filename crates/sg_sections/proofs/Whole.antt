-- What is told of all sections.
use Rattle.std.proofs.Common.{◌≡◌, ℕ, ◌≤◌, Option, List, length, arith}
use Rattle.sg_program.specs.declared.program.Program.{Program}
use Rattle.sg_graph.specs.declared.reports.Sections.{Sections}
use Rattle.sg_graph.specs.Book.{Book, slot_words}
use Rattle.sg_graph.specs.Graph.{Graph}
use Rattle.sg_graph.specs.Sections.{TellsSections}
use Rattle.sg_space.specs.declared.objects.Object.{Object}
use Rattle.sg_space.specs.Space.{Contents, IsContents}
use Rattle.sg_space.specs.Standing.{IsSound, IsSoundBy, TellsYoung}
use Rattle.sg_heap.specs.Fronts.{fronts, IsFronted}
use Rattle.sg_heap.specs.Holding.{HoldsHeap, OwesNothing}
use Rattle.sg_heap.specs.Laws.{FrontLaw}
use Rattle.sg_sections.specs.Parts.{HoldsSwept, AreLines, words_together}
use Rattle.sg_sections.proofs.Nursery.{tells_nursery, few as few_words}
use Rattle.sg_sections.proofs.Used.{swept_of, tells_block}

module _ (law : FrontLaw) (s : Contents) (contents : IsContents s) where
  fronted : (p : Program) (g : Graph) (b : Book) (holds : HoldsHeap p s g b) → IsFronted p s g b holds.1.0
  fronted p g b holds = law.fronted p s g b holds.1.0 holds.0 holds.1.1 holds.1.2 contents

  pub is_sound : HoldsSwept s → IsSound s
  is_sound (p, g, b, holds, nothing) = (fronts b.address holds.1.0, (fronted p g b holds).sound)

  module _ (told : List Object) (tells : (owner : ℕ → Option ℕ) → IsSoundBy s owner → TellsYoung s owner told) where
    tells_by : (p : Program) (g : Graph) (b : Book) (holds : HoldsHeap p s g b) → TellsYoung s (fronts b.address holds.1.0) told
    tells_by p g b holds = tells (fronts b.address holds.1.0) (fronted p g b holds).sound

    pub few : HoldsSwept s → (words_together told ≤ 65536) × (length told ≤ words_together told)
    few (p, g, b, holds, nothing) = few_words p s g b holds.1.0 (fronted p g b holds) told (tells_by p g b holds) contents.layout

    pub tells_sections : (p : Program) (g : Graph) (b : Book) → HoldsHeap p s g b → OwesNothing p b → (report : Sections) → report.young ≡ length told →
        report.young_words ≡ words_together told → AreLines s s.layout.blocks report.blocks → TellsSections p g b report
    tells_sections p g b holds nothing report many words lines =
        let is = fronted p g b holds in
        let same = is.blocks_is in
        record {
          nursery = tells_nursery p s g b holds.1.0 is told (tells_by p g b holds) report many words;
          in_order = lines.in_order;
          each = λ line i. (let l = lines.below line i in tells_block p s g b holds.1.0 holds.0 holds.1.2 is nothing line (omega arith) (lines.each line i));
          all = λ j n l i. lines.all j (slot_words (g.size n)) (omega arith) (swept_of p s g b holds.1.0 holds.0 holds.1.2 is nothing n j l i);
        }
