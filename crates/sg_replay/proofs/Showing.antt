-- What is told of the sections is determined by the graph and the book.
use Rattle.std.proofs.Common.{◌≡◌, Option, Some, None, sym, ap, ◌∙◌, subst}
use Rattle.std.specs.List.{Contains}
use Rattle.sg_program.specs.declared.program.Statement.{Statement}
use Rattle.sg_program.specs.declared.program.Statement.TheVariants.{Sections as AsksSections}
use Rattle.sg_program.specs.declared.program.Program.{Program}
use Rattle.sg_program.specs.Scripts.{words_for}
use Rattle.sg_graph.specs.declared.reports.BlockLine.{BlockLine}
use Rattle.sg_graph.specs.declared.reports.Sections.{Sections}
use Rattle.sg_graph.specs.Graph.{Graph}
use Rattle.sg_graph.specs.Book.{Book, IsInBlock}
use Rattle.sg_graph.specs.Pause.{StandsYoung}
use Rattle.sg_graph.specs.Major.{HasCount}
use Rattle.sg_graph.specs.Sections.{TellsBlock, TellsSections, block_number}
use Rattle.sg_graph.specs.Stop.{Shows}
use Rattle.sg_replay.proofs.Rising.{one_by_key}
use Rattle.sg_replay.proofs.Counting.{one_total, one_length, one_count}

module _ (p : Program) (g : Graph) (b : Book) where
  -- two lines of one block are one
  one_line : (k l : BlockLine) → TellsBlock p g b k → TellsBlock p g b l → k.block ≡ l.block → k ≡ l
  one_line k l x y block = λ j. record { block = block j; size = size j; used = used j }
    where
      size : k.size ≡ l.size
      size = sym (x.size x.name x.some) ∙ y.size x.name (subst (λ z. IsInBlock p b x.name z) block x.some)

      used : k.used ≡ l.used
      used = one_count (λ n. IsInBlock p b n l.block) k.used l.used (subst (λ z. HasCount (λ n. IsInBlock p b n z) k.used) block x.used) y.used

  passed_on : (t u : Sections) → TellsSections p g b t → TellsSections p g b u → (line : BlockLine) → Contains t.blocks line → Contains u.blocks line
  passed_on t u x y line i =
      let told = x.each line i in
      let there = y.all line.block told.name told.there told.some in
      subst (λ z. Contains u.blocks z) (one_line there.0 line (y.each there.0 there.1) told there.2) there.1

  module _ (t u : Sections) (x : TellsSections p g b t) (y : TellsSections p g b u) where
    young : t.young ≡ u.young
    young = x.nursery.count ∙ one_length (StandsYoung b) x.nursery.names y.nursery.names x.nursery.are y.nursery.are ∙ sym y.nursery.count

    young_words : t.young_words ≡ u.young_words
    young_words =
        x.nursery.words
        ∙ one_total (StandsYoung b) x.nursery.names y.nursery.names x.nursery.are y.nursery.are (λ n. words_for (g.size n))
        ∙ sym y.nursery.words

    blocks : t.blocks ≡ u.blocks
    blocks = one_by_key block_number t.blocks u.blocks x.in_order y.in_order (passed_on t u x y) (passed_on u t y x)

    one_telling : t ≡ u
    one_telling = λ j. record { young = young j; young_words = young_words j; blocks = blocks j }

  -- and so is what is told to who asks for it, or doesn't
  pub one_showing : (s : Statement) (t u : Option Sections) → Shows p g b s t → Shows p g b s u → t ≡ u
  one_showing AsksSections (Some t) (Some u) x y = ap (λ z. Some z) (one_telling t u x y)
  one_showing AsksSections (Some t) None x y = absurd y
  one_showing AsksSections None u x y = absurd x
  one_showing s t u x y = x ∙ sym y
