-- Sentences are those of one program at most.
use Rattle.std.specs.Prelude.{◌≡◌, ℕ, List, ◌∷◌, ◌++◌}
use Rattle.sg_program.specs.declared.program.Class.{Class}
use Rattle.sg_program.specs.declared.program.Item.{Item}
use Rattle.sg_program.specs.declared.program.Program.{Program}
use Rattle.sg_text.specs.Lines.{Sentence, Ends}
use Rattle.sg_grammar.specs.Text.{AreItems, IsProgram, StandsFor}

-- two readings agree on where items end, and on the items
pub record AreOneBody (l m : List Sentence) (i j : List Item) (r s : List Sentence) : Type 0 where
  pub lines : l ≡ m
  pub items : i ≡ j
  pub rest : r ≡ s

-- a name stands for one class at most, items end at one place, and sentences are those of one program at most
pub record HaveOneProgram : Type 0 where
  pub class : (classes : List Class) (word : List ℕ) (c d : ℕ) → StandsFor classes word c → StandsFor classes word d → c ≡ d
  pub body : (classes : List Class) (body other rest behind : List Sentence) (items found : List Item) →
      AreItems (StandsFor classes) body items → AreItems (StandsFor classes) other found → body ++ Ends ∷ rest ≡ other ++ Ends ∷ behind →
      AreOneBody body other items found rest behind
  pub program : (said : List Sentence) (p q : Program) → IsProgram (StandsFor p.classes) said p → IsProgram (StandsFor q.classes) said q → p ≡ q
