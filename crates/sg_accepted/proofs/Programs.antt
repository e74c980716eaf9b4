-- The sentences of a generated text are those of its program.
use Rattle.std.proofs.Common.{◌≡◌, ℕ, zero, suc, ◌≤◌, Option, Some, List, [], ◌∷◌, ◌++◌, map, refl, sym, ap, ◌∙◌, subst, arith, codes}
use Rattle.std.specs.Prelude.{slice_get}
use Rattle.std.specs.List.{Contains}
use Rattle.sg_words.proofs.Everywhere.{contained}
use Rattle.sg_program.specs.declared.program.Item.{Item, out-roll-Item}
use Rattle.sg_program.specs.declared.program.Item.TheOpen.{One}
use Rattle.sg_program.specs.declared.program.Statement.{Statement}
use Rattle.sg_program.specs.declared.program.Statement.TheVariants.{New, Put, PutD, Num, GPut, GGet}
use Rattle.sg_program.specs.declared.program.Program.{Program}
use Rattle.sg_text.specs.declared.line.Setting.{Setting}
use Rattle.sg_text.specs.declared.line.Setting.TheVariants.{Nursery, Blocks, Pages, Buffer, Workers, Cement}
use Rattle.sg_text.specs.Lines.{Sentence, Heads, Sets, Says, AsNew}
use Rattle.sg_grammar.specs.Text.{AreItems, NoItem, OneSays, OneMakes, AreScripts, AreSettings, IsProgram, StandsFor, value_in, defaults}
use Rattle.sg_gen.specs.declared.generated.Move.{Move}
use Rattle.sg_gen.specs.declared.generated.Move.TheVariants.{Grows, Reads, Shrinks}
use Rattle.sg_load.specs.Generated.{item_of, all_statements, script_of_moves, settings, node}
use Rattle.sg_accepted.proofs.MoveLines.{says_move, says_moves, says_all, says_settings, says_class}

-- the name of the class stands for it
pub names_node : StandsFor (node ∷ []) (codes "Node") 0
names_node = record { named = refl; first = λ d l. absurd (omega (arith, l)) }

module _ (names : List ℕ → ℕ → Type 0) (named : names (codes "Node") 0) where
  one : (s : Statement) (rest : List Sentence) (items : List Item) → AreItems names rest items → AreItems names (Says s ∷ rest) (item_of s ∷ items)
  one s rest items are = OneSays s rest (item_of s) items (out-roll-Item (One s)) are

  move_items : (move : Move) (rest : List Sentence) (items : List Item) → AreItems names rest items →
      AreItems names (says_move move ++ rest) (map item_of (all_statements (move ∷ [])) ++ items)
  move_items (Grows global number) rest items are =
      OneMakes AsNew 0 0 (codes "Node") _ (item_of (New 0 0)) _ named (out-roll-Item (One (New 0 0)))
      (one (Num 1 number) _ _ (one (PutD 0 2 1) _ _ (one (GGet 2 global) _ _ (one (Put 0 0 2) _ _ (one (GPut global 0) _ _ are)))))
  move_items (Reads global) rest items are = one _ _ _ (one _ _ _ (one _ _ _ (one _ _ _ (one _ _ _ (one _ _ _ are)))))
  move_items (Shrinks global) rest items are = one _ _ _ (one _ _ _ (one _ _ _ (one _ _ _ (one _ _ _ (one _ _ _ are)))))

  items_of_move : (move : Move) (moves : List Move) → map item_of (all_statements (move ∷ moves)) ≡ map item_of (all_statements (move ∷ [])) ++ map item_of (all_statements moves)
  items_of_move (Grows global number) moves = refl
  items_of_move (Reads global) moves = refl
  items_of_move (Shrinks global) moves = refl

  pub moves_items : (moves : List Move) → AreItems names (says_moves moves) (map item_of (all_statements moves))
  moves_items [] = NoItem
  moves_items (move ∷ moves) =
      subst (AreItems names (says_moves (move ∷ moves))) (sym (items_of_move move moves))
      (move_items move (says_moves moves) (map item_of (all_statements moves)) (moves_items moves))

  pub scripts : (mss : List (List Move)) → AreScripts names (says_all mss) (map script_of_moves mss)
  scripts [] = refl
  scripts (moves ∷ mss) = (says_moves moves, says_all mss, refl, moves_items moves, scripts mss)

-- the settings
abbrev check : Sentence → Type 0
check (Sets setting n) = value_in settings setting ≡ n
check s = Unit {0}

abbrev place_of : Setting → ℕ
place_of Nursery = 0
place_of Blocks = 1
place_of Pages = 2
place_of Buffer = 3
place_of Workers = 4
place_of Cement = 5

abbrev place_at : Option Sentence → ℕ
place_at (Some (Sets setting n)) = place_of setting
place_at s = 6

few_places : (setting : Setting) → place_of setting ≤ 5
few_places Nursery = omega arith
few_places Blocks = omega arith
few_places Pages = omega arith
few_places Buffer = omega arith
few_places Workers = omega arith
few_places Cement = omega arith

stands_at : (i : ℕ) (setting : Setting) (n : ℕ) → slice_get says_settings i ≡ Some (Sets setting n) → i ≡ place_of setting
stands_at zero setting n e = ap place_at e
stands_at (suc zero) setting n e = ap place_at e
stands_at (suc (suc zero)) setting n e = ap place_at e
stands_at (suc (suc (suc zero))) setting n e = ap place_at e
stands_at (suc (suc (suc (suc zero)))) setting n e = ap place_at e
stands_at (suc (suc (suc (suc (suc zero))))) setting n e = ap place_at e
stands_at (suc (suc (suc (suc (suc (suc i)))))) setting n e =
    let none : 6 ≡ place_of setting = ap place_at e in let few = few_places setting in absurd (omega (arith, none, few))

at_first : (n : ℕ) (rest : List Sentence) (s : Sentence) → Contains (s ∷ rest) s
at_first n rest s = (0, omega arith, refl)

else : (setting : Setting) → ((n : ℕ) → ¬ Contains says_settings (Sets setting n)) → value_in settings setting ≡ value_in defaults setting
else Nursery none = refl
else Blocks none = absurd (none 512 (1, omega arith, refl))
else Pages none = refl
else Buffer none = refl
else Workers none = absurd (none 4 (4, omega arith, refl))
else Cement none = refl

are_settings : AreSettings says_settings settings
are_settings = record {
  settings = ((Nursery, 4096, refl), ((Blocks, 512, refl), ((Pages, 64, refl), ((Buffer, 64, refl), ((Workers, 4, refl), ((Cement, 4, refl), tt))))));
  once = λ i j setting n m at also. stands_at i setting n at ∙ sym (stands_at j setting m also);
  given = λ setting n there. contained check says_settings (Sets setting n) (refl, (refl, (refl, (refl, (refl, (refl, tt)))))) there;
  else = else;
}

-- the program of these moves
abbrev pub program_of : List (List Move) → Program
program_of mss = record { config = settings; classes = node ∷ []; mutators = map script_of_moves mss }

-- and what its text says
abbrev pub says_program : List (List Move) → List Sentence
says_program mss = Heads ∷ says_settings ++ says_class ++ says_all mss

pub is_program : (mss : List (List Move)) → IsProgram (StandsFor (node ∷ [])) (says_program mss) (program_of mss)
is_program mss = record {
  settings = says_settings;
  classes = says_class;
  scripts = says_all mss;
  in_order = refl;
  are_settings = are_settings;
  are_classes = (refl, tt);
  are_scripts = scripts (StandsFor (node ∷ [])) names_node mss;
}
