-- The grammar of the input: which programs a text reads as, and which line it refuses first. It speaks of the list of lines.
use Rattle.std.specs.Prelude.{◌≡◌, ◌≢◌, ℕ, suc, ◌<◌, ◌⊎◌, Some, List, [], ◌∷◌, ◌++◌, length, take, slice_get}
use Rattle.std.specs.List.{Contains, AllByRecursion}
use Rattle.std.specs.Prelude.{map}
use Rattle.sg_program.specs.declared.program.Config.{Config}
use Rattle.sg_program.specs.declared.program.Class.{Class}
use Rattle.sg_program.specs.declared.program.Statement.{Statement}
use Rattle.sg_program.specs.declared.program.Item.{Item, out-Item}
use Rattle.sg_program.specs.declared.program.Item.TheOpen.{One, Repeat}
use Rattle.sg_program.specs.declared.program.Script.{Script}
use Rattle.sg_program.specs.declared.program.Program.{Program}
use Rattle.sg_words.specs.Lists.{Pairwise}
use Rattle.sg_program.specs.Scripts.{repeated}
use Rattle.sg_text.specs.declared.line.Setting.{Setting}
use Rattle.sg_text.specs.declared.line.Setting.TheVariants.{Nursery, Blocks, Pages, Buffer, Workers, Cement}
use Rattle.sg_text.specs.Words.{lines_of}
use Rattle.sg_text.specs.Lines.{Maker, made_by, Sentence, Heads, Sets, Declares, Begins, Repeats, Ends, Makes, Says}
use Rattle.sg_text.specs.Numbered.{Numbered, sentences, Say}

-- The sentences are those of the items, where a name stands for the class with this number by `names`. A repeat without a
-- statement in it, at any depth, is no item.
pub data AreItems (names : List ℕ → ℕ → Type 0) : List Sentence → List Item → Type 0 where
  NoItem : AreItems names [] []
  OneSays : (s : Statement) (rest : List Sentence) (item : Item) (items : List Item) →
      out-Item item ≡ One s → AreItems names rest items → AreItems names (Says s ∷ rest) (item ∷ items)
  OneMakes : (maker : Maker) (r class : ℕ) (name : List ℕ) (rest : List Sentence) (item : Item) (items : List Item) →
      names name class → out-Item item ≡ One (made_by maker r class) → AreItems names rest items → AreItems names (Makes maker r name ∷ rest) (item ∷ items)
  NoRepeat : (times : ℕ) (body rest whole : List Sentence) (items : List Item) →
      whole ≡ Repeats times ∷ body ++ Ends ∷ rest → AreItems names body [] → AreItems names rest items → AreItems names whole items
  OneRepeat : (times : ℕ) (body rest whole : List Sentence) (item : Item) (inner items : List Item) →
      whole ≡ Repeats times ∷ body ++ Ends ∷ rest → AreItems names body inner → inner ≢ [] → out-Item item ≡ Repeat times inner → AreItems names rest items →
      AreItems names whole (item ∷ items)

-- scripts: `mutator`, the items, `end`
abbrev pub AreScripts : (List ℕ → ℕ → Type 0) → List Sentence → List Script → Type 0
AreScripts names lines [] = lines ≡ []
AreScripts names lines (script ∷ scripts) =
    (body rest : List Sentence) × (lines ≡ Begins ∷ body ++ Ends ∷ rest) × AreItems names body script.items × AreScripts names rest scripts

-- the sentence declares this class
abbrev pub IsClass : Sentence → Class → Type 0
IsClass line class = line ≡ Declares class.name class.shape

-- the value of a setting
abbrev pub value_in : Config → Setting → ℕ
value_in config Nursery = config.nursery
value_in config Blocks = config.blocks
value_in config Pages = config.pages
value_in config Buffer = config.buffer
value_in config Workers = config.workers
value_in config Cement = config.cement

-- the settings where no line gives any
abbrev pub defaults : Config
defaults = record { nursery = 4096; blocks = 64; pages = 64; buffer = 64; workers = 1; cement = 4 }

abbrev pub IsSetting : Sentence → Type 0
IsSetting line = (setting : Setting) × (n : ℕ) × (line ≡ Sets setting n)

-- each sentence gives a setting, no two give the same one, and each setting has the value that is given or else its default
pub record AreSettings (lines : List Sentence) (config : Config) : Type 0 where
  pub settings : AllByRecursion IsSetting lines
  pub once : (i j : ℕ) (setting : Setting) (n m : ℕ) → slice_get lines i ≡ Some (Sets setting n) → slice_get lines j ≡ Some (Sets setting m) → i ≡ j
  pub given : (setting : Setting) (n : ℕ) → Contains lines (Sets setting n) → value_in config setting ≡ n
  pub else : (setting : Setting) → ((n : ℕ) → ¬ Contains lines (Sets setting n)) → value_in config setting ≡ value_in defaults setting

-- the sentences are those of the program: its head, its settings, its classes and its scripts
pub record IsProgram (names : List ℕ → ℕ → Type 0) (lines : List Sentence) (p : Program) : Type 0 where
  pub settings : List Sentence
  pub classes : List Sentence
  pub scripts : List Sentence
  pub in_order : lines ≡ Heads ∷ settings ++ classes ++ scripts
  pub are_settings : AreSettings settings p.config
  pub are_classes : Pairwise IsClass classes p.classes
  pub are_scripts : AreScripts names scripts p.mutators

-- the word is the name of class c
abbrev pub IsClassName : List Class → List ℕ → ℕ → Type 0
IsClassName classes word c = slice_get (map (λ (class : Class). class.name) classes) c ≡ Some word

-- the word stands for the first class of this name
pub record StandsFor (classes : List Class) (word : List ℕ) (c : ℕ) : Type 0 where
  pub named : IsClassName classes word c
  pub first : (d : ℕ) → d < c → ¬ IsClassName classes word d

-- any name stands for any class
abbrev pub IsAnyName : List ℕ → ℕ → Type 0
IsAnyName word c = Unit {0}

-- sentences of a whole text, whatever the names stand for
abbrev pub IsWholeText : List Sentence → Type 0
IsWholeText lines = (p : Program) × IsProgram IsAnyName lines p

-- sentences with which a text may begin
abbrev pub CanGoOn : List Sentence → Type 0
CanGoOn lines = (more : List Sentence) × IsWholeText (lines ++ more)

-- the sentences and n ends are a whole text
abbrev pub IsFinishedBy : List Sentence → ℕ → Type 0
IsFinishedBy lines n = IsWholeText (lines ++ repeated n (Ends ∷ []))

-- a text may begin with the sentences: there are none, or some number of ends makes them whole
abbrev pub IsPrefix : List Sentence → Type 0
IsPrefix lines = (lines ≡ []) ⊎ ((n : ℕ) × IsFinishedBy lines n)

-- the lines are a text of the grammar, which says this
abbrev pub IsTextOf : List (List ℕ) → List Numbered → Type 0
IsTextOf lines found = Say lines found × IsWholeText (sentences found)

-- the lines are a text of the grammar
abbrev pub IsText : List (List ℕ) → Type 0
IsText lines = (found : List Numbered) × IsTextOf lines found

-- the lines are a prefix of some text
abbrev pub MayGoOn : List (List ℕ) → Type 0
MayGoOn lines = (more : List (List ℕ)) × IsText (lines ++ more)

-- line k is the first one that the grammar refuses: the lines before it are a prefix of some text, and the lines up to it aren't;
-- or all are such a prefix and no text, and it is the last one
abbrev pub IsFirstRefused : List (List ℕ) → ℕ → Type 0
IsFirstRefused lines k =
    ((j : ℕ) × (k ≡ suc j) × (j < length lines) × MayGoOn (take j lines) × ¬ MayGoOn (take (suc j) lines))
    ⊎ ((k ≡ length lines) × MayGoOn lines × ¬ IsText lines)

-- the bytes read as the program
abbrev pub ReadsAs : List ℕ → Program → Type 0
ReadsAs bytes p = (found : List Numbered) × Say (lines_of bytes) found × IsProgram (StandsFor p.classes) (sentences found) p

-- a text has at most one reading
pub record HasOneReading : Type 0 where
  pub one : (bytes : List ℕ) (p q : Program) → ReadsAs bytes p → ReadsAs bytes q → p ≡ q
