-- The faults of a text that the grammar reads: misnamed classes, broken limits, and what isn't run yet.
use Rattle.std.specs.Prelude.{◌≡◌, ℕ, ◌-◌, ◌<◌, ◌≤◌, ◌⊎◌, Bool, true, false, Some, List, [], ◌∷◌, ◌++◌, length, take, slice_get}
use Rattle.std.specs.List.{flat_map, count_by}
use Rattle.sg_desc.specs.declared.shapes.Descriptor.TheVariants.{Ephemeron}
use Rattle.sg_desc.specs.declared.shapes.Shape.{Shape}
use Rattle.sg_desc.specs.Shapes.{is_vector}
use Rattle.sg_program.specs.declared.program.Class.{Class}
use Rattle.sg_program.specs.declared.program.Statement.TheVariants.{GPut, GGet, WSet, WGet, Final, NextFin}
use Rattle.sg_program.specs.declared.program.Program.{Program}
use Rattle.sg_program.specs.Limits.{MayHave, IsNurserySize, most_blocks, most_pages, least_buffer, most_buffer, most_workers, most_cement, most_classes, most_fields, most_vector, last_place, most_times, most_nesting, most_statements, most_finals, most_mutators}
use Rattle.sg_program.specs.Scripts.{statements_in, finals_in}
use Rattle.sg_limits.specs.declared.which.Which.{Which}
use Rattle.sg_limits.specs.declared.which.Which.TheVariants.{Nursery, Blocks, Pages, Buffer, Workers, Cement, Classes, Fields, Vector, Global, Weak, Times, Nesting, Statements, Finals, Mutators}
use Rattle.sg_text.specs.declared.line.Setting.TheVariants.{Nursery as TheNursery, Blocks as TheBlocks, Pages as ThePages, Buffer as TheBuffer, Workers as TheWorkers, Cement as TheCement}
use Rattle.sg_text.specs.Numbered.{Numbered, sentences}
use Rattle.sg_text.specs.Lines.{Maker, AsNew, AsVector, AsMature, Sentence, Sets, Declares, Begins, Repeats, Ends, Makes, Says}
use Rattle.sg_grammar.specs.Text.{IsProgram, IsClassName, StandsFor}

-- the first sentence with the fault, which is a fact of the sentences before it and of its own, stands on this line
pub record IsFirstFault (Fault : List Sentence → Sentence → Type 0) (found : List Numbered) (line : ℕ) : Type 0 where
  pub index : ℕ
  pub one : Numbered
  pub there : slice_get found index ≡ Some one
  pub number : line ≡ one.number
  pub fault : Fault (sentences (take index found)) one.sentence
  pub first : (k : ℕ) (other : Numbered) → k < index → slice_get found k ≡ Some other → ¬ Fault (sentences (take k found)) other.sentence

-- no sentence has the fault
abbrev pub HasNone : (List Sentence → Sentence → Type 0) → List Numbered → Type 0
HasNone Fault found = (k : ℕ) (other : Numbered) → slice_get found k ≡ Some other → ¬ Fault (sentences (take k found)) other.sentence

abbrev pub class_in : Sentence → List Class
class_in (Declares name shape) = record { name = name; shape = shape } ∷ []
class_in line = []

-- the classes that sentences declare, in order
abbrev pub classes_in : List Sentence → List Class
classes_in lines = flat_map class_in lines

-- what a line that makes an object asks of its class: its own number of fields, or as many as each object was made with
abbrev pub wants_vector : Maker → Bool
wants_vector AsNew = false
wants_vector (AsVector count) = true
wants_vector AsMature = false

-- class c has this name and is of the kind that the line asks for
pub record IsFit (classes : List Class) (maker : Maker) (name : List ℕ) (c : ℕ) : Type 0 where
  pub class : Class
  pub there : slice_get classes c ≡ Some class
  pub named : class.name ≡ name
  pub fits : is_vector class.shape.kind ≡ wants_vector maker

-- the line declares a class that is declared above it, or makes an object of a class that isn't, or of one of the other kind
abbrev pub IsMisnamed : List Sentence → Sentence → Type 0
IsMisnamed before line =
    ((name : List ℕ) × (shape : Shape) × (c : ℕ) × (line ≡ Declares name shape) × IsClassName (classes_in before) name c)
    ⊎ ((maker : Maker) × (r : ℕ) × (name : List ℕ) × (line ≡ Makes maker r name) × ((c : ℕ) → ¬ IsFit (classes_in before) maker name c))

abbrev pub is_opening : Sentence → Bool
is_opening Begins = true
is_opening (Repeats times) = true
is_opening line = false

abbrev pub is_ending : Sentence → Bool
is_ending Ends = true
is_ending line = false

abbrev pub is_begin : Sentence → Bool
is_begin Begins = true
is_begin line = false

-- how many mutators and repeats are open behind the sentences
abbrev pub open_behind : List Sentence → ℕ
open_behind lines = count_by is_opening lines - count_by is_ending lines

-- the line ends a mutator, and the program up to it has more than the limit of what is counted
abbrev pub EndsWithMore : (Program → ℕ) → ℕ → List Sentence → Sentence → Type 0
EndsWithMore counted limit before line =
    (line ≡ Ends) × (open_behind before ≡ 1) × ((p : Program) × IsProgram (StandsFor p.classes) (before ++ Ends ∷ []) p × (limit < counted p))

-- the line breaks this limit
abbrev pub Breaks : Which → List Sentence → Sentence → Type 0
Breaks Nursery before line = (n : ℕ) × (line ≡ Sets TheNursery n) × ¬ IsNurserySize n
Breaks Blocks before line = (n : ℕ) × (line ≡ Sets TheBlocks n) × ¬ ((1 ≤ n) × (n ≤ most_blocks))
Breaks Pages before line = (n : ℕ) × (line ≡ Sets ThePages n) × (most_pages < n)
Breaks Buffer before line = (n : ℕ) × (line ≡ Sets TheBuffer n) × ¬ ((least_buffer ≤ n) × (n ≤ most_buffer))
Breaks Workers before line = (n : ℕ) × (line ≡ Sets TheWorkers n) × ¬ ((1 ≤ n) × (n ≤ most_workers))
Breaks Cement before line = (n : ℕ) × (line ≡ Sets TheCement n) × ¬ ((1 ≤ n) × (n ≤ most_cement))
Breaks Classes before line = (name : List ℕ) × (shape : Shape) × (line ≡ Declares name shape) × (most_classes ≤ length (classes_in before))
Breaks Fields before line = (name : List ℕ) × (shape : Shape) × (line ≡ Declares name shape) × ¬ MayHave shape.kind shape.fields
Breaks Vector before line = (count r : ℕ) × (name : List ℕ) × (line ≡ Makes (AsVector count) r name) × (most_vector < count)
Breaks Global before line = (g r : ℕ) × ((line ≡ Says (GPut g r)) ⊎ (line ≡ Says (GGet r g))) × (last_place < g)
Breaks Weak before line = (w r : ℕ) × (long : Bool) × ((line ≡ Says (WSet w r long)) ⊎ (line ≡ Says (WGet r w))) × (last_place < w)
Breaks Times before line = (times : ℕ) × (line ≡ Repeats times) × ¬ ((1 ≤ times) × (times ≤ most_times))
Breaks Nesting before line = (times : ℕ) × (line ≡ Repeats times) × (most_nesting < open_behind before)
Breaks Statements before line = EndsWithMore statements_in most_statements before line
Breaks Finals before line = EndsWithMore finals_in most_finals before line
Breaks Mutators before line = (line ≡ Begins) × (most_mutators ≤ count_by is_begin before)

-- the place of a limit in the table: where one line breaks several, the first one is told
abbrev pub place : Which → ℕ
place Nursery = 0
place Blocks = 1
place Pages = 2
place Buffer = 3
place Workers = 4
place Cement = 5
place Classes = 6
place Fields = 7
place Vector = 8
place Global = 9
place Weak = 10
place Times = 11
place Nesting = 12
place Statements = 13
place Finals = 14
place Mutators = 15

-- this is the first limit that the line breaks
abbrev pub BreaksFirst : Which → List Sentence → Sentence → Type 0
BreaksFirst which before line = Breaks which before line × ((other : Which) → place other < place which → ¬ Breaks other before line)

-- the line breaks some limit
abbrev pub BreaksSome : List Sentence → Sentence → Type 0
BreaksSome before line = (which : Which) × Breaks which before line

-- no sentence begins a mutator
abbrev pub HasNoMutator : List Numbered → Type 0
HasNoMutator found = (k : ℕ) (one : Numbered) → slice_get found k ≡ Some one → ¬ (one.sentence ≡ Begins)

-- this line is the first one that breaks a limit, and this the first limit that it breaks; or no line does, there is no mutator, and
-- this is the last line
abbrev pub IsLimitFault : List Numbered → ℕ → ℕ → Which → Type 0
IsLimitFault found last line which =
    ((fault : IsFirstFault BreaksSome found line) × BreaksFirst which (sentences (take fault.index found)) fault.one.sentence)
    ⊎ (HasNone BreaksSome found × HasNoMutator found × (line ≡ last) × (which ≡ Mutators))

-- no limit is broken
pub record KeepsLimits (found : List Numbered) : Type 0 where
  pub each : HasNone BreaksSome found
  pub some : ¬ HasNoMutator found

-- the class of this name is one of pairs
abbrev pub IsPairClass : List Class → List ℕ → Type 0
IsPairClass classes name = (c : ℕ) × (class : Class) × (slice_get classes c ≡ Some class) × (class.name ≡ name) × (class.shape.kind ≡ Ephemeron)

-- the line is of the language and isn't run yet: large vectors, weak links, finalization, pairs
pub data IsLater (before : List Sentence) : Sentence → Type 0 where
  Wide : (count r : ℕ) (name : List ℕ) → most_fields < count → IsLater before (Makes (AsVector count) r name)
  LinkSet : (w r : ℕ) (long : Bool) → IsLater before (Says (WSet w r long))
  LinkGet : (r w : ℕ) → IsLater before (Says (WGet r w))
  Registers : (r : ℕ) → IsLater before (Says (Final r))
  Ready : (r : ℕ) → IsLater before (Says (NextFin r))
  PairOf : (r : ℕ) (name : List ℕ) → IsPairClass (classes_in before) name → IsLater before (Makes AsNew r name)
  OldPairOf : (r : ℕ) (name : List ℕ) → IsPairClass (classes_in before) name → IsLater before (Makes AsMature r name)
