-- What a program keeps to that was read from a text within the limits, and what its statements find. No promise of the program
-- rests on these alone: they are what its parts know of each other.
use Rattle.std.specs.Prelude.{◌≡◌, ◌≢◌, ℕ, suc, ◌%◌, ◌≤◌, max, true, false, List, [], ◌∷◌, length}
use Rattle.std.specs.List.{AllByRecursion, flat_map}
use Rattle.sg_desc.specs.declared.shapes.Descriptor.TheVariants.{Ephemeron}
use Rattle.sg_desc.specs.Shapes.{is_vector}
use Rattle.sg_program.specs.declared.program.Config.{Config}
use Rattle.sg_program.specs.declared.program.Class.{Class}
use Rattle.sg_program.specs.declared.program.Statement.{Statement}
use Rattle.sg_program.specs.declared.program.Statement.TheVariants.{New, NewV, Mature, Put, Get, PutD, GetD, Num, Move, Hide, Unhide, Drop, Push, Pop, GPut, GGet, WSet, WGet, Final, NextFin, Same, Collect, Sections}
use Rattle.sg_program.specs.declared.program.Item.{Item, fold-Item}
use Rattle.sg_program.specs.declared.program.Item.TheOpen.{Item-F, One, Repeat}
use Rattle.sg_program.specs.declared.program.Script.{Script}
use Rattle.sg_program.specs.declared.program.Program.{Program}
use Rattle.sg_program.specs.Scripts.{kind_of, written, NamesClass, statements_in, finals_in}
use Rattle.sg_program.specs.Limits.{MayHave, least_nursery, most_nursery, nursery_step, most_blocks, most_pages, least_buffer, most_buffer, most_workers, most_cement, most_classes, most_fields, most_vector, last_register, last_place, most_times, most_nesting, most_statements, most_finals, most_mutators}
use Rattle.sg_program.specs.Kinds.{Kinds, Needs, kinds_after}

-- a class with the fields that its descriptor may have
abbrev pub IsSmallClass : Class → Type 0
IsSmallClass class = MayHave class.shape.kind class.shape.fields

-- settings within the limits
pub record AreWithinLimits (config : Config) : Type 0 where
  pub nursery_least : least_nursery ≤ config.nursery
  pub nursery_most : config.nursery ≤ most_nursery
  pub nursery_even : config.nursery % nursery_step ≡ 0
  pub blocks_least : 1 ≤ config.blocks
  pub blocks_most : config.blocks ≤ most_blocks
  pub pages_most : config.pages ≤ most_pages
  pub buffer_least : least_buffer ≤ config.buffer
  pub buffer_most : config.buffer ≤ most_buffer
  pub workers_least : 1 ≤ config.workers
  pub workers_most : config.workers ≤ most_workers
  pub cement_least : 1 ≤ config.cement
  pub cement_most : config.cement ≤ most_cement

-- the operands of a statement: registers up to 15, globals and weak links up to 63, a vector's fields up to 131,070
abbrev pub HasOperands : Statement → Type 0
HasOperands (New r class) = r ≤ last_register
HasOperands (NewV r class count) = (r ≤ last_register) × (count ≤ most_vector)
HasOperands (Mature r class) = r ≤ last_register
HasOperands (Put r field s) = (r ≤ last_register) × (s ≤ last_register)
HasOperands (Get d r field) = (d ≤ last_register) × (r ≤ last_register)
HasOperands (PutD r field s) = (r ≤ last_register) × (s ≤ last_register)
HasOperands (GetD d r field) = (d ≤ last_register) × (r ≤ last_register)
HasOperands (Num d n) = d ≤ last_register
HasOperands (Move d s) = (d ≤ last_register) × (s ≤ last_register)
HasOperands (Hide d s offset) = (d ≤ last_register) × (s ≤ last_register)
HasOperands (Unhide d s) = (d ≤ last_register) × (s ≤ last_register)
HasOperands (Drop r) = r ≤ last_register
HasOperands (Push r) = r ≤ last_register
HasOperands (Pop r) = r ≤ last_register
HasOperands (GPut g r) = (g ≤ last_place) × (r ≤ last_register)
HasOperands (GGet r g) = (r ≤ last_register) × (g ≤ last_place)
HasOperands (WSet w r long) = (w ≤ last_place) × (r ≤ last_register)
HasOperands (WGet r w) = (r ≤ last_register) × (w ≤ last_place)
HasOperands (Final r) = r ≤ last_register
HasOperands (NextFin r) = r ≤ last_register
HasOperands (Same r s) = (r ≤ last_register) × (s ≤ last_register)
HasOperands (Collect major) = Unit {0}
HasOperands Sections = Unit {0}

-- a new object is of a class with its own number of fields, or with as many as each object was made with, as the statement wants
abbrev pub FitsClass : Program → Statement → Type 0
FitsClass p (New r class) = is_vector (kind_of p class) ≡ false
FitsClass p (NewV r class count) = is_vector (kind_of p class) ≡ true
FitsClass p (Mature r class) = is_vector (kind_of p class) ≡ false
FitsClass p s = Unit {0}

pub record IsGood (p : Program) (s : Statement) : Type 0 where
  pub operands : HasOperands s
  pub names : NamesClass p s
  pub fits : FitsClass p s

abbrev pub most_of : List ℕ → ℕ
most_of [] = 0
most_of (n ∷ ns) = max n (most_of ns)

-- how deeply repeats stand inside one another
abbrev pub depth_step : Item-F ℕ → ℕ
depth_step (One s) = 0
depth_step (Repeat times body) = suc (most_of body)

abbrev pub item_depth : Item → ℕ
item_depth = fold-Item ℕ depth_step

-- the numbers of all repeats
abbrev pub times_step : Item-F (List ℕ) → List ℕ
times_step (One s) = []
times_step (Repeat times body) = times ∷ flat_map (λ ns. ns) body

abbrev pub item_times : Item → List ℕ
item_times = fold-Item (List ℕ) times_step

-- a script within the limits
pub record IsGoodScript (p : Program) (script : Script) : Type 0 where
  pub statements : AllByRecursion (IsGood p) (written script.items)
  pub times : AllByRecursion (λ n. (1 ≤ n) × (n ≤ most_times)) (flat_map item_times script.items)
  pub nesting : AllByRecursion (λ item. item_depth item ≤ most_nesting) script.items

-- a program within the limits
pub record IsWithinLimits (p : Program) : Type 0 where
  pub settings : AreWithinLimits p.config
  pub classes : length p.classes ≤ most_classes
  pub fields : AllByRecursion IsSmallClass p.classes
  pub scripts : AllByRecursion (IsGoodScript p) p.mutators
  pub statements : statements_in p ≤ most_statements
  pub finals : finals_in p ≤ most_finals
  pub mutators_least : 1 ≤ length p.mutators
  pub mutators_most : length p.mutators ≤ most_mutators

-- a statement that is built by now
abbrev pub IsBuilt : Program → Statement → Type 0
IsBuilt p (New r class) = kind_of p class ≢ Ephemeron
IsBuilt p (NewV r class count) = count ≤ most_fields
IsBuilt p (Mature r class) = kind_of p class ≢ Ephemeron
IsBuilt p (WSet w r long) = ⊥
IsBuilt p (WGet r w) = ⊥
IsBuilt p (Final r) = ⊥
IsBuilt p (NextFin r) = ⊥
IsBuilt p s = Unit {0}

-- the statements, repeats written out, find the kinds that they need
abbrev pub FindKinds : Kinds → List Statement → Type 0
FindKinds k [] = Unit {0}
FindKinds k (s ∷ rest) = Needs k s × FindKinds (kinds_after k s) rest
