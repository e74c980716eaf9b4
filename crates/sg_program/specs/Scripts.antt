-- A program's scripts, and the shapes of its classes.
use Rattle.std.specs.Prelude.{◌≡◌, ℕ, zero, suc, ◌+◌, ◌<◌, ◌≤◌, ◌⊎◌, Bool, true, false, length, Option, Some, None, List, [], ◌∷◌, ◌++◌, slice_get}
use Rattle.std.specs.List.{flat_map, sum_by, count_by}
use Rattle.sg_program.specs.declared.program.Statement.{Statement}
use Rattle.sg_program.specs.declared.program.Statement.TheVariants.{New, NewV, Mature, Final, Collect, Sections}
use Rattle.sg_program.specs.declared.answers.Request.{Request}
use Rattle.sg_program.specs.declared.answers.Request.TheVariants.{Need, Slot, Minor, Major, Sections as AllSections}
use Rattle.sg_program.specs.declared.program.Item.{Item, fold-Item}
use Rattle.sg_program.specs.declared.program.Item.TheOpen.{Item-F, One, Repeat}
use Rattle.sg_program.specs.declared.program.Script.{Script}
use Rattle.sg_program.specs.declared.program.Class.{Class}
use Rattle.sg_program.specs.declared.program.Program.{Program}
use Rattle.sg_desc.specs.declared.shapes.Shape.{Shape}
use Rattle.sg_desc.specs.declared.shapes.Descriptor.{Descriptor}
use Rattle.sg_desc.specs.declared.shapes.Descriptor.TheVariants.{PtrFree}
use Rattle.sg_program.specs.Limits.{most_fields}
use Rattle.sg_desc.specs.Shapes.{is_vector}
use Rattle.sg_words.specs.Blocks.{slot_size}

-- the list this many times, one after another
abbrev pub repeated : {A : Type 0} → ℕ → List A → List A
repeated zero xs = []
repeated (suc n) xs = xs ++ repeated n xs

-- what an item stands for, by what each item of its body stands for: a statement, or its body that many times
abbrev pub statements_of : Item-F (List Statement) → List Statement
statements_of (One s) = s ∷ []
statements_of (Repeat times body) = repeated times (flat_map (λ statements. statements) body)

-- the statements that an item does
abbrev pub item_out : Item → List Statement
item_out = fold-Item (List Statement) statements_of

-- the statements that items do, one after another, with repeats written out
abbrev pub written_out : List Item → List Statement
written_out items = flat_map item_out items

-- the same with each body once, as the text has them
abbrev pub texts_of : Item-F (List Statement) → List Statement
texts_of (One s) = s ∷ []
texts_of (Repeat times body) = flat_map (λ statements. statements) body

abbrev pub item_text : Item → List Statement
item_text = fold-Item (List Statement) texts_of

-- the statements of items in the order in which they are written
abbrev pub written : List Item → List Statement
written items = flat_map item_text items

abbrev pub statements_at : Option Script → List Statement
statements_at None = []
statements_at (Some script) = written_out script.items

-- the statements of mutator k, with repeats written out
abbrev pub script_of : Program → ℕ → List Statement
script_of p k = statements_at (slice_get p.mutators k)

-- how many statements a program does, repeats counted
abbrev pub statements_in : Program → ℕ
statements_in p = sum_by (λ (script : Script). length (written_out script.items)) p.mutators

abbrev pub is_final : Statement → Bool
is_final (Final r) = true
is_final s = false

-- how many registrations for finalization a program makes at most: its statements `final`, repeats counted
abbrev pub finals_in : Program → ℕ
finals_in p = sum_by (λ (script : Script). count_by is_final (written_out script.items)) p.mutators

abbrev pub shape_at : Option Class → Shape
shape_at None = record { fields = 0; kind = PtrFree }
shape_at (Some class) = class.shape

-- the shape of the objects of class c
abbrev pub shape_of : Program → ℕ → Shape
shape_of p c = shape_at (slice_get p.classes c)

-- which fields of an object of class c hold references
abbrev pub kind_of : Program → ℕ → Descriptor
kind_of p c = (shape_of p c).kind

-- how many fields an object of class c has, where all objects of the class have the same number
abbrev pub fields_of : Program → ℕ → ℕ
fields_of p c = (shape_of p c).fields

-- The number of fields of a small object of class c: the class's own, or any number up to 62 where the class has none of its own.
abbrev pub IsSizeOf : Program → ℕ → ℕ → Type 0
IsSizeOf p c n = (n ≤ most_fields) × (is_vector (kind_of p c) ≡ false → n ≡ fields_of p c)

-- the words of an object of n fields: its tag, its number of fields, and the fields
abbrev pub words_for : ℕ → ℕ
words_for n = n + 2

-- An object of n words is small: it stands in the nursery, or in the major heap. A larger one has pages of its own.
abbrev pub IsSmall : ℕ → Type 0
IsSmall n = n ≤ 64

-- the statement makes an object that may be a small one, in the nursery
abbrev pub IsMaking : Statement → Type 0
IsMaking (New r class) = Unit {0}
IsMaking (NewV r class count) = Unit {0}
IsMaking s = ⊥

-- the statement makes an object in a slot of the major heap
abbrev pub IsMature : Statement → Type 0
IsMature (Mature r class) = Unit {0}
IsMature s = ⊥

-- the statement makes an object
abbrev pub MakesObject : Statement → Type 0
MakesObject s = IsMaking s ⊎ IsMature s

-- the register that gets the object, its class, its fields and its words
abbrev pub made_in : Statement → ℕ
made_in (New r class) = r
made_in (NewV r class count) = r
made_in (Mature r class) = r
made_in s = 0

abbrev pub made_class : Statement → ℕ
made_class (New r class) = class
made_class (NewV r class count) = class
made_class (Mature r class) = class
made_class s = 0

abbrev pub made_fields : Program → Statement → ℕ
made_fields p (New r class) = fields_of p class
made_fields p (NewV r class count) = count
made_fields p (Mature r class) = fields_of p class
made_fields p s = 0

abbrev pub made_words : Program → Statement → ℕ
made_words p s = words_for (made_fields p s)

-- the words of a slot for it: the least size class that holds it
abbrev pub made_slot : Program → Statement → ℕ
made_slot p s = slot_size (made_words p s)

-- the statement asks for this whenever it is begun: a collection, or what stands in each section
abbrev pub IsCollecting : Statement → Request → Type 0
IsCollecting (Collect false) Minor = Unit {0}
IsCollecting (Collect true) Major = Unit {0}
IsCollecting Sections AllSections = Unit {0}
IsCollecting s request = ⊥

-- which request a statement makes: room for the object that it makes, or a slot for it, where there is none; or what it asks for in any case
abbrev pub IsRequestOf : Program → Statement → Request → Type 0
IsRequestOf p (New r class) (Need words) = words ≡ made_words p (New r class)
IsRequestOf p (NewV r class count) (Need words) = words ≡ made_words p (NewV r class count)
IsRequestOf p (Mature r class) (Slot size) = size ≡ made_slot p (Mature r class)
IsRequestOf p s request = IsCollecting s request

-- the class of a statement that makes an object is one of the program's
abbrev pub NamesClass : Program → Statement → Type 0
NamesClass p (New r class) = class < length p.classes
NamesClass p (NewV r class count) = class < length p.classes
NamesClass p (Mature r class) = class < length p.classes
NamesClass p s = Unit {0}

-- and so in a whole script
abbrev pub NameClasses : Program → List Statement → Type 0
NameClasses p [] = Unit {0}
NameClasses p (s ∷ rest) = NamesClass p s × NameClasses p rest
