-- The classes of a text by their names, as the code holds them.
use Rattle.std.specs.Prelude.{◌≡◌, ℕ, ◌<◌, ◌⊎◌, Some, List, map, slice_get}
use Rattle.sg_program.specs.Limits.{most_fields}
use Rattle.sg_desc.specs.declared.shapes.Shape.{Shape}
use Rattle.sg_program.specs.declared.program.Class.{Class}
use Rattle.sg_program.specs.declared.program.Statement.{Statement}
use Rattle.sg_program.specs.declared.program.Statement.TheVariants.{WSet, WGet, Final, NextFin}
use Rattle.sg_text.specs.declared.line.Form.{Form}
use Rattle.sg_parse.specs.declared.names.Names.{Names}
use Rattle.sg_text.specs.Lines.{Maker, AsNew, AsVector, AsMature, Sentence, Declares, Makes, Says}
use Rattle.sg_grammar.specs.Text.{IsClassName, StandsFor}
use Rattle.sg_parse.specs.declared.names.Named.{Named}
use Rattle.sg_parse.specs.declared.names.Named.TheVariants.{Classes, Misnamed}
use Rattle.sg_limits.specs.Faults.{classes_in, IsFit, IsMisnamed, IsPairClass}
use Rattle.sg_text.specs.Reading.{shape_in}
use Rattle.sg_parse.specs.Indices.{IsFirstIn, HasNoneIn}

-- the class of this name and form
abbrev pub class_named : List ℕ → Form → Class
class_named name form = record { name = name; shape = shape_in form }

-- the classes, in order
abbrev pub classes_of : Names → List Class
classes_of names = map (λ e. class_named e.0.now e.1) names.forms.entries

-- the names are those of these classes
abbrev pub AreNames : Names → List Class → Type 0
AreNames names classes = classes_of names ≡ classes

-- no two classes have one name
abbrev pub HaveOwnNames : List Class → Type 0
HaveOwnNames classes = (c d : ℕ) (word : List ℕ) → IsClassName classes word c → IsClassName classes word d → c ≡ d

-- the name stands for a class of this form
abbrev pub IsNamed : List Class → List ℕ → Form → Type 0
IsNamed classes name form = (c : ℕ) × StandsFor classes name c × (slice_get classes c ≡ Some (class_named name form))

-- the line, behind the lines of these classes, misnames a class
abbrev pub Misnames : List Class → Sentence → Type 0
Misnames classes line =
    ((name : List ℕ) × (shape : Shape) × (c : ℕ) × (line ≡ Declares name shape) × IsClassName classes name c)
    ⊎ ((maker : Maker) × (r : ℕ) × (name : List ℕ) × (line ≡ Makes maker r name) × ((c : ℕ) → ¬ IsFit classes maker name c))

-- the names of these lines are checked: this is the first line that misnames a class; or none does, and these are the classes
abbrev pub IsNaming : List Sentence → Named → Type 0
IsNaming lines (Classes names) = HasNoneIn IsMisnamed lines × AreNames names (classes_in lines)
IsNaming lines (Misnamed index) = IsFirstIn IsMisnamed lines index

-- a line that makes an object so isn't run yet
abbrev pub IsMadeLater : List Class → Maker → List ℕ → Type 0
IsMadeLater classes AsNew name = IsPairClass classes name
IsMadeLater classes (AsVector count) name = most_fields < count
IsMadeLater classes AsMature name = IsPairClass classes name

-- a statement that names no class isn't run yet
abbrev pub IsDoneLater : Statement → Type 0
IsDoneLater (WSet w r long) = Unit {0}
IsDoneLater (WGet r w) = Unit {0}
IsDoneLater (Final r) = Unit {0}
IsDoneLater (NextFin r) = Unit {0}
IsDoneLater statement = ⊥

-- the line isn't run yet, where the classes are these
abbrev pub IsLaterBy : List Class → Sentence → Type 0
IsLaterBy classes (Makes maker r name) = IsMadeLater classes maker name
IsLaterBy classes (Says statement) = IsDoneLater statement
IsLaterBy classes line = ⊥
