-- What a line of the input says, by cases on its words.
use Rattle.std.specs.Prelude.{◌≡◌, ℕ, ◌⊎◌, true, false, IsTrue, List, [], ◌∷◌, length, codes}
use Rattle.std.specs.List.{list_all}
use Rattle.sg_desc.specs.declared.shapes.Descriptor.TheVariants.{PtrFree, Run, Bitmap, VectorRefs, VectorPlain, Ephemeron}
use Rattle.sg_desc.specs.declared.shapes.Shape.{Shape}
use Rattle.sg_program.specs.declared.program.Statement.{Statement}
use Rattle.sg_program.specs.declared.program.Statement.TheVariants.{New, NewV, Mature, Put, Get, PutD, GetD, Num, Move, Hide, Unhide, Drop, Push, Pop, GPut, GGet, WSet, WGet, Final, NextFin, Same, Collect, Sections}
use Rattle.sg_text.specs.declared.line.Setting.{Setting}
use Rattle.sg_text.specs.declared.line.Setting.TheVariants.{Nursery, Blocks, Pages, Buffer, Workers, Cement}
use Rattle.sg_text.specs.Words.{IsNumber, IsRegister, is_name, is_mask_byte, mask_bits}

-- how a line asks for a new object
pub data Maker : Type 0 where
  AsNew : Maker
  AsVector : (count : ℕ) → Maker
  AsMature : Maker

-- the statement that makes an object for register r, of the class with this number
abbrev pub made_by : Maker → ℕ → ℕ → Statement
made_by AsNew r class = New r class
made_by (AsVector count) r class = NewV r class count
made_by AsMature r class = Mature r class

-- What a line says: it is the head; gives a setting this value; declares a class; begins a mutator; begins a
-- repeat; ends a mutator or a repeat; makes an object of the class with this name; or it is another statement.
pub data Sentence : Type 0 where
  Heads : Sentence
  Sets : (setting : Setting) (n : ℕ) → Sentence
  Declares : (name : List ℕ) (shape : Shape) → Sentence
  Begins : Sentence
  Repeats : (times : ℕ) → Sentence
  Ends : Sentence
  Makes : (maker : Maker) (r : ℕ) (name : List ℕ) → Sentence
  Says : (statement : Statement) → Sentence

-- the word with which the line of a setting begins
abbrev pub setting_name : Setting → List ℕ
setting_name Nursery = codes "nursery"
setting_name Blocks = codes "blocks"
setting_name Pages = codes "pages"
setting_name Buffer = codes "buffer"
setting_name Workers = codes "workers"
setting_name Cement = codes "cement"

-- `plain N`, `run N FIRST COUNT`, `map MASK`, `refs`, `words` or `pair`
abbrev pub IsShape : List (List ℕ) → Shape → Type 0
IsShape words shape =
    ((n : List ℕ) × (words ≡ codes "plain" ∷ n ∷ []) × IsNumber n shape.fields × (shape.kind ≡ PtrFree))
    ⊎ (((a b c : List ℕ) × (first count : ℕ) × (words ≡ codes "run" ∷ a ∷ b ∷ c ∷ []) × IsNumber a shape.fields × IsNumber b first × IsNumber c count × (shape.kind ≡ Run first count))
    ⊎ (((mask : List ℕ) × (words ≡ codes "map" ∷ mask ∷ []) × IsTrue (list_all is_mask_byte mask) × (shape.fields ≡ length mask) × (shape.kind ≡ Bitmap (mask_bits mask)))
    ⊎ (((words ≡ codes "refs" ∷ []) × (shape.fields ≡ 0) × (shape.kind ≡ VectorRefs))
    ⊎ (((words ≡ codes "words" ∷ []) × (shape.fields ≡ 0) × (shape.kind ≡ VectorPlain))
    ⊎ ((words ≡ codes "pair" ∷ []) × (shape.fields ≡ 2) × (shape.kind ≡ Ephemeron))))))

-- `new R NAME`, `newv R NAME N` or `mature R NAME`
abbrev pub IsMakerLine : List (List ℕ) → Maker → ℕ → List ℕ → Type 0
IsMakerLine words AsNew r name = (a : List ℕ) × (words ≡ codes "new" ∷ a ∷ name ∷ []) × IsRegister a r
IsMakerLine words (AsVector count) r name = (a c : List ℕ) × (words ≡ codes "newv" ∷ a ∷ name ∷ c ∷ []) × IsRegister a r × IsNumber c count
IsMakerLine words AsMature r name = (a : List ℕ) × (words ≡ codes "mature" ∷ a ∷ name ∷ []) × IsRegister a r

-- the line of a statement that doesn't name a class
abbrev pub IsStatementLine : List (List ℕ) → Statement → Type 0
IsStatementLine words (New r class) = ⊥
IsStatementLine words (NewV r class count) = ⊥
IsStatementLine words (Mature r class) = ⊥
IsStatementLine words (Put r i s) = (a b c : List ℕ) × (words ≡ codes "put" ∷ a ∷ b ∷ c ∷ []) × IsRegister a r × IsNumber b i × IsRegister c s
IsStatementLine words (Get d r i) = (a b c : List ℕ) × (words ≡ codes "get" ∷ a ∷ b ∷ c ∷ []) × IsRegister a d × IsRegister b r × IsNumber c i
IsStatementLine words (PutD r i s) = (a b c : List ℕ) × (words ≡ codes "putd" ∷ a ∷ b ∷ c ∷ []) × IsRegister a r × IsNumber b i × IsRegister c s
IsStatementLine words (GetD d r i) = (a b c : List ℕ) × (words ≡ codes "getd" ∷ a ∷ b ∷ c ∷ []) × IsRegister a d × IsRegister b r × IsNumber c i
IsStatementLine words (Num d n) = (a b : List ℕ) × (words ≡ codes "num" ∷ a ∷ b ∷ []) × IsRegister a d × IsNumber b n
IsStatementLine words (Move d s) = (a b : List ℕ) × (words ≡ codes "move" ∷ a ∷ b ∷ []) × IsRegister a d × IsRegister b s
IsStatementLine words (Hide d s o) = (a b c : List ℕ) × (words ≡ codes "hide" ∷ a ∷ b ∷ c ∷ []) × IsRegister a d × IsRegister b s × IsNumber c o
IsStatementLine words (Unhide d s) = (a b : List ℕ) × (words ≡ codes "unhide" ∷ a ∷ b ∷ []) × IsRegister a d × IsRegister b s
IsStatementLine words (Drop r) = (a : List ℕ) × (words ≡ codes "drop" ∷ a ∷ []) × IsRegister a r
IsStatementLine words (Push r) = (a : List ℕ) × (words ≡ codes "push" ∷ a ∷ []) × IsRegister a r
IsStatementLine words (Pop r) = (a : List ℕ) × (words ≡ codes "pop" ∷ a ∷ []) × IsRegister a r
IsStatementLine words (GPut g r) = (a b : List ℕ) × (words ≡ codes "gput" ∷ a ∷ b ∷ []) × IsNumber a g × IsRegister b r
IsStatementLine words (GGet r g) = (a b : List ℕ) × (words ≡ codes "gget" ∷ a ∷ b ∷ []) × IsRegister a r × IsNumber b g
IsStatementLine words (WSet w r true) = (a b : List ℕ) × (words ≡ codes "wset" ∷ a ∷ b ∷ codes "long" ∷ []) × IsNumber a w × IsRegister b r
IsStatementLine words (WSet w r false) = (a b : List ℕ) × (words ≡ codes "wset" ∷ a ∷ b ∷ codes "short" ∷ []) × IsNumber a w × IsRegister b r
IsStatementLine words (WGet r w) = (a b : List ℕ) × (words ≡ codes "wget" ∷ a ∷ b ∷ []) × IsRegister a r × IsNumber b w
IsStatementLine words (Final r) = (a : List ℕ) × (words ≡ codes "final" ∷ a ∷ []) × IsRegister a r
IsStatementLine words (NextFin r) = (a : List ℕ) × (words ≡ codes "nextfin" ∷ a ∷ []) × IsRegister a r
IsStatementLine words (Same r s) = (a b : List ℕ) × (words ≡ codes "same" ∷ a ∷ b ∷ []) × IsRegister a r × IsRegister b s
IsStatementLine words (Collect true) = words ≡ codes "collect" ∷ codes "major" ∷ []
IsStatementLine words (Collect false) = words ≡ codes "collect" ∷ codes "minor" ∷ []
IsStatementLine words Sections = words ≡ codes "sections" ∷ []

-- the line with these words says this
abbrev pub IsLine : List (List ℕ) → Sentence → Type 0
IsLine words Heads = words ≡ codes "sgen" ∷ codes "1" ∷ []
IsLine words (Sets setting n) = (word : List ℕ) × (words ≡ setting_name setting ∷ word ∷ []) × IsNumber word n
IsLine words (Declares name shape) = (rest : List (List ℕ)) × (words ≡ codes "class" ∷ name ∷ rest) × IsTrue (is_name name) × IsShape rest shape
IsLine words Begins = words ≡ codes "mutator" ∷ []
IsLine words (Repeats times) = (word : List ℕ) × (words ≡ codes "repeat" ∷ word ∷ []) × IsNumber word times
IsLine words Ends = words ≡ codes "end" ∷ []
IsLine words (Makes maker r name) = IsMakerLine words maker r name × IsTrue (is_name name)
IsLine words (Says statement) = IsStatementLine words statement
