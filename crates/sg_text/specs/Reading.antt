-- What the reading of lines answers.
use Rattle.std.specs.Prelude.{◌≡◌, ℕ, suc, ◌⊎◌, false, Some, List, [], ◌∷◌, length, take, slice_get}
use Rattle.sg_desc.specs.declared.shapes.Descriptor.TheVariants.{PtrFree, Run, Bitmap, VectorRefs, VectorPlain, Ephemeron}
use Rattle.sg_desc.specs.declared.shapes.Shape.{Shape}
use Rattle.sg_program.specs.declared.program.Statement.{Statement}
use Rattle.sg_program.specs.declared.program.Statement.TheVariants.{GPut, GGet, WSet, WGet}
use Rattle.sg_text.specs.declared.line.Maker.{Maker as MakerCode}
use Rattle.sg_text.specs.declared.line.Maker.TheVariants.{Fixed, Vector, Mature as Matures}
use Rattle.sg_text.specs.declared.line.Form.{Form}
use Rattle.sg_text.specs.declared.line.Form.TheVariants.{Plain, Run as RunForm, Map, Refs, Words, Pair}
use Rattle.sg_text.specs.declared.line.Cell.{Cell}
use Rattle.sg_text.specs.declared.line.Cell.TheVariants.{GPut as GPutCell, GGet as GGetCell, WSet as WSetCell, WGet as WGetCell}
use Rattle.sg_text.specs.declared.line.Line.{Line}
use Rattle.sg_text.specs.declared.line.Line.TheVariants.{Head, Setting, Class as ClassLine, Mutator, Repeat, End, Make, At, Do}
use Rattle.sg_text.specs.declared.scanner.Extent.{Extent}
use Rattle.sg_text.specs.declared.scanner.Extent.TheVariants.{Whole, Above}
use Rattle.sg_text.specs.Words.{mask_bits, words_of, is_proper, is_empty}
use Rattle.sg_text.specs.Lines.{Maker, AsNew, AsVector, AsMature, Sentence, Heads, Sets, Declares, Begins, Repeats, Ends, Makes, Says, IsLine}
use Rattle.sg_text.specs.Numbered.{Numbered, Say}

abbrev pub maker_of : MakerCode → Maker
maker_of Fixed = AsNew
maker_of (Vector count) = AsVector count
maker_of Matures = AsMature

abbrev pub shape_in : Form → Shape
shape_in (Plain fields) = record { fields = fields; kind = PtrFree }
shape_in (RunForm fields first count) = record { fields = fields; kind = Run first count }
shape_in (Map mask) = record { fields = length mask.now; kind = Bitmap (mask_bits mask.now) }
shape_in Refs = record { fields = 0; kind = VectorRefs }
shape_in Words = record { fields = 0; kind = VectorPlain }
shape_in Pair = record { fields = 2; kind = Ephemeron }

abbrev pub at_cell : Cell → ℕ → ℕ → Statement
at_cell GPutCell r place = GPut place r
at_cell GGetCell r place = GGet r place
at_cell (WSetCell long) r place = WSet place r long
at_cell WGetCell r place = WGet r place

-- what a line of the code says
abbrev pub sentence_of : Line → Sentence
sentence_of Head = Heads
sentence_of (Setting setting n) = Sets setting n
sentence_of (ClassLine name form) = Declares name.now (shape_in form)
sentence_of Mutator = Begins
sentence_of (Repeat times) = Repeats times
sentence_of End = Ends
sentence_of (Make maker r name) = Makes (maker_of maker) r name.now
sentence_of (At cell r place) = Says (at_cell cell r place)
sentence_of (Do statement) = Says statement

-- a line that no text has: another byte stands outside its comment, or it has words that are no sentence
abbrev pub IsNoLine : List ℕ → Type 0
IsNoLine line = (is_proper line ≡ false) ⊎ ((is_empty (words_of line) ≡ false) × ((sentence : Sentence) → ¬ IsLine (words_of line) sentence))

-- sentences with their numbers
abbrev pub numbered : List ℕ → List Sentence → List Numbered
numbered [] said = []
numbered (number ∷ numbers) [] = []
numbered (number ∷ numbers) (sentence ∷ said) = record { number = number; sentence = sentence } ∷ numbered numbers said

-- the lines say these sentences, as many as there are numbers
pub record AreRead (lines : List (List ℕ)) (numbers : List ℕ) (said : List Sentence) : Type 0 where
  pub say : Say lines (numbered numbers said)
  pub as_many : length numbers ≡ length said

-- the sentences of all lines, of which there are so many; or those above the first line that no text has, which is this one
abbrev pub IsScan : List (List ℕ) → List ℕ → List Sentence → Extent → Type 0
IsScan lines numbers said (Whole count) = (count ≡ length lines) × AreRead lines numbers said
IsScan lines numbers said (Above wrong) =
    (j : ℕ) × (line : List ℕ) × (wrong ≡ suc j) × (slice_get lines j ≡ Some line) × IsNoLine line × AreRead (take j lines) numbers said
