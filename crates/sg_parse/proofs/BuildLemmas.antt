-- The settings and the classes of lines, line by line.
use Rattle.std.proofs.Common.{◌≡◌, Bor, ℕ, ◌+◌, ◌<◌, Some, List, [], ◌∷◌, ◌++◌, length, map, take, get_or, slice_get, sym, ap, ◌∙◌}
use Rattle.std.proofs.lemmas.Grind.{flat_map-append}
use Rattle.std.proofs.lemmas.List.{append-nil}
use Rattle.std.proofs.lemmas.List.Sums.{fold-append}
use Rattle.sg_program.specs.declared.program.Config.{Config}
use Rattle.sg_program.specs.declared.program.Class.{Class}
use Rattle.sg_text.specs.declared.line.Form.{Form}
use Rattle.sg_text.specs.declared.line.Line.{Line}
use Rattle.sg_text.specs.declared.line.Line.TheVariants.{Head, Setting, Class as ClassLine, Mutator, Repeat, End, Make, At, Do}
use Rattle.sg_text.specs.Lines.{Sentence, Begins}
use Rattle.sg_limits.specs.Faults.{classes_in, class_in}
use Rattle.sg_desc.specs.declared.shapes.Shape.{Shape}
use Rattle.sg_text.specs.Reading.{sentence_of, shape_in}
use Rattle.sg_parse.specs.Building.{config_with, config_of}
use Rattle.sg_grammar.specs.Text.{defaults}
use Rattle.sg_parse.proofs.Taken.{read_at, take_next}

pub classes-push : (before : List Sentence) (line : Sentence) → classes_in (before ++ line ∷ []) ≡ classes_in before ++ class_in line
classes-push before line = flat_map-append class_in before (line ∷ []) ∙ ap (λ x. classes_in before ++ x) (append-nil (class_in line))

abbrev pub record_of : List ℕ → Shape → Class
record_of name shape = record { name = name; shape = shape }

-- a line that says that a mutator begins is such a line of the code
begins_line : (line : Line) → sentence_of line ≡ Begins → line ≡ Mutator
begins_line Head e = absurd cc
begins_line (Setting at n) e = absurd cc
begins_line (ClassLine name form) e = absurd cc
begins_line Mutator e = λ i. Mutator
begins_line (Repeat times) e = absurd cc
begins_line End e = absurd cc
begins_line (Make maker r name) e = absurd cc
begins_line (At cell r place) e = absurd cc
begins_line (Do statement) e = absurd cc

pub mutator_only : (lines : List Line) (i : ℕ) (d : Line) → i < length lines → ¬ (get_or lines i d ≡ Mutator) → ¬ (slice_get (map sentence_of lines) i ≡ Some Begins)
mutator_only lines i d there other e =
    let same = sym (read_at sentence_of lines i d there) ∙ e in
    let says : sentence_of (get_or lines i d) ≡ Begins = cc in
    other (begins_line (get_or lines i d) says)

pub config_more : (lines : List Sentence) (i : ℕ) (line : Sentence) (before after : Config) → slice_get lines i ≡ Some line → before ≡ config_of (take i lines) → after ≡ config_with before line → after ≡ config_of (take (i + 1) lines)
config_more lines i line before after at was is =
    is ∙ ap (λ c. config_with c line) was ∙ sym (ap config_of (take_next lines i line at) ∙ fold-append config_with defaults (take i lines) (line ∷ []))

pub class_more : (lines : List Sentence) (i : ℕ) (line : Sentence) (before after : List Class) → slice_get lines i ≡ Some line → before ≡ classes_in (take i lines) → after ≡ before ++ class_in line → after ≡ classes_in (take (i + 1) lines)
class_more lines i line before after at was is =
    is ∙ ap (λ c. c ++ class_in line) was ∙ sym (ap classes_in (take_next lines i line at) ∙ classes-push (take i lines) line)

pub no_class : (line : Line) → ((name : Bor (List ℕ)) (form : Form) → ¬ (line ≡ ClassLine name form)) → class_in (sentence_of line) ≡ []
no_class Head e = λ i. []
no_class (Setting at n) e = λ i. []
no_class (ClassLine name form) e = absurd (e name form (λ i. ClassLine name form))
no_class Mutator e = λ i. []
no_class (Repeat times) e = λ i. []
no_class End e = λ i. []
no_class (Make maker s name) e = λ i. []
no_class (At cell s place) e = λ i. []
no_class (Do statement) e = λ i. []

pub same_class : (name other : List ℕ) (shape : Shape) (form : Form) → name ≡ other → shape ≡ shape_in form → record_of name shape ≡ record_of other (shape_in form)
same_class name other shape form e f = ap (λ n. record_of n shape) e ∙ ap (record_of other) f
