use Rattle.std.proofs.Common.{◌≡◌, ℕ, ◌<◌, List, length, map, slice_get, sym, ap, ◌∙◌, subst}
use Rattle.sg_text.specs.declared.line.Line.{Line}
use Rattle.sg_text.specs.Words.{lines_of}
use Rattle.sg_grammar.specs.Text.{IsWholeText}
use Rattle.sg_program.specs.declared.program.Program.{Program}
use Rattle.sg_parse.specs.declared.refusal.Which.{Which}
use Rattle.sg_parse.specs.declared.names.Names.{Names}
use Rattle.sg_parse.specs.declared.names.Named.{Named}
use Rattle.sg_parse.specs.declared.names.Named.TheVariants.{Classes, Misnamed}
use Rattle.sg_parse.specs.declared.build.Built.{Built}
use Rattle.sg_parse.specs.declared.build.Built.TheVariants.{Program as Made, Over, NoMutator}
use Rattle.sg_parse.specs.Names.{IsNaming}
use Rattle.sg_parse.specs.Building.{IsBuiltAs}
use Rattle.sg_parse.specs.Faults.{IsMisnamed}
use Rattle.sg_text.specs.Reading.{sentence_of, AreRead}
use Rattle.sg_parse.specs.Indices.{IsFirstIn, HasNoneIn}
use Rattle.sg_text.specs.Lines.{Sentence}
use Rattle.sg_parse.proofs.Conclusions.{class-fault, limit-fault, no-mutator, later-fault, read-as, known, number-there, said_each}
use Rattle.sg_parse.proofs.program.read.Goals as goal

-- the numbers and the sentences, as the calls see the lines
seen : (text : List (List ℕ)) (numbers : List ℕ) (lines now : List Line) → now ≡ lines → AreRead text numbers (map sentence_of lines) → AreRead text numbers (map sentence_of now)
seen text numbers lines now same = subst (λ (z : List Line). AreRead text numbers (map sentence_of z)) (sym same)

whole-seen : (lines now : List Line) → now ≡ lines → IsWholeText (map sentence_of lines) → IsWholeText (map sentence_of now)
whole-seen lines now same = subst (λ (z : List Line). IsWholeText (map sentence_of z)) (sym same)

misnamed : (s : List Sentence) (answer : Named) (i : ℕ) → answer ≡ Misnamed i → IsNaming s answer → IsFirstIn IsMisnamed s i
misnamed s answer i e = subst (IsNaming s) e

named : (s : List Sentence) (answer : Named) (names : Names) → answer ≡ Classes names → IsNaming s answer → HasNoneIn IsMisnamed s
named s answer names e is = (subst (IsNaming s) e is).0

over : (s : List Sentence) (answer : Built) (i : ℕ) (which : Which) → answer ≡ Over i which → IsBuiltAs s answer → IsBuiltAs s (Over i which)
over s answer i which e = subst (IsBuiltAs s) e

nobody : (s : List Sentence) (answer : Built) → answer ≡ NoMutator → IsBuiltAs s answer → IsBuiltAs s NoMutator
nobody s answer e = subst (IsBuiltAs s) e

made : (s : List Sentence) (answer : Built) (p : Program) → answer ≡ Made p → IsBuiltAs s answer → IsBuiltAs s (Made p)
made s answer p e = subst (IsBuiltAs s) e

pub returns-in-Ok-Misnamed-clause-refused : goal.returns-in-Ok-Misnamed-clause-refused
returns-in-Ok-Misnamed-clause-refused c =
    let e = c.as_slice-lines.ensures.value in
    class-fault c.args.bytes.now _ _ c.requires.short (seen _ _ _ _ e c.requires.read) (whole-seen _ _ e c.requires.whole) c.in-Ok-Misnamed.index _
    (ap (λ (z : List ℕ). slice_get z c.in-Ok-Misnamed.index) (sym c.as_slice.ensures.value) ∙ c.number_at.ensures) (misnamed _ _ _ c.in-Ok-Misnamed.field-0-is c.in-Ok-Misnamed.ensures)

pub build-requires-clause-said : goal.build-requires-clause-said
build-requires-clause-said c =
    let e = c.as_slice-lines.ensures.value in
    said_each (lines_of c.args.bytes.now) _ _ (seen (lines_of c.args.bytes.now) _ _ _ e c.requires.read)

pub number_at-requires-in-Ok-Over : goal.number_at-requires-in-Ok-Over
number_at-requires-in-Ok-Over c =
    let e = c.as_slice-lines.ensures.value in
    subst (λ (z : List ℕ). c.in-Ok-Over.index < length z) (sym c.as_slice-in-Ok-Over.ensures.value)
    (number-there _ _ _ _ (seen (lines_of c.args.bytes.now) _ _ _ e c.requires.read) (over _ _ _ _ c.in-Ok-Over.field-0-is c.in-Ok-Over.ensures).0.0.1)

pub returns-in-Ok-Over-clause-refused : goal.returns-in-Ok-Over-clause-refused
returns-in-Ok-Over-clause-refused c =
    let e = c.as_slice-lines.ensures.value in
    limit-fault c.args.bytes.now _ _ c.requires.short (seen _ _ _ _ e c.requires.read) (whole-seen _ _ e c.requires.whole) (named _ _ _ c.in-Ok-Classes.field-0-is c.in-Ok-Classes.ensures) c.in-Ok-Over.index _ c.in-Ok-Over.which
    (ap (λ (z : List ℕ). slice_get z c.in-Ok-Over.index) (sym c.as_slice-in-Ok-Over.ensures.value) ∙ c.number_at-in-Ok-Over.ensures) (over _ _ _ _ c.in-Ok-Over.field-0-is c.in-Ok-Over.ensures).0 (over _ _ _ _ c.in-Ok-Over.field-0-is c.in-Ok-Over.ensures).1

pub returns-in-Ok-NoMutator-clause-refused : goal.returns-in-Ok-NoMutator-clause-refused
returns-in-Ok-NoMutator-clause-refused c =
    let e = c.as_slice-lines.ensures.value in
    no-mutator c.args.bytes.now _ _ c.requires.short (seen _ _ _ _ e c.requires.read) (whole-seen _ _ e c.requires.whole) (named _ _ _ c.in-Ok-Classes.field-0-is c.in-Ok-Classes.ensures) c.args.text.now.count c.requires.count
    (nobody _ _ c.in-Ok-NoMutator.field-0-is c.in-Ok-NoMutator.ensures).0 (nobody _ _ c.in-Ok-NoMutator.field-0-is c.in-Ok-NoMutator.ensures).1

pub number_at-requires-in-Some : goal.number_at-requires-in-Some
number_at-requires-in-Some c =
    let e = c.as_slice-lines.ensures.value in
    subst (λ (z : List ℕ). c.in-Some.index < length z) (sym c.as_slice-in-Some.ensures.value)
    (number-there _ _ _ _ (seen (lines_of c.args.bytes.now) _ _ _ e c.requires.read) c.in-Some.ensures.found.0.1)

pub returns-in-Some-clause-refused : goal.returns-in-Some-clause-refused
returns-in-Some-clause-refused c =
    let e = c.as_slice-lines.ensures.value in
    later-fault c.args.bytes.now _ _ c.requires.short (seen _ _ _ _ e c.requires.read) (whole-seen _ _ e c.requires.whole) (named _ _ _ c.in-Ok-Classes.field-0-is c.in-Ok-Classes.ensures)
    (made _ _ _ c.in-Ok-Program.field-0-is c.in-Ok-Program.ensures).1 (made _ _ _ c.in-Ok-Program.field-0-is c.in-Ok-Program.ensures).3 c.in-Some.index _
    (ap (λ (z : List ℕ). slice_get z c.in-Some.index) (sym c.as_slice-in-Some.ensures.value) ∙ c.number_at-in-Some.ensures) c.in-Some.ensures.found

pub returns-clause-read : goal.returns-clause-read
returns-clause-read c =
    let e = c.as_slice-lines.ensures.value in
    read-as c.args.bytes.now _ _ c.requires.short (seen _ _ _ _ e c.requires.read) (whole-seen _ _ e c.requires.whole) (named _ _ _ c.in-Ok-Classes.field-0-is c.in-Ok-Classes.ensures)
    (made _ _ _ c.in-Ok-Program.field-0-is c.in-Ok-Program.ensures).1 (made _ _ _ c.in-Ok-Program.field-0-is c.in-Ok-Program.ensures).3 c.in-Ok-Program.program (made _ _ _ c.in-Ok-Program.field-0-is c.in-Ok-Program.ensures).0 c.in-None.ensures.none

pub returns-clause-known : goal.returns-clause-known
returns-clause-known c =
    let e = c.as_slice-lines.ensures.value in
    known c.args.bytes.now _ _ c.requires.short (seen _ _ _ _ e c.requires.read) (whole-seen _ _ e c.requires.whole) (named _ _ _ c.in-Ok-Classes.field-0-is c.in-Ok-Classes.ensures)
    (made _ _ _ c.in-Ok-Program.field-0-is c.in-Ok-Program.ensures).1 (made _ _ _ c.in-Ok-Program.field-0-is c.in-Ok-Program.ensures).3 c.in-Ok-Program.program (made _ _ _ c.in-Ok-Program.field-0-is c.in-Ok-Program.ensures).0 c.in-None.ensures.none c.items_unfold.ensures (made _ _ _ c.in-Ok-Program.field-0-is c.in-Ok-Program.ensures).2
