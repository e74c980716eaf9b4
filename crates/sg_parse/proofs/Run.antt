-- A program that is read from lines of which none isn't run yet: all its statements are run.
use Rattle.std.proofs.Common.{◌≡◌, ◌≢◌, ℕ, inl, inr, Option, Some, List, [], ◌∷◌, ◌++◌, length, take, slice_get, refl, sym, ap, subst, ◌∙◌, append_assoc}
use Rattle.std.specs.List.{AllByRecursion}
use Rattle.std.proofs.lemmas.Bool.{cases_lt}
use Rattle.std.proofs.lemmas.Grind.{flat_map-append}
use Rattle.std.proofs.lemmas.List.{append-nil}
use Rattle.std.proofs.Math.Seq.{take-append_seam}
use Rattle.sg_desc.specs.declared.shapes.Descriptor.TheVariants.{Ephemeron}
use Rattle.sg_program.specs.declared.program.Class.{Class}
use Rattle.sg_program.specs.declared.program.Statement.{Statement}
use Rattle.sg_program.specs.declared.program.Statement.TheVariants.{New, NewV, Mature, WSet, WGet, Final, NextFin}
use Rattle.sg_program.specs.declared.program.Item.{Item}
use Rattle.sg_program.specs.declared.program.Script.{Script}
use Rattle.sg_program.specs.declared.program.Program.{Program}
use Rattle.sg_words.specs.Lists.{Pairwise}
use Rattle.sg_program.specs.Scripts.{shape_at, kind_of, item_text, written}
use Rattle.sg_program.specs.Laws.{ItemsUnfold}
use Rattle.sg_words.proofs.Everywhere.{all_append, all_front, all_back}
use Rattle.sg_text.specs.Lines.{Maker, AsNew, AsVector, AsMature, made_by, Sentence, Heads, Begins, Repeats, Ends, Makes, Says, IsLine}
use Rattle.sg_grammar.specs.Text.{AreItems, NoItem, OneSays, OneMakes, NoRepeat, OneRepeat, AreScripts, IsClass, IsSetting, IsProgram, StandsFor}
use Rattle.sg_limits.specs.Faults.{class_in, classes_in, IsPairClass, IsLater}
use Rattle.sg_program.specs.Invariants.{IsBuilt}
use Rattle.sg_parse.specs.Names.{IsLaterBy}
use Rattle.sg_parse.specs.Indices.{HasNoneIn}
use Rattle.sg_parse.proofs.Naming.{name_of_class}
use Rattle.sg_parse.proofs.LaterLemmas.{get_front, later_front}

-- ---- lists

get_middle : {A : Type 0} (xs ys : List A) (x : A) → slice_get (xs ++ x ∷ ys) (length xs) ≡ Some x
get_middle [] ys x = refl
get_middle (z ∷ zs) ys x = get_middle zs ys x

pub none_split : (Fault : List Sentence → Sentence → Type 0) (lines before after : List Sentence) (line : Sentence) → HasNoneIn Fault lines → lines ≡ before ++ line ∷ after → ¬ Fault before line
none_split Fault lines before after line none e fault =
    let at : slice_get lines (length before) ≡ Some line = rw e (get_middle before after line) in
    let front : take (length before) lines ≡ before = ap (λ (all : List Sentence). take (length before) all) e ∙ take-append_seam before (line ∷ after) in
    none (length before) line at (subst (λ (b : List Sentence). Fault b line) (sym front) fault)

-- ---- one statement

-- some words say the sentence
abbrev pub IsSaid : Sentence → Type 0
IsSaid line = (words : List (List ℕ)) × IsLine words line

-- the sentence is some line's, and it is run where the classes are these
abbrev IsFine : Program → Sentence → Type 0
IsFine p line = IsSaid line × ¬ IsLaterBy p.classes line

run_says : (p : Program) (s : Statement) → IsFine p (Says s) → IsBuilt p s
run_says p (New r class) fine = absurd fine.0.1
run_says p (NewV r class count) fine = absurd fine.0.1
run_says p (Mature r class) fine = absurd fine.0.1
run_says p (WSet w r long) fine = absurd (fine.1 tt)
run_says p (WGet r w) fine = absurd (fine.1 tt)
run_says p (Final r) fine = absurd (fine.1 tt)
run_says p (NextFin r) fine = absurd (fine.1 tt)
run_says p s fine = tt

-- an object of a class that isn't one of pairs
run_single : (p : Program) (class : ℕ) (name : List ℕ) → StandsFor p.classes name class → ¬ IsPairClass p.classes name → kind_of p class ≢ Ephemeron
run_single p class name stands fine =
    let k = name_of_class p.classes class name stands.named in
    λ pair. fine (class, k.0, k.1, k.2, sym (ap (λ (o : Option Class). (shape_at o).kind) k.1) ∙ pair)

run_makes : (p : Program) (maker : Maker) (r class : ℕ) (name : List ℕ) → StandsFor p.classes name class → IsFine p (Makes maker r name) → IsBuilt p (made_by maker r class)
run_makes p AsNew r class name stands fine = run_single p class name stands fine.1
run_makes p (AsVector count) r class name stands fine = elim (cases_lt 62 count) [ inl wide ↦ absurd (fine.1 wide) | inr few ↦ few ]
run_makes p AsMature r class name stands fine = run_single p class name stands fine.1

-- ---- the statements of items and of scripts

run_more : (p : Program) (text : List Statement) (item : Item) (items : List Item) → item_text item ≡ text → AllByRecursion (IsBuilt p) text → AllByRecursion (IsBuilt p) (written items) → AllByRecursion (IsBuilt p) (written (item ∷ items))
run_more p text item items e one rest = all_append (IsBuilt p) (item_text item) (written items) (rw e one) rest

-- what stands inside a repeat, and behind it
inside : (p : Program) (first : Sentence) (body rest whole : List Sentence) → whole ≡ first ∷ body ++ Ends ∷ rest → AllByRecursion (IsFine p) whole → AllByRecursion (IsFine p) body × AllByRecursion (IsFine p) rest
inside p first body rest whole e fine =
    let all : AllByRecursion (IsFine p) (first ∷ body ++ Ends ∷ rest) = subst (AllByRecursion (IsFine p)) e fine in
    (all_front (IsFine p) body (Ends ∷ rest) all.1, (all_back (IsFine p) body (Ends ∷ rest) all.1).1)

run_items : (unfolds : ItemsUnfold) → (p : Program) (lines : List Sentence) (items : List Item) → AreItems (StandsFor p.classes) lines items → AllByRecursion (IsFine p) lines → AllByRecursion (IsBuilt p) (written items)
run_items unfolds p lines items NoItem fine = tt
run_items unfolds p lines items (OneSays s rest item more out h) fine = run_more p (s ∷ []) item more (unfolds.text_one item s out) (run_says p s fine.0, tt) (run_items unfolds p rest more h fine.1)
run_items unfolds p lines items (OneMakes maker r class name rest item more stands out h) fine =
    run_more p (made_by maker r class ∷ []) item more (unfolds.text_one item (made_by maker r class) out) (run_makes p maker r class name stands fine.0, tt) (run_items unfolds p rest more h fine.1)
run_items unfolds p lines items (NoRepeat times body rest whole more e b h) fine = run_items unfolds p rest more h (inside p (Repeats times) body rest whole e fine).1
run_items unfolds p lines items (OneRepeat times body rest whole item inner more e b some out h) fine =
    let parts = inside p (Repeats times) body rest whole e fine in
    run_more p (written inner) item more (unfolds.text_repeat item times inner out) (run_items unfolds p body inner b parts.0) (run_items unfolds p rest more h parts.1)

run_scripts : (unfolds : ItemsUnfold) → (p : Program) (lines : List Sentence) (scripts : List Script) → AreScripts (StandsFor p.classes) lines scripts → AllByRecursion (IsFine p) lines
    → AllByRecursion (λ (script : Script). AllByRecursion (IsBuilt p) (written script.items)) scripts
run_scripts unfolds p lines [] h fine = tt
run_scripts unfolds p lines (script ∷ scripts) h fine =
    let parts = inside p Begins h.0 h.1 lines h.2 fine in
    (run_items unfolds p h.0 script.items h.3 parts.0, run_scripts unfolds p h.1 scripts h.4 parts.1)

-- ---- the lines behind the classes

settings_no_class : (lines : List Sentence) → AllByRecursion IsSetting lines → classes_in lines ≡ []
settings_no_class [] h = refl
settings_no_class (line ∷ lines) h = ap (λ (l : Sentence). classes_in (l ∷ lines)) h.0.2 ∙ settings_no_class lines h.1

classes_of_lines : (lines : List Sentence) (classes : List Class) → Pairwise IsClass lines classes → classes_in lines ≡ classes
classes_of_lines [] [] h = refl
classes_of_lines [] (c ∷ cs) h = absurd h
classes_of_lines (line ∷ lines) [] h = absurd h
classes_of_lines (line ∷ lines) (c ∷ cs) h = ap (λ (l : Sentence). classes_in (l ∷ lines)) h.0 ∙ ap (λ (more : List Class). c ∷ more) (classes_of_lines lines cs h.1)

-- the lines before the scripts
abbrev pub head_of : List Sentence → List Sentence → List Sentence
head_of settings classes = Heads ∷ settings ++ classes

pub classes_of_head : (settings classes : List Sentence) (cs : List Class) → AllByRecursion IsSetting settings → Pairwise IsClass classes cs → classes_in (head_of settings classes) ≡ cs
classes_of_head settings classes cs are_settings are_classes =
    flat_map-append class_in settings classes ∙ ap (λ (more : List Class). more ++ classes_in classes) (settings_no_class settings are_settings) ∙ classes_of_lines classes cs are_classes

fine_from : (p : Program) (lines before after : List Sentence) → HasNoneIn IsLater lines → AllByRecursion IsSaid after → lines ≡ before ++ after → (more : List Class) → classes_in before ≡ p.classes ++ more → AllByRecursion (IsFine p) after
fine_from p lines before [] none said e more classes = tt
fine_from p lines before (line ∷ after) none said e more classes =
    let later = none_split IsLater lines before after line none e in
    let pairs : (name : List ℕ) → IsPairClass p.classes name → IsPairClass (classes_in before) name = λ name pair. (pair.0, pair.1, rw classes (get_front p.classes more pair.1 pair.0 pair.2), pair.3, pair.4) in (
      (said.0, λ h. later (later_front before p.classes line pairs h)),
      fine_from p lines (before ++ line ∷ []) after none said.1 (e ∙ sym (append_assoc before (line ∷ []) after)) (more ++ classes_in (line ∷ []))
          (flat_map-append class_in before (line ∷ []) ∙ ap (λ (cs : List Class). cs ++ classes_in (line ∷ [])) classes ∙ append_assoc p.classes more (classes_in (line ∷ []))),
    )

-- The sentences have to be those of lines: no line says a statement that makes an object of a class by its number.
pub run_now : (unfolds : ItemsUnfold) → (lines : List Sentence) (p : Program) → IsProgram (StandsFor p.classes) lines p → AllByRecursion IsSaid lines → HasNoneIn IsLater lines
    → AllByRecursion (λ (script : Script). AllByRecursion (IsBuilt p) (written script.items)) p.mutators
run_now unfolds lines p program said none =
    let before : List Sentence = head_of program.settings program.classes in
    let told : AllByRecursion IsSaid (before ++ program.scripts) = subst (AllByRecursion IsSaid) program.in_order said in
    let classes : classes_in before ≡ p.classes ++ [] = classes_of_head program.settings program.classes p.classes program.are_settings.settings program.are_classes ∙ sym (append-nil p.classes) in
    let fine = fine_from p lines before program.scripts none (all_back IsSaid before program.scripts told) program.in_order [] classes in
    run_scripts unfolds p program.scripts p.mutators program.are_scripts fine
