-- A program of which no line breaks a limit is within the limits.
use Rattle.std.proofs.Common.{◌≡◌, ℕ, zero, suc, ◌+◌, ◌%◌, ◌<◌, ◌≤◌, inl, inr, Bool, true, false, Option, Some, List, [], ◌∷◌, ◌++◌, length, slice_get, refl, sym, ap, subst, ◌∙◌, arith, append_assoc}
use Rattle.std.specs.List.{AllByRecursion, Contains, flat_map}
use Rattle.std.proofs.lemmas.Bool.{cases_lt, cases_eq}
use Rattle.std.proofs.lemmas.List.Folds.{flat_map-map}
use Rattle.std.proofs.lemmas.Option.{same_Some, slice_get-get_or, slice_get_within}
use Rattle.sg_desc.specs.declared.shapes.Descriptor.{Descriptor}
use Rattle.sg_desc.specs.declared.shapes.Descriptor.TheVariants.{PtrFree, Run, Bitmap, VectorRefs, VectorPlain, Ephemeron}
use Rattle.sg_desc.specs.declared.shapes.Shape.{Shape}
use Rattle.sg_desc.specs.Shapes.{is_vector}
use Rattle.sg_program.specs.declared.program.Config.{Config}
use Rattle.sg_program.specs.declared.program.Class.{Class}
use Rattle.sg_program.specs.declared.program.Statement.{Statement}
use Rattle.sg_program.specs.declared.program.Statement.TheVariants.{New, NewV, Mature, Put, Get, PutD, GetD, Num, Move, Hide, Unhide, Drop, Push, Pop, GPut, GGet, WSet, WGet, Final, NextFin, Same, Collect, Sections}
use Rattle.sg_program.specs.declared.program.Item.{Item, out-Item, map-Item, fold_out-Item}
use Rattle.sg_program.specs.declared.program.Item.TheOpen.{One, Repeat}
use Rattle.sg_program.specs.declared.program.Script.{Script}
use Rattle.sg_program.specs.declared.program.Program.{Program}
use Rattle.sg_words.specs.Lists.{Pairwise}
use Rattle.sg_program.specs.Limits.{MayHave, IsNurserySize, least_nursery, most_nursery, most_blocks, most_pages, least_buffer, most_buffer, most_workers, most_cement}
use Rattle.sg_program.specs.Invariants.{IsSmallClass, AreWithinLimits, HasOperands, FitsClass, IsGood, times_step, item_depth, item_times, IsGoodScript, IsWithinLimits}
use Rattle.sg_program.specs.Scripts.{shape_at, kind_of, item_text, written, NamesClass, statements_in, finals_in}
use Rattle.sg_program.specs.Laws.{ItemsUnfold}
use Rattle.sg_grammar.specs.Laws.{HaveOneProgram}
use Rattle.sg_parse.specs.declared.refusal.Which.TheVariants.{Nursery, Blocks, Pages, Buffer, Workers, Cement, Fields, Vector, Global, Weak, Times, Statements, Finals}
use Rattle.sg_text.specs.declared.line.Setting.{Setting}
use Rattle.sg_text.specs.declared.line.Setting.TheVariants.{Nursery as TheNursery, Blocks as TheBlocks, Pages as ThePages, Buffer as TheBuffer, Workers as TheWorkers, Cement as TheCement}
use Rattle.sg_text.specs.Lines.{Maker, AsNew, AsVector, AsMature, made_by, Sentence, Heads, Sets, Declares, Begins, Repeats, Ends, Makes, Says}
use Rattle.sg_grammar.specs.Text.{value_in, defaults, AreItems, NoItem, OneSays, OneMakes, NoRepeat, OneRepeat, AreScripts, IsClass, AreSettings, IsProgram, StandsFor}
use Rattle.sg_parse.specs.Faults.{classes_in, wants_vector, IsMisnamed, open_behind, BreaksSome}
use Rattle.sg_parse.specs.Indices.{HasNoneIn}
use Rattle.sg_parse.specs.Building.{AreLines}
use Rattle.sg_parse.proofs.LaterLemmas.{front_class, made_fit}
use Rattle.sg_parse.proofs.NamedProgram.{all_at, around, classes_are}
use Rattle.sg_parse.proofs.Nesting.{keep_from, few_classes, few_mutators, IsDeep, deep_plain, deep_open, deep_end, nested_items, deep_settings, deep_classes, last_end}
use Rattle.sg_parse.proofs.Run.{IsSaid, head_of}
use Rattle.sg_words.proofs.Everywhere.{all_append, all_front, all_back}
use Rattle.sg_parse.proofs.SettingsOf.{gives}

-- ---- what one line keeps

-- the numbers of a line are within the limits
pub record IsFine (line : Sentence) : Type 0 where
  nursery : (n : ℕ) → line ≡ Sets TheNursery n → IsNurserySize n
  blocks : (n : ℕ) → line ≡ Sets TheBlocks n → (1 ≤ n) × (n ≤ most_blocks)
  pages : (n : ℕ) → line ≡ Sets ThePages n → n ≤ most_pages
  buffer : (n : ℕ) → line ≡ Sets TheBuffer n → (least_buffer ≤ n) × (n ≤ most_buffer)
  workers : (n : ℕ) → line ≡ Sets TheWorkers n → (1 ≤ n) × (n ≤ most_workers)
  cement : (n : ℕ) → line ≡ Sets TheCement n → (1 ≤ n) × (n ≤ most_cement)
  fields : (name : List ℕ) (shape : Shape) → line ≡ Declares name shape → MayHave shape.kind shape.fields
  vector : (count r : ℕ) (name : List ℕ) → line ≡ Makes (AsVector count) r name → count ≤ 131070
  puts : (g r : ℕ) → line ≡ Says (GPut g r) → g ≤ 63
  gets : (r g : ℕ) → line ≡ Says (GGet r g) → g ≤ 63
  links : (w r : ℕ) (long : Bool) → line ≡ Says (WSet w r long) → w ≤ 63
  reads : (r w : ℕ) → line ≡ Says (WGet r w) → w ≤ 63
  times : (times : ℕ) → line ≡ Repeats times → (1 ≤ times) × (times ≤ 1048576)

at_most : (high n : ℕ) → ¬ (high < n) → n ≤ high
at_most high n kept = elim (cases_lt high n) [ inl over ↦ absurd (kept over) | inr within ↦ within ]

within : (low high n : ℕ) → ¬ ¬ ((low ≤ n) × (n ≤ high)) → (low ≤ n) × (n ≤ high)
within low high n kept = elim (cases_lt n low) [
  | inl under ↦ absurd (kept (λ k. let k0 = k.0 in omega (arith, under, k0)))
  | inr least ↦ elim (cases_lt high n) [
    | inl over ↦ absurd (kept (λ k. let k1 = k.1 in omega (arith, over, k1)))
    | inr most ↦ (least, most)
  ]
]

nursery_size : (n : ℕ) → ¬ ¬ IsNurserySize n → IsNurserySize n
nursery_size n kept =
    let range = within least_nursery most_nursery n (λ bad. kept (λ k. bad (k.0, k.1))) in
    elim (cases_eq (n % 64) 0) [
      | inl even ↦ (range.0, range.1, even)
      | inr odd ↦ absurd (kept (λ k. odd k.2))
    ]

equal : (a b : ℕ) → ¬ ¬ (a ≡ b) → a ≡ b
equal a b kept = elim (cases_eq a b) [ inl same ↦ same | inr other ↦ absurd (kept other) ]

may_have : (kind : Descriptor) (fields : ℕ) → ¬ ¬ MayHave kind fields → MayHave kind fields
may_have PtrFree fields kept = at_most 62 fields (λ over. kept (λ k. omega (arith, over, k)))
may_have (Run first count) fields kept = (
  at_most count 1 (λ over. kept (λ k. let k0 = k.0 in omega (arith, over, k0))),
  at_most fields (first + count) (λ over. kept (λ k. let k1 = k.1 in omega (arith, over, k1))),
  at_most 62 fields (λ over. kept (λ k. let k2 = k.2 in omega (arith, over, k2))),
)
may_have (Bitmap bits) fields kept = at_most 60 fields (λ over. kept (λ k. omega (arith, over, k)))
may_have VectorRefs fields kept = equal fields 0 kept
may_have VectorPlain fields kept = equal fields 0 kept
may_have Ephemeron fields kept = equal fields 2 kept

fine_line : (before : List Sentence) (line : Sentence) → ¬ BreaksSome before line → IsFine line
fine_line before line none = record {
  nursery = λ n e. nursery_size n (λ bad. none (Nursery, (n, e, bad)));
  blocks = λ n e. within 1 most_blocks n (λ bad. none (Blocks, (n, e, bad)));
  pages = λ n e. at_most most_pages n (λ bad. none (Pages, (n, e, bad)));
  buffer = λ n e. within least_buffer most_buffer n (λ bad. none (Buffer, (n, e, bad)));
  workers = λ n e. within 1 most_workers n (λ bad. none (Workers, (n, e, bad)));
  cement = λ n e. within 1 most_cement n (λ bad. none (Cement, (n, e, bad)));
  fields = λ name shape e. may_have shape.kind shape.fields (λ bad. none (Fields, (name, shape, e, bad)));
  vector = λ count r name e. at_most 131070 count (λ bad. none (Vector, (count, r, name, e, bad)));
  puts = λ g r e. at_most 63 g (λ bad. none (Global, (g, r, inl e, bad)));
  gets = λ r g e. at_most 63 g (λ bad. none (Global, (g, r, inr e, bad)));
  links = λ w r long e. at_most 63 w (λ bad. none (Weak, (w, r, long, inl e, bad)));
  reads = λ r w e. at_most 63 w (λ bad. none (Weak, (w, r, true, inr e, bad)));
  times = λ times e. within 1 1048576 times (λ bad. none (Times, (times, e, bad)));
}

-- a name in the line stands for a class of the program, of the kind that the line asks for
abbrev HasFit : Program → Sentence → Type 0
HasFit p line = (maker : Maker) (r : ℕ) (name : List ℕ) → line ≡ Makes maker r name → (c : ℕ) → StandsFor p.classes name c → (c < length p.classes) × (is_vector (kind_of p c) ≡ wants_vector maker)

abbrev IsFineIn : Program → Sentence → Type 0
IsFineIn p line = IsSaid line × IsFine line × HasFit p line

all_get : {A : Type 0} (P : A → Type 0) (xs : List A) → AllByRecursion P xs → (i : ℕ) (x : A) → slice_get xs i ≡ Some x → P x
all_get P [] h i x at = absurd cc
all_get P (y ∷ ys) h zero x at = subst P (same_Some y x at) h.0
all_get P (y ∷ ys) h (suc i) x at = all_get P ys h.1 i x at

has_fit : (law : HaveOneProgram) → (lines : List Sentence) (p : Program) → p.classes ≡ classes_in lines → HasNoneIn IsMisnamed lines → (i : ℕ) (line : Sentence) → slice_get lines i ≡ Some line → HasFit p line
has_fit law lines p same none i line at maker r name e c stands =
    let fit = made_fit lines i maker r name none (at ∙ ap (λ (l : Sentence). Some l) e) in
    let number : c ≡ fit.0 = law.class p.classes name c fit.0 stands (subst (λ (cs : List Class). StandsFor cs name fit.0) (sym same) fit.1) in
    let there : slice_get p.classes c ≡ Some fit.2.class = ap (λ (cs : List Class). slice_get cs c) same ∙ ap (slice_get (classes_in lines)) number ∙ front_class lines i fit.0 fit.2.class fit.2.there in
    (slice_get_within p.classes c fit.2.class there, ap (λ (o : Option Class). is_vector (shape_at o).kind) there ∙ fit.2.fits)

fine_lines : (law : HaveOneProgram) → (lines : List Sentence) (p : Program) → p.classes ≡ classes_in lines → HasNoneIn BreaksSome lines → HasNoneIn IsMisnamed lines → AreLines lines → AllByRecursion (IsFineIn p) lines
fine_lines law lines p same kept named said =
    all_at (IsFineIn p) lines (λ i line at. (all_get IsSaid lines said i line at, fine_line _ line (kept i line at), has_fit law lines p same named i line at))

-- ---- settings

fine_held : (p : Program) (lines : List Sentence) (x : Sentence) → AllByRecursion (IsFineIn p) lines → Contains lines x → IsFine x
fine_held p lines x fine held = (subst (IsFineIn p) held.2 (all_get (IsFineIn p) lines fine held.0 _ (slice_get-get_or lines held.0 x held.1))).1

setting_within : (P : ℕ → Type 0) (setting : Setting) (lines : List Sentence) (config : Config) → AreSettings lines config → ((n : ℕ) → Contains lines (Sets setting n) → P n)
    → P (value_in defaults setting) → P (value_in config setting)
setting_within P setting lines config are each usual =
    elim (gives setting lines are.settings) [
      | inl given ↦ subst P (sym (are.given setting given.0 given.1)) (each given.0 given.1)
      | inr none ↦ subst P (sym (are.else setting none)) usual
    ]

settings_within : (p : Program) (lines : List Sentence) (config : Config) → AreSettings lines config → AllByRecursion (IsFineIn p) lines → AreWithinLimits config
settings_within p lines config are fine =
    let held = λ (x : Sentence) (h : Contains lines x). fine_held p lines x fine h in
    let nursery : IsNurserySize config.nursery = setting_within IsNurserySize TheNursery lines config are (λ n h. (held (Sets TheNursery n) h).nursery n refl) (omega arith, omega arith, refl) in
    let blocks = setting_within (λ n. (1 ≤ n) × (n ≤ most_blocks)) TheBlocks lines config are (λ n h. (held (Sets TheBlocks n) h).blocks n refl) (omega arith, omega arith) in
    let pages = setting_within (λ n. n ≤ most_pages) ThePages lines config are (λ n h. (held (Sets ThePages n) h).pages n refl) (omega arith) in
    let buffer = setting_within (λ n. (least_buffer ≤ n) × (n ≤ most_buffer)) TheBuffer lines config are (λ n h. (held (Sets TheBuffer n) h).buffer n refl) (omega arith, omega arith) in
    let workers = setting_within (λ n. (1 ≤ n) × (n ≤ most_workers)) TheWorkers lines config are (λ n h. (held (Sets TheWorkers n) h).workers n refl) (omega arith, omega arith) in
    let cement = setting_within (λ n. (1 ≤ n) × (n ≤ most_cement)) TheCement lines config are (λ n h. (held (Sets TheCement n) h).cement n refl) (omega arith, omega arith) in
    record {
      nursery_least = nursery.0;
      nursery_most = nursery.1;
      nursery_even = nursery.2;
      blocks_least = blocks.0;
      blocks_most = blocks.1;
      pages_most = pages;
      buffer_least = buffer.0;
      buffer_most = buffer.1;
      workers_least = workers.0;
      workers_most = workers.1;
      cement_least = cement.0;
      cement_most = cement.1;
    }

classes_within : (p : Program) (lines : List Sentence) (classes : List Class) → Pairwise IsClass lines classes → AllByRecursion (IsFineIn p) lines → AllByRecursion IsSmallClass classes
classes_within p [] [] h fine = tt
classes_within p [] (c ∷ cs) h fine = absurd h
classes_within p (line ∷ lines) [] h fine = absurd h
classes_within p (line ∷ lines) (c ∷ cs) h fine = (fine.0.1.fields c.name c.shape h.0, classes_within p lines cs h.1 fine.1)

-- ---- one statement

operands : (s : Statement) → IsSaid (Says s) → IsFine (Says s) → HasOperands s
operands (New r class) said fine = absurd said.1
operands (NewV r class count) said fine = absurd said.1
operands (Mature r class) said fine = absurd said.1
operands (Put r field s) said fine = (said.1.4.1, said.1.6.1)
operands (Get d r field) said fine = (said.1.4.1, said.1.5.1)
operands (PutD r field s) said fine = (said.1.4.1, said.1.6.1)
operands (GetD d r field) said fine = (said.1.4.1, said.1.5.1)
operands (Num d n) said fine = said.1.3.1
operands (Move d s) said fine = (said.1.3.1, said.1.4.1)
operands (Hide d s offset) said fine = (said.1.4.1, said.1.5.1)
operands (Unhide d s) said fine = (said.1.3.1, said.1.4.1)
operands (Drop r) said fine = said.1.2.1
operands (Push r) said fine = said.1.2.1
operands (Pop r) said fine = said.1.2.1
operands (GPut g r) said fine = (fine.puts g r refl, said.1.4.1)
operands (GGet r g) said fine = (said.1.3.1, fine.gets r g refl)
operands (WSet w r true) said fine = (fine.links w r true refl, said.1.4.1)
operands (WSet w r false) said fine = (fine.links w r false refl, said.1.4.1)
operands (WGet r w) said fine = (said.1.3.1, fine.reads r w refl)
operands (Final r) said fine = said.1.2.1
operands (NextFin r) said fine = said.1.2.1
operands (Same r s) said fine = (said.1.3.1, said.1.4.1)
operands (Collect major) said fine = tt
operands Sections said fine = tt

names_none : (p : Program) (s : Statement) → IsSaid (Says s) → NamesClass p s
names_none p (New r class) said = absurd said.1
names_none p (NewV r class count) said = absurd said.1
names_none p (Mature r class) said = absurd said.1
names_none p s said = tt

fits_none : (p : Program) (s : Statement) → IsSaid (Says s) → FitsClass p s
fits_none p (New r class) said = absurd said.1
fits_none p (NewV r class count) said = absurd said.1
fits_none p (Mature r class) said = absurd said.1
fits_none p s said = tt

good_says : (p : Program) (s : Statement) → IsFineIn p (Says s) → IsGood p s
good_says p s fine = record { operands = operands s fine.0 fine.1; names = names_none p s fine.0; fits = fits_none p s fine.0 }

good_makes : (p : Program) (maker : Maker) (r class : ℕ) (name : List ℕ) → StandsFor p.classes name class → IsFineIn p (Makes maker r name) → IsGood p (made_by maker r class)
good_makes p AsNew r class name stands fine =
    let fit = fine.2 AsNew r name refl class stands in
    record { operands = fine.0.1.0.2.1; names = fit.0; fits = fit.1 }
good_makes p (AsVector count) r class name stands fine =
    let fit = fine.2 (AsVector count) r name refl class stands in
    record { operands = (fine.0.1.0.3.1, fine.1.vector count r name refl); names = fit.0; fits = fit.1 }
good_makes p AsMature r class name stands fine =
    let fit = fine.2 AsMature r name refl class stands in
    record { operands = fine.0.1.0.2.1; names = fit.0; fits = fit.1 }

-- ---- items

good_more : (p : Program) (text : List Statement) (item : Item) (items : List Item) → item_text item ≡ text → AllByRecursion (IsGood p) text → AllByRecursion (IsGood p) (written items) → AllByRecursion (IsGood p) (written (item ∷ items))
good_more p text item items e one rest = all_append (IsGood p) (item_text item) (written items) (subst (AllByRecursion (IsGood p)) (sym e) one) rest

good_items : (unfolds : ItemsUnfold) → (p : Program) (lines : List Sentence) (items : List Item) → AreItems (StandsFor p.classes) lines items → AllByRecursion (IsFineIn p) lines → AllByRecursion (IsGood p) (written items)
good_items unfolds p _ _ NoItem fine = tt
good_items unfolds p _ _ (OneSays s rest item more out h) fine = good_more p (s ∷ []) item more (unfolds.text_one item s out) (good_says p s fine.0, tt) (good_items unfolds p rest more h fine.1)
good_items unfolds p _ _ (OneMakes maker r class name rest item more stands out h) fine =
    good_more p (made_by maker r class ∷ []) item more (unfolds.text_one item (made_by maker r class) out) (good_makes p maker r class name stands fine.0, tt) (good_items unfolds p rest more h fine.1)
good_items unfolds p lines _ (NoRepeat times body rest whole more e b h) fine = good_items unfolds p rest more h (around (IsFineIn p) (Repeats times) body rest lines e fine).1
good_items unfolds p lines _ (OneRepeat times body rest whole item inner more e b some out h) fine =
    let parts = around (IsFineIn p) (Repeats times) body rest lines e fine in
    good_more p (written inner) item more (unfolds.text_repeat item times inner out) (good_items unfolds p body inner b parts.0) (good_items unfolds p rest more h parts.1)

abbrev IsTimes : ℕ → Type 0
IsTimes n = (1 ≤ n) × (n ≤ 1048576)

times_one : (item : Item) (s : Statement) → out-Item item ≡ One s → item_times item ≡ []
times_one item s e = fold_out-Item (List ℕ) times_step item ∙ ap (λ x. times_step (map-Item Item (List ℕ) item_times x)) e

times_repeat : (item : Item) (times : ℕ) (body : List Item) → out-Item item ≡ Repeat times body → item_times item ≡ times ∷ flat_map item_times body
times_repeat item times body e =
    fold_out-Item (List ℕ) times_step item ∙ ap (λ x. times_step (map-Item Item (List ℕ) item_times x)) e ∙ ap (λ (ns : List ℕ). times ∷ ns) (flat_map-map (λ ns. ns) item_times body)

times_more : (ns : List ℕ) (item : Item) (items : List Item) → item_times item ≡ ns → AllByRecursion IsTimes ns → AllByRecursion IsTimes (flat_map item_times items) → AllByRecursion IsTimes (flat_map item_times (item ∷ items))
times_more ns item items e one rest = all_append IsTimes (item_times item) (flat_map item_times items) (subst (AllByRecursion IsTimes) (sym e) one) rest

times_items : (p : Program) (names : List ℕ → ℕ → Type 0) (lines : List Sentence) (items : List Item) → AreItems names lines items → AllByRecursion (IsFineIn p) lines → AllByRecursion IsTimes (flat_map item_times items)
times_items p names _ _ NoItem fine = tt
times_items p names _ _ (OneSays s rest item more out h) fine = times_more [] item more (times_one item s out) tt (times_items p names rest more h fine.1)
times_items p names _ _ (OneMakes maker r class name rest item more stands out h) fine = times_more [] item more (times_one item (made_by maker r class) out) tt (times_items p names rest more h fine.1)
times_items p names lines _ (NoRepeat times body rest whole more e b h) fine = times_items p names rest more h (around (IsFineIn p) (Repeats times) body rest lines e fine).1
times_items p names lines _ (OneRepeat times body rest whole item inner more e b some out h) fine =
    let parts = around (IsFineIn p) (Repeats times) body rest lines e fine in
    let first : IsFineIn p (Repeats times) = (subst (AllByRecursion (IsFineIn p)) e fine).0 in
    times_more (times ∷ flat_map item_times inner) item more (times_repeat item times inner out) (first.1.times times refl, times_items p names body inner b parts.0) (times_items p names rest more h parts.1)

-- ---- scripts

less_deep : (items : List Item) → AllByRecursion (λ item. item_depth item + 1 ≤ 5) items → AllByRecursion (λ item. item_depth item ≤ 4) items
less_deep [] h = tt
less_deep (item ∷ items) h = (let deep = h.0 in omega (arith, deep), less_deep items h.1)

good_scripts : (unfolds : ItemsUnfold) → (p : Program) (all lines : List Sentence) (scripts : List Script) → AreScripts (StandsFor p.classes) lines scripts → AllByRecursion (IsFineIn p) lines → IsDeep all 0 lines → AllByRecursion (IsGoodScript p) scripts
good_scripts unfolds p all lines [] s fine deep = tt
good_scripts unfolds p all lines (script ∷ scripts) s fine deep =
    let parts = around (IsFineIn p) Begins s.0 s.1 lines s.2 fine in
    let whole : IsDeep all 0 (Begins ∷ s.0 ++ Ends ∷ s.1) = subst (IsDeep all 0) s.2 deep in
    let nested = nested_items (StandsFor p.classes) all s.0 script.items s.3 1 (omega arith) (Ends ∷ s.1) (deep_open all 0 Begins (s.0 ++ Ends ∷ s.1) refl refl whole) in
    let one : IsGoodScript p script = record {
      statements = good_items unfolds p s.0 script.items s.3 parts.0;
      times = times_items p (StandsFor p.classes) s.0 script.items s.3 parts.0;
      nesting = less_deep script.items nested.0;
    } in
    (one, good_scripts unfolds p all s.1 scripts s.4 parts.1 (deep_end all 0 s.1 nested.1))

-- ---- the program

deep_scripts : (names : List ℕ → ℕ → Type 0) (lines : List Sentence) (p : Program) (is : IsProgram names lines p) → HasNoneIn BreaksSome lines → IsDeep lines 0 is.scripts
deep_scripts names lines p is none =
    let all : IsDeep lines 0 lines = record { before = []; whole = refl; opened = refl; keep = keep_from lines [] lines none refl } in
    let whole : IsDeep lines 0 (Heads ∷ (is.settings ++ (is.classes ++ is.scripts))) = subst (IsDeep lines 0) (is.in_order ∙ ap (λ (l : List Sentence). Heads ∷ l) (append_assoc is.settings is.classes is.scripts)) all in
    deep_classes lines is.classes is.scripts p.classes is.are_classes (deep_settings lines is.settings (is.classes ++ is.scripts) is.are_settings.settings (deep_plain lines 0 Heads (is.settings ++ (is.classes ++ is.scripts)) refl refl whole))

pub within_limits : (law : HaveOneProgram) → (unfolds : ItemsUnfold) → (lines : List Sentence) (p : Program) → IsProgram (StandsFor p.classes) lines p → HasNoneIn BreaksSome lines → HasNoneIn IsMisnamed lines → AreLines lines
    → statements_in p ≤ 1048576 → finals_in p ≤ 1024 → 1 ≤ length p.mutators → IsWithinLimits p
within_limits law unfolds lines p is none named said statements finals some =
    let head : List Sentence = head_of is.settings is.classes in
    let fine : AllByRecursion (IsFineIn p) (head ++ is.scripts) = subst (AllByRecursion (IsFineIn p)) is.in_order (fine_lines law lines p (classes_are (StandsFor p.classes) lines p is) none named said) in
    let first = (all_front (IsFineIn p) head is.scripts fine).1 in
    let in_head : lines ≡ (Heads ∷ is.settings) ++ (is.classes ++ is.scripts) = is.in_order ∙ append_assoc (Heads ∷ is.settings) is.classes is.scripts in
    let few = few_classes (Heads ∷ is.settings) is.scripts is.classes p.classes 0 is.are_classes (keep_from lines (Heads ∷ is.settings) (is.classes ++ is.scripts) none in_head) (omega arith) (omega arith) in
    let alone = few_mutators (StandsFor p.classes) head is.scripts p.mutators 0 is.are_scripts (keep_from lines head is.scripts none is.in_order) (omega arith) (omega arith) in
    record {
      settings = settings_within p is.settings p.config is.are_settings (all_front (IsFineIn p) is.settings is.classes first);
      classes = omega (arith, few);
      fields = classes_within p is.classes p.classes is.are_classes (all_back (IsFineIn p) is.settings is.classes first);
      scripts = good_scripts unfolds p lines is.scripts p.mutators is.are_scripts (all_back (IsFineIn p) head is.scripts fine) (deep_scripts (StandsFor p.classes) lines p is none);
      statements = statements;
      finals = finals;
      mutators_least = some;
      mutators_most = omega (arith, alone);
    }

-- the end of the last mutator is a line, so all is counted there
pub statements_within : (lines : List Sentence) (p : Program) → IsProgram (StandsFor p.classes) lines p → HasNoneIn BreaksSome lines → 1 ≤ length p.mutators → (statements_in p ≤ 1048576) × (finals_in p ≤ 1024)
statements_within lines p is none some =
    let last = last_end (StandsFor p.classes) lines is.scripts p.mutators is.are_scripts some (deep_scripts (StandsFor p.classes) lines p is none) in
    let opened = last.opened in
    let one : open_behind last.before ≡ 1 = omega (arith, opened) in
    let here = subst (λ l. IsProgram (StandsFor p.classes) l p) last.whole is in (
      at_most 1048576 (statements_in p) (λ over. last.keep.0 (Statements, (refl, one, (p, here, over)))),
      at_most 1024 (finals_in p) (λ over. last.keep.0 (Finals, (refl, one, (p, here, over)))),
    )
