-- A whole text takes a reader from the start to a place where a text may end.
use Rattle.std.proofs.Common.{◌≡◌, ◌≢◌, ℕ, zero, suc, ◌<◌, Bool, true, false, Option, Some, None, List, [], ◌∷◌, ◌++◌, length, refl, sym, ap, ◌∙◌, arith}
use Rattle.std.proofs.lemmas.Option.{slice_get-get_or, slice_get_within, get_or_from_slice_get}
use Rattle.std.specs.List.{Contains, AllByRecursion, slice_get, slice_set}
use Rattle.sg_desc.specs.declared.shapes.Shape.{Shape}
use Rattle.sg_program.specs.declared.program.Class.{Class}
use Rattle.sg_program.specs.declared.program.Item.{Item}
use Rattle.sg_program.specs.declared.program.Script.{Script}
use Rattle.sg_words.specs.Lists.{Pairwise}
use Rattle.sg_grammar.specs.declared.order.Place.{Place}
use Rattle.sg_grammar.specs.declared.order.Place.TheVariants.{Start, Settings, Classes, Within, Outside}
use Rattle.sg_text.specs.declared.line.Setting.{Setting}
use Rattle.sg_text.specs.declared.line.Setting.TheVariants.{Nursery, Blocks, Pages, Buffer, Workers, Cement}
use Rattle.sg_text.specs.Lines.{Sentence, Sets, Declares, Begins, Ends}
use Rattle.sg_grammar.specs.Text.{AreItems, NoItem, OneSays, OneMakes, NoRepeat, OneRepeat, AreScripts, IsClass, IsSetting, IsAnyName, IsWholeText, CanGoOn}
use Rattle.sg_grammar.specs.Order.{none_given, index_of, marked, next, may_end_at}

-- the place behind a sentence, where the place before it is known
abbrev pub moved : Option Place → Sentence → Option Place
moved None line = None
moved (Some place) line = next place line

-- the place behind sentences, if they may stand there
abbrev pub run : Option Place → List Sentence → Option Place
run from [] = from
run from (line ∷ lines) = run (moved from line) lines

pub run-append : (from : Option Place) (l m : List Sentence) → run from (l ++ m) ≡ run (run from l) m
run-append from [] m = refl
run-append from (x ∷ l) m = run-append (moved from x) l m

pub run_none : (l : List Sentence) → run None l ≡ None
run_none [] = refl
run_none (x ∷ l) = run_none l

-- items leave a reader as deep as it was
items_run : {names : List ℕ → ℕ → Type 0} {l : List Sentence} {i : List Item} → AreItems names l i → (depth : ℕ) → run (Some (Within depth)) l ≡ Some (Within depth)
items_run NoItem depth = refl
items_run (OneSays s rest item items o d) depth = items_run d depth
items_run (OneMakes maker r class name rest item items n o d) depth = items_run d depth
items_run (NoRepeat times body rest whole items e b d) depth =
    ap (run (Some (Within depth))) e ∙ run-append (Some (Within (suc depth))) body (Ends ∷ rest)
    ∙ ap (λ o. run o (Ends ∷ rest)) (items_run b (suc depth)) ∙ items_run d depth
items_run (OneRepeat times body rest whole item inner items e b n o d) depth =
    ap (run (Some (Within depth))) e ∙ run-append (Some (Within (suc depth))) body (Ends ∷ rest)
    ∙ ap (λ o. run o (Ends ∷ rest)) (items_run b (suc depth)) ∙ items_run d depth

-- the sentences take a reader from here to where a text may end
Finishes : Option Place → List Sentence → Type 0
Finishes from l = (place : Place) × (run from l ≡ Some place) × (may_end_at place ≡ true)

scripts_run : (names : List ℕ → ℕ → Type 0) (l : List Sentence) (a : List Script) → AreScripts names l a →
    (place : Place) → next place Begins ≡ Some (Within 0) → may_end_at place ≡ true → Finishes (Some place) l
unfolding Finishes
scripts_run names l [] p place b e = (place, ap (run (Some place)) p, e)
scripts_run names l (x ∷ xs) p place b e =
    let more = scripts_run names p.1 xs p.4 Outside refl refl in (
      more.0,
      ap (run (Some place)) p.2 ∙ ap (λ o. run o (p.0 ++ Ends ∷ p.1)) b ∙ run-append (Some (Within 0)) p.0 (Ends ∷ p.1)
          ∙ ap (λ o. run o (Ends ∷ p.1)) (items_run p.3 0) ∙ more.1,
      more.2,
    )

-- classes and mutators may come here
Opens : Place → Type 0
Opens place = (next place Begins ≡ Some (Within 0)) × (may_end_at place ≡ true) × ((name : List ℕ) (shape : Shape) → next place (Declares name shape) ≡ Some Classes)

classes_run : (l : List Sentence) (a : List Class) → Pairwise IsClass l a → (place : Place) → Opens place → (q : Place) × (run (Some place) l ≡ Some q) × Opens q
unfolding Opens
classes_run [] a p place o = (place, refl, o)
classes_run (x ∷ l) [] p place o = absurd p
classes_run (x ∷ l) (y ∷ ys) p place o =
    let h = classes_run l ys p.1 Classes (refl, refl, λ name shape. refl) in
    (h.0, ap (λ s. run (next place s) l) p.0 ∙ ap (λ q. run q l) (o.2 y.name y.shape) ∙ h.1, h.2)

pub is_in : (l : List Sentence) (x : Sentence) → Contains l x → (k : ℕ) × (slice_get l k ≡ Some x)
is_in l x c = (c.0, slice_get-get_or l c.0 x c.1 ∙ ap Some c.2)

pub contains : (l : List Sentence) (x : Sentence) (k : ℕ) → slice_get l k ≡ Some x → Contains l x
contains l x k e = (k, slice_get_within l k x e, get_or_from_slice_get l k x x e)

pub get_other : {A : Type 0} (l : List A) (i k : ℕ) (x : A) → k ≢ i → slice_get (slice_set l i x) k ≡ slice_get l k
get_other [] i k x o = refl
get_other (y ∷ l) zero zero x o = absurd (o refl)
get_other (y ∷ l) zero (suc k) x o = refl
get_other (y ∷ l) (suc i) zero x o = refl
get_other (y ∷ l) (suc i) (suc k) x o = get_other l i k x (λ e. o (ap suc e))

pub get_same : {A : Type 0} (l : List A) (i : ℕ) (x : A) → i < length l → slice_get (slice_set l i x) i ≡ Some x
get_same [] i x b = absurd (omega arith)
get_same (y ∷ l) zero x b = refl
get_same (y ∷ l) (suc i) x b = get_same l i x (omega arith)

-- two settings with one index are the same
setting_at : ℕ → Setting
setting_at zero = Nursery
setting_at (suc zero) = Blocks
setting_at (suc (suc zero)) = Pages
setting_at (suc (suc (suc zero))) = Buffer
setting_at (suc (suc (suc (suc zero)))) = Workers
setting_at (suc (suc (suc (suc (suc at))))) = Cement

back : (setting : Setting) → setting_at (index_of setting) ≡ setting
unfolding setting_at
back Nursery = refl
back Blocks = refl
back Pages = refl
back Buffer = refl
back Workers = refl
back Cement = refl

pub same_setting : (a b : Setting) → index_of a ≡ index_of b → a ≡ b
same_setting a b e = sym (back a) ∙ ap setting_at e ∙ back b

-- no two sentences give one setting
abbrev pub Once : List Sentence → Type 0
Once l = (i j : ℕ) (at : Setting) (n m : ℕ) → slice_get l i ≡ Some (Sets at n) → slice_get l j ≡ Some (Sets at m) → i ≡ j

-- none of the sentences gives a setting that is marked
abbrev pub AreFresh : List Bool → List Sentence → Type 0
AreFresh given l = (k : ℕ) (at : Setting) (n : ℕ) → slice_get l k ≡ Some (Sets at n) → slice_get given (index_of at) ≡ Some false

settings_run : (l : List Sentence) → AllByRecursion IsSetting l → Once l → (given : List Bool) → AreFresh given l →
    (after : List Bool) × (run (Some (Settings given)) l ≡ Some (Settings after))
settings_run [] p o given f = (given, refl)
settings_run (x ∷ l) p o given f =
    let at = p.0.0 in
    let n = p.0.1 in
    let e = p.0.2 in
    let fresh = f 0 at n (ap Some e) in
    let h = settings_run l p.1 (λ i j b m k q r. let s = o (suc i) (suc j) b m k q r in omega arith) (slice_set given (index_of at) true)
    (λ k b m q. get_other given (index_of at) (index_of b) true (λ same. let s = o 0 (suc k) at n m (ap Some e) (q ∙ ap (λ c. Some (Sets c m)) (same_setting b at same)) in absurd (omega arith)) ∙ f (suc k) b m q) in
    (h.0, ap (λ s. run (next (Settings given) s) l) e ∙ ap (λ s. run (marked given (index_of at) s) l) fresh ∙ h.1)

fresh : (at : Setting) → slice_get none_given (index_of at) ≡ Some false
fresh Nursery = refl
fresh Blocks = refl
fresh Pages = refl
fresh Buffer = refl
fresh Workers = refl
fresh Cement = refl

pub whole_runs : (l : List Sentence) → IsWholeText l → (place : Place) × (run (Some Start) l ≡ Some place) × (may_end_at place ≡ true)
unfolding Finishes Opens
whole_runs l w =
    let p = w.1 in
    let s = p.are_settings in
    let a = settings_run p.settings s.settings s.once none_given (λ k at n e. fresh at) in
    let b = classes_run p.classes w.0.classes p.are_classes (Settings a.0) (refl, refl, λ name shape. refl) in
    let c = scripts_run IsAnyName p.scripts w.0.mutators p.are_scripts b.0 b.2.0 b.2.1 in (
      c.0,
      ap (run (Some Start)) p.in_order ∙ run-append (Some (Settings none_given)) (p.settings ++ p.classes) p.scripts
          ∙ ap (λ o. run o p.scripts) (run-append (Some (Settings none_given)) p.settings p.classes ∙ ap (λ o. run o p.classes) a.1 ∙ b.1) ∙ c.1,
      c.2,
    )

-- where a reader stops, no text goes on
pub stopped : (l : List Sentence) → run (Some Start) l ≡ None → ¬ CanGoOn l
stopped l e g =
    let w = whole_runs (l ++ g.0) g.1 in
    let s = sym (run-append (Some Start) l g.0) in
    let t = ap (λ o. run o g.0) e ∙ run_none g.0 in
    let w1 = w.1 in
    cc
