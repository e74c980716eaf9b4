-- What was read where a reader stands, and how the right number of ends makes it whole.
use Rattle.std.proofs.Common.{◌≡◌, ◌≢◌, ℕ, zero, suc, ◌<◌, ◌⊎◌, inl, inr, Bool, true, false, Option, Some, None, List, [], ◌∷◌, ◌++◌, length, refl, sym, ap, ◌∙◌, subst, append_assoc, arith}
use Rattle.std.proofs.lemmas.List.{append-nil}
use Rattle.std.proofs.lemmas.Option.{slice_get_within}
use Rattle.std.specs.List.{AllByRecursion, slice_get, slice_set}
use Rattle.sg_desc.specs.declared.shapes.Shape.{Shape}
use Rattle.sg_program.specs.declared.program.Config.{Config}
use Rattle.sg_program.specs.declared.program.Class.{Class}
use Rattle.sg_program.specs.declared.program.Statement.{Statement}
use Rattle.sg_program.specs.declared.program.Item.{Item, roll-Item, out-roll-Item}
use Rattle.sg_program.specs.declared.program.Item.TheOpen.{One, Repeat}
use Rattle.sg_program.specs.declared.program.Script.{Script}
use Rattle.sg_program.specs.declared.program.Program.{Program}
use Rattle.sg_words.specs.Lists.{Pairwise}
use Rattle.sg_program.specs.Scripts.{repeated}
use Rattle.sg_grammar.specs.declared.order.Place.{Place}
use Rattle.sg_grammar.specs.declared.order.Place.TheVariants.{Start, Settings, Classes, Within, Outside}
use Rattle.sg_text.specs.declared.line.Setting.{Setting}
use Rattle.sg_text.specs.declared.line.Setting.TheVariants.{Nursery, Blocks, Pages, Buffer, Workers, Cement}
use Rattle.sg_text.specs.Lines.{Maker, made_by, Sentence, Heads, Sets, Declares, Begins, Repeats, Ends, Makes, Says}
use Rattle.sg_grammar.specs.Text.{AreItems, NoItem, OneSays, OneMakes, NoRepeat, OneRepeat, AreScripts, IsClass, value_in, defaults, IsFinishedBy, IsPrefix, IsSetting, AreSettings, IsAnyName, IsProgram, IsWholeText}
use Rattle.sg_grammar.specs.Order.{none_given, index_of, marked, closed, next, may_end_at}
use Rattle.sg_grammar.proofs.Runs.{moved, run, is_in, contains, get_other, get_same, same_setting, whole_runs}

-- lists that grow at their end

items-append : (l m : List Sentence) (i j : List Item) → AreItems IsAnyName l i → AreItems IsAnyName m j → AreItems IsAnyName (l ++ m) (i ++ j)
items-append l m i j NoItem b = b
items-append l m i j (OneSays s rest item items o d) b = OneSays s (rest ++ m) item (items ++ j) o (items-append rest m items j d b)
items-append l m i j (OneMakes maker r class name rest item items n o d) b = OneMakes maker r class name (rest ++ m) item (items ++ j) n o (items-append rest m items j d b)
items-append l m i j (NoRepeat times body rest whole items e c d) b =
    NoRepeat times body (rest ++ m) (whole ++ m) (items ++ j) (ap (λ w. w ++ m) e ∙ ap (λ w. Repeats times ∷ w) (append_assoc body (Ends ∷ rest) m)) c (items-append rest m items j d b)
items-append l m i j (OneRepeat times body rest whole item inner items e c n o d) b =
    OneRepeat times body (rest ++ m) (whole ++ m) item inner (items ++ j) (ap (λ w. w ++ m) e ∙ ap (λ w. Repeats times ∷ w) (append_assoc body (Ends ∷ rest) m)) c n o (items-append rest m items j d b)

-- some items have these sentences
abbrev HasItems : List Sentence → Type 0
HasItems l = (items : List Item) × AreItems IsAnyName l items

joined : (l m : List Sentence) → HasItems l → HasItems m → HasItems (l ++ m)
joined l m a b = (a.0 ++ b.0, items-append l m a.0 b.0 a.1 b.1)

said : (s : Statement) → HasItems (Says s ∷ [])
said s = (roll-Item (One s) ∷ [], OneSays s [] (roll-Item (One s)) [] (out-roll-Item (One s)) NoItem)

made : (maker : Maker) (r : ℕ) (name : List ℕ) → HasItems (Makes maker r name ∷ [])
made maker r name =
    let s = One (made_by maker r 0) in
    (roll-Item s ∷ [], OneMakes maker r 0 name [] (roll-Item s) [] tt (out-roll-Item s) NoItem)

repeats : (times : ℕ) (body : List Sentence) (inner : List Item) → AreItems IsAnyName body inner → HasItems (Repeats times ∷ body ++ Ends ∷ [])
repeats times body [] d = ([], NoRepeat times body [] (Repeats times ∷ body ++ Ends ∷ []) [] refl d NoItem)
repeats times body (x ∷ inner) d =
    let item = roll-Item (Repeat times (x ∷ inner)) in
    (item ∷ [], OneRepeat times body [] (Repeats times ∷ body ++ Ends ∷ []) item (x ∷ inner) [] refl d (λ e. cc) (out-roll-Item (Repeat times (x ∷ inner))) NoItem)

-- The sentences of the mutator that is open: items, and in front of each repeat that is open and of what stands in it
abbrev Open : ℕ → List Sentence → Type 0
Open zero l = HasItems l
Open (suc depth) l = (front inner : List Sentence) × (times : ℕ) × (l ≡ front ++ Repeats times ∷ inner) × HasItems front × Open depth inner

open_more : (depth : ℕ) (l m : List Sentence) → Open depth l → HasItems m → Open depth (l ++ m)
open_more zero l m o h = joined l m o h
open_more (suc depth) l m o h =
    (o.0, o.1 ++ m, o.2, ap (λ w. w ++ m) o.3 ∙ append_assoc o.0 (Repeats o.2 ∷ o.1) m, o.4, open_more depth o.1 m o.5 h)

open_repeat : (depth times : ℕ) (l : List Sentence) → Open depth l → Open (suc depth) (l ++ Repeats times ∷ [])
open_repeat zero times l o = (l, [], times, refl, o, ([], NoItem))
open_repeat (suc depth) times l o =
    (o.0, o.1 ++ Repeats times ∷ [], o.2, ap (λ w. w ++ Repeats times ∷ []) o.3 ∙ append_assoc o.0 (Repeats o.2 ∷ o.1) (Repeats times ∷ []), o.4, open_repeat depth times o.1 o.5)

open_end : (depth : ℕ) (l : List Sentence) → Open (suc depth) l → Open depth (l ++ Ends ∷ [])
open_end zero l o =
    subst HasItems (sym (ap (λ w. w ++ Ends ∷ []) o.3 ∙ append_assoc o.0 (Repeats o.2 ∷ o.1) (Ends ∷ [])))
    (joined o.0 (Repeats o.2 ∷ o.1 ++ Ends ∷ []) o.4 (repeats o.2 o.1 o.5.0 o.5.1))
open_end (suc depth) l o =
    (o.0, o.1 ++ Ends ∷ [], o.2, ap (λ w. w ++ Ends ∷ []) o.3 ∙ append_assoc o.0 (Repeats o.2 ∷ o.1) (Ends ∷ []), o.4, open_end depth o.1 o.5)

scripts-append : (l m : List Sentence) (a b : List Script) → AreScripts IsAnyName l a → AreScripts IsAnyName m b → AreScripts IsAnyName (l ++ m) (a ++ b)
scripts-append l m [] b p q = subst (λ w. AreScripts IsAnyName (w ++ m) b) (sym p) q
scripts-append l m (x ∷ a) b p q =
    (p.0, p.1 ++ m, ap (λ w. w ++ m) p.2 ∙ ap (λ w. Begins ∷ w) (append_assoc p.0 (Ends ∷ p.1) m), p.3, scripts-append p.1 m a b p.4 q)

-- a mutator behind a whole text
one_more : (w l : List Sentence) → IsWholeText w → HasItems l → IsWholeText ((w ++ Begins ∷ l) ++ Ends ∷ [])
one_more w l a h =
    let p = a.1 in
    let script : Script = record { items = h.0 } in (
      record a.0 { mutators = a.0.mutators ++ script ∷ [] },
      record {
        settings = p.settings;
        classes = p.classes;
        scripts = p.scripts ++ (Begins ∷ l ++ Ends ∷ []);
        in_order = append_assoc w (Begins ∷ l) (Ends ∷ []) ∙ ap (λ x. x ++ (Begins ∷ l ++ Ends ∷ [])) p.in_order
            ∙ ap (λ x. Heads ∷ x) (append_assoc (p.settings ++ p.classes) p.scripts (Begins ∷ l ++ Ends ∷ []));
        are_settings = p.are_settings;
        are_classes = p.are_classes;
        are_scripts = scripts-append p.scripts (Begins ∷ l ++ Ends ∷ []) a.0.mutators (script ∷ []) p.are_scripts (l, [], refl, h.1, refl);
      },
    )

classes-append : (l m : List Sentence) (a b : List Class) → Pairwise IsClass l a → Pairwise IsClass m b → Pairwise IsClass (l ++ m) (a ++ b)
classes-append [] m [] b p q = q
classes-append [] m (y ∷ a) b p q = absurd p
classes-append (x ∷ l) m [] b p q = absurd p
classes-append (x ∷ l) m (y ∷ a) b p q = (p.0, classes-append l m a b p.1 q)

-- the text of a program without a mutator
abbrev IsOpening : List Sentence → Type 0
IsOpening l = (p : Program) × IsProgram IsAnyName l p × (p.mutators ≡ [])

class_more : (l : List Sentence) (name : List ℕ) (shape : Shape) → IsOpening l → IsOpening (l ++ Declares name shape ∷ [])
class_more l name shape a =
    let p = a.1 in
    let class : Class = record { name = name; shape = shape } in
    let none : p.scripts ≡ [] = subst (AreScripts IsAnyName p.scripts) a.2 p.are_scripts in
    let line = Declares name shape ∷ [] in (
      record a.0 { classes = a.0.classes ++ class ∷ [] },
      record {
        settings = p.settings;
        classes = p.classes ++ line;
        scripts = [];
        in_order = ap (λ w. w ++ line) (p.in_order ∙ ap (λ x. Heads ∷ p.settings ++ p.classes ++ x) none ∙ append-nil (Heads ∷ p.settings ++ p.classes))
            ∙ ap (λ x. Heads ∷ x) (append_assoc p.settings p.classes line) ∙ sym (append-nil (Heads ∷ p.settings ++ (p.classes ++ line)));
        are_settings = p.are_settings;
        are_classes = classes-append p.classes line a.0.classes (class ∷ []) p.are_classes (refl, tt);
        are_scripts = subst (AreScripts IsAnyName []) (sym a.2) refl;
      },
      a.2,
    )

-- a sentence of a list that grew at its end
at_end : (l : List Sentence) (x y : Sentence) (i : ℕ) → slice_get (l ++ x ∷ []) i ≡ Some y → (slice_get l i ≡ Some y) ⊎ ((i ≡ length l) × (x ≡ y))
at_end [] x y zero e = inr (refl, cc)
at_end [] x y (suc i) e = cc
at_end (z ∷ l) x y zero e = inl e
at_end (z ∷ l) x y (suc i) e = elim (at_end l x y i e) [
  | inl h ↦ inl h
  | inr h ↦ inr (ap suc h.0, h.1)
]

before_end : (l m : List Sentence) (y : Sentence) (i : ℕ) → slice_get l i ≡ Some y → slice_get (l ++ m) i ≡ Some y
before_end [] m y i e = cc
before_end (z ∷ l) m y zero e = e
before_end (z ∷ l) m y (suc i) e = before_end l m y i e

last : (l : List Sentence) (x : Sentence) → slice_get (l ++ x ∷ []) (length l) ≡ Some x
last [] x = refl
last (z ∷ l) x = last l x

all_more : (l : List Sentence) (x : Sentence) → AllByRecursion IsSetting l → IsSetting x → AllByRecursion IsSetting (l ++ x ∷ [])
all_more [] x p q = (q, tt)
all_more (z ∷ l) x p q = (p.0, all_more l x p.1 q)

with_at : Config → Setting → ℕ → Config
with_at c Nursery n = record c { nursery = n }
with_at c Blocks n = record c { blocks = n }
with_at c Pages n = record c { pages = n }
with_at c Buffer n = record c { buffer = n }
with_at c Workers n = record c { workers = n }
with_at c Cement n = record c { cement = n }

with_same : (c : Config) (at : Setting) (n : ℕ) → value_in (with_at c at n) at ≡ n
unfolding with_at
with_same c Nursery n = refl
with_same c Blocks n = refl
with_same c Pages n = refl
with_same c Buffer n = refl
with_same c Workers n = refl
with_same c Cement n = refl

with_other : (c : Config) (at b : Setting) (n : ℕ) → b ≢ at → value_in (with_at c at n) b ≡ value_in c b
unfolding with_at
with_other c Nursery Nursery n o = absurd (o refl)
with_other c Nursery Blocks n o = refl
with_other c Nursery Pages n o = refl
with_other c Nursery Buffer n o = refl
with_other c Nursery Workers n o = refl
with_other c Nursery Cement n o = refl
with_other c Blocks Nursery n o = refl
with_other c Blocks Blocks n o = absurd (o refl)
with_other c Blocks Pages n o = refl
with_other c Blocks Buffer n o = refl
with_other c Blocks Workers n o = refl
with_other c Blocks Cement n o = refl
with_other c Pages Nursery n o = refl
with_other c Pages Blocks n o = refl
with_other c Pages Pages n o = absurd (o refl)
with_other c Pages Buffer n o = refl
with_other c Pages Workers n o = refl
with_other c Pages Cement n o = refl
with_other c Buffer Nursery n o = refl
with_other c Buffer Blocks n o = refl
with_other c Buffer Pages n o = refl
with_other c Buffer Buffer n o = absurd (o refl)
with_other c Buffer Workers n o = refl
with_other c Buffer Cement n o = refl
with_other c Workers Nursery n o = refl
with_other c Workers Blocks n o = refl
with_other c Workers Pages n o = refl
with_other c Workers Buffer n o = refl
with_other c Workers Workers n o = absurd (o refl)
with_other c Workers Cement n o = refl
with_other c Cement Nursery n o = refl
with_other c Cement Blocks n o = refl
with_other c Cement Pages n o = refl
with_other c Cement Buffer n o = refl
with_other c Cement Workers n o = refl
with_other c Cement Cement n o = absurd (o refl)

-- settings that were read, with what is given
record AreGiven (l : List Sentence) (given : List Bool) : Type 0 where
  config : Config
  settings : AreSettings l config
  mark : (k : ℕ) (at : Setting) (n : ℕ) → slice_get l k ≡ Some (Sets at n) → slice_get given (index_of at) ≡ Some true

true_false : {A : Type 0} → {o : Option Bool} → o ≡ Some true → o ≡ Some false → A
true_false p q = cc

given_more : (l : List Sentence) (given : List Bool) (at : Setting) (n : ℕ) → AreGiven l given → slice_get given (index_of at) ≡ Some false → AreGiven (l ++ Sets at n ∷ []) (slice_set given (index_of at) true)
given_more l given at n g f =
    let s = g.settings in
    let below : index_of at < length given = slice_get_within given (index_of at) false f in
    let apart : (k : ℕ) (b : Setting) (m : ℕ) → slice_get l k ≡ Some (Sets b m) → b ≢ at =
    λ k b m e same. true_false (g.mark k b m e) (ap (λ x. slice_get given (index_of x)) same ∙ f) in
    record {
      config = with_at g.config at n;
      settings = record {
        settings = all_more l (Sets at n) s.settings (at, n, refl);
        once = λ i j b m k e h. elim (at_end l (Sets at n) (Sets b m) i e) [
          | inl u ↦ elim (at_end l (Sets at n) (Sets b k) j h) [
            | inl v ↦ s.once i j b m k u v
            | inr v ↦ absurd (let v1 = v.1 in let same : b ≡ at = cc in apart i b m u same)
          ]
          | inr u ↦ elim (at_end l (Sets at n) (Sets b k) j h) [
            | inl v ↦ absurd (let u1 = u.1 in let same : b ≡ at = cc in apart j b k v same)
            | inr v ↦ u.0 ∙ sym v.0
          ]
        ];
        given = λ b m c. let i = is_in (l ++ Sets at n ∷ []) (Sets b m) c in elim (at_end l (Sets at n) (Sets b m) i.0 i.1) [
          | inl u ↦ with_other g.config at b n (apart i.0 b m u) ∙ s.given b m (contains l (Sets b m) i.0 u)
          | inr u ↦
              let u1 = u.1 in
              let same : at ≡ b = cc in
              let value : n ≡ m = cc in
              ap (value_in (with_at g.config at n)) (sym same) ∙ with_same g.config at n ∙ value
        ];
        else = λ b none.
            let other : b ≢ at = λ same. none n (contains (l ++ Sets at n ∷ []) (Sets b n) (length l) (last l (Sets at n) ∙ ap (λ k. Some (Sets k n)) (sym same))) in
            with_other g.config at b n other
            ∙ s.else b (λ m c. let i = is_in l (Sets b m) c in none m (contains (l ++ Sets at n ∷ []) (Sets b m) i.0 (before_end l (Sets at n ∷ []) (Sets b m) i.0 i.1)));
      };
      mark = λ k b m e. elim (at_end l (Sets at n) (Sets b m) k e) [
        | inl u ↦ get_other given (index_of at) (index_of b) true (λ same. apart k b m u (same_setting b at same)) ∙ g.mark k b m u
        | inr u ↦ let u1 = u.1 in let same : at ≡ b = cc in ap (λ x. slice_get (slice_set given (index_of at) true) (index_of x)) (sym same) ∙ get_same given (index_of at) true below
      ];
    }

none_read : AreGiven [] none_given
none_read = record {
  config = defaults;
  settings = record {
    settings = tt;
    once = λ i j at n m e h. cc;
    given = λ at n c. absurd (omega (arith, c.1));
    else = λ at none. refl;
  };
  mark = λ k at n e. cc;
}

-- what was read where a reader stands
abbrev Stands : Place → List Sentence → Type 0
Stands Start l = l ≡ []
Stands (Settings given) l = (settings : List Sentence) × (l ≡ Heads ∷ settings) × AreGiven settings given
Stands Classes l = IsOpening l
Stands (Within depth) l = (whole body : List Sentence) × (l ≡ whole ++ Begins ∷ body) × IsWholeText whole × Open depth body
Stands Outside l = IsWholeText l

abbrev StandsAt : Option Place → List Sentence → Type 0
StandsAt None l = Unit {0}
StandsAt (Some place) l = Stands place l

opening : (l settings : List Sentence) (given : List Bool) → l ≡ Heads ∷ settings → AreGiven settings given → IsOpening l
opening l settings given e g = (
  record { config = g.config; classes = []; mutators = [] },
  record {
    settings = settings;
    classes = [];
    scripts = [];
    in_order = e ∙ sym (append-nil (Heads ∷ settings ++ []) ∙ append-nil (Heads ∷ settings));
    are_settings = g.settings;
    are_classes = tt;
    are_scripts = refl;
  },
  refl,
)

begin : (l : List Sentence) → IsWholeText l → Stands (Within 0) (l ++ Begins ∷ [])
begin l w = (l, [], refl, w, ([], NoItem))

is_whole : (l : List Sentence) → IsOpening l → IsWholeText l
is_whole l o = (o.0, o.1)

marks : (l settings : List Sentence) (given : List Bool) (at : Setting) (n : ℕ) → l ≡ Heads ∷ settings → AreGiven settings given →
    (o : Option Bool) → slice_get given (index_of at) ≡ o → StandsAt (marked given (index_of at) o) (l ++ Sets at n ∷ [])
marks l settings given at n e g None q = tt
marks l settings given at n e g (Some true) q = tt
marks l settings given at n e g (Some false) q = (settings ++ Sets at n ∷ [], ap (λ w. w ++ Sets at n ∷ []) e, given_more settings given at n g q)

deeper : (l more whole body : List Sentence) → l ≡ whole ++ Begins ∷ body → l ++ more ≡ whole ++ Begins ∷ (body ++ more)
deeper l more whole body e = ap (λ w. w ++ more) e ∙ append_assoc whole (Begins ∷ body) more

ended : (depth : ℕ) (l : List Sentence) → Stands (Within depth) l → Stands (closed depth) (l ++ Ends ∷ [])
ended zero l s = subst (λ w. IsWholeText (w ++ Ends ∷ [])) (sym s.2) (one_more s.0 s.1 s.3 s.4)
ended (suc depth) l s = (s.0, s.1 ++ Ends ∷ [], deeper l (Ends ∷ []) s.0 s.1 s.2, s.3, open_end depth s.1 s.4)

inside : (depth : ℕ) (l m : List Sentence) → Stands (Within depth) l → HasItems m → Stands (Within depth) (l ++ m)
inside depth l m s h = (s.0, s.1 ++ m, deeper l m s.0 s.1 s.2, s.3, open_more depth s.1 m s.4 h)

stands_next : (place : Place) (line : Sentence) (l : List Sentence) → Stands place l → StandsAt (next place line) (l ++ line ∷ [])
stands_next Start Heads l s = ([], ap (λ w. w ++ Heads ∷ []) s, none_read)
stands_next Start line l s = tt
stands_next (Settings given) (Sets at n) l s = marks l s.0 given at n s.1 s.2 (slice_get given (index_of at)) refl
stands_next (Settings given) (Declares name shape) l s = class_more l name shape (opening l s.0 given s.1 s.2)
stands_next (Settings given) Begins l s = begin l (is_whole l (opening l s.0 given s.1 s.2))
stands_next (Settings given) line l s = tt
stands_next Classes (Declares name shape) l s = class_more l name shape s
stands_next Classes Begins l s = begin l (is_whole l s)
stands_next Classes line l s = tt
stands_next (Within depth) (Repeats times) l s = (s.0, s.1 ++ Repeats times ∷ [], deeper l (Repeats times ∷ []) s.0 s.1 s.2, s.3, open_repeat depth times s.1 s.4)
stands_next (Within depth) Ends l s = ended depth l s
stands_next (Within depth) (Makes maker r name) l s = inside depth l (Makes maker r name ∷ []) s (made maker r name)
stands_next (Within depth) (Says statement) l s = inside depth l (Says statement ∷ []) s (said statement)
stands_next (Within depth) line l s = tt
stands_next Outside Begins l s = begin l s
stands_next Outside line l s = tt

stands_moved : (from : Option Place) (line : Sentence) (l : List Sentence) → StandsAt from l → StandsAt (moved from line) (l ++ line ∷ [])
stands_moved None line l s = tt
stands_moved (Some place) line l s = stands_next place line l s

stands_run : (from : Option Place) (m l : List Sentence) → StandsAt from l → StandsAt (run from m) (l ++ m)
stands_run from [] l s = subst (StandsAt from) (sym (append-nil l)) s
stands_run from (x ∷ m) l s = subst (StandsAt (run (moved from x) m)) (append_assoc l (x ∷ []) m) (stands_run (moved from x) m (l ++ x ∷ []) (stands_moved from x l s))

stands : (l : List Sentence) (place : Place) → run (Some Start) l ≡ Some place → Stands place l
stands l place e = subst (λ o. StandsAt o l) e (stands_run (Some Start) l [] refl)

-- the ends of the repeats and of the mutator make the text whole
finished : (depth : ℕ) (l : List Sentence) → Stands (Within depth) l → IsFinishedBy l (suc depth)
finished zero l s = ended zero l s
finished (suc depth) l s = subst IsWholeText (append_assoc l (Ends ∷ []) (repeated (suc depth) (Ends ∷ []))) (finished depth (l ++ Ends ∷ []) (ended (suc depth) l s))

whole_prefix : (l : List Sentence) → IsWholeText l → IsPrefix l
whole_prefix l w = inr (0, subst IsWholeText (sym (append-nil l)) w)

prefix : (place : Place) (l : List Sentence) → Stands place l → IsPrefix l
prefix Start l s = inl s
prefix (Settings given) l s = whole_prefix l (is_whole l (opening l s.0 given s.1 s.2))
prefix Classes l s = whole_prefix l (is_whole l s)
prefix (Within depth) l s = inr (suc depth, finished depth l s)
prefix Outside l s = whole_prefix l s

whole : (place : Place) (l : List Sentence) → Stands place l → may_end_at place ≡ true → IsWholeText l
whole Start l s e = cc
whole (Settings given) l s e = is_whole l (opening l s.0 given s.1 s.2)
whole Classes l s e = is_whole l s
whole (Within depth) l s e = cc
whole Outside l s e = s

pub are_whole : (l : List Sentence) (place : Place) → run (Some Start) l ≡ Some place → may_end_at place ≡ true → IsWholeText l
are_whole l place e t = whole place l (stands l place e) t

pub are_prefix : (l : List Sentence) (place : Place) → run (Some Start) l ≡ Some place → IsPrefix l
are_prefix l place e = prefix place l (stands l place e)

pub not_whole : (l : List Sentence) (place : Place) → run (Some Start) l ≡ Some place → may_end_at place ≡ false → ¬ IsWholeText l
not_whole l place e t w =
    let r = whole_runs l w in
    let r1 = r.1 in
    let same : place ≡ r.0 = cc in
    let at : may_end_at place ≡ true = ap may_end_at same ∙ r.2 in
    cc
