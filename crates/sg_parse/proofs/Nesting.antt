-- How many classes, mutators and open repeats there are where no line breaks a limit, and how deep repeats then stand.
use Rattle.std.proofs.Common.{◌≡◌, ℕ, suc, ◌+◌, ◌-◌, ◌≤◌, inl, inr, Bool, true, false, cond, max, List, [], ◌∷◌, ◌++◌, map, length, refl, sym, ap, subst, ◌∙◌, arith, append_assoc}
use Rattle.std.specs.List.{AllByRecursion, count_by}
use Rattle.std.proofs.Math.Nat.{max-le}
use Rattle.std.proofs.lemmas.Bool.{cases_lt}
use Rattle.std.proofs.lemmas.List.{append-nil, length-append}
use Rattle.std.proofs.lemmas.List.Sums.{sum_by-append}
use Rattle.sg_program.specs.declared.program.Class.{Class}
use Rattle.sg_program.specs.declared.program.Statement.{Statement}
use Rattle.sg_program.specs.declared.program.Item.{Item, out-Item, map-Item, fold_out-Item}
use Rattle.sg_program.specs.declared.program.Item.TheOpen.{One, Repeat}
use Rattle.sg_program.specs.declared.program.Script.{Script}
use Rattle.sg_words.specs.Lists.{Pairwise}
use Rattle.sg_program.specs.Invariants.{depth_step, item_depth}
use Rattle.sg_limits.specs.declared.which.Which.TheVariants.{Classes, Nesting, Mutators}
use Rattle.sg_text.specs.Lines.{made_by, Sentence, Begins, Repeats, Ends, Makes, Says}
use Rattle.sg_grammar.specs.Text.{AreItems, NoItem, OneSays, OneMakes, NoRepeat, OneRepeat, AreScripts, IsClass, IsSetting}
use Rattle.sg_limits.specs.Faults.{class_in, classes_in, is_opening, is_ending, is_begin, open_behind, BreaksSome}
use Rattle.sg_parse.specs.Indices.{HasNoneIn}
use Rattle.sg_parse.proofs.Taken.{count-push}
use Rattle.sg_parse.proofs.BuildLemmas.{classes-push}
use Rattle.sg_parse.proofs.Run.{none_split}

-- none of the lines breaks a limit, behind these
abbrev pub KeepAll : List Sentence → List Sentence → Type 0
KeepAll before [] = Unit {0}
KeepAll before (line ∷ lines) = ¬ BreaksSome before line × KeepAll (before ++ line ∷ []) lines

pub keep_from : (lines before rest : List Sentence) → HasNoneIn BreaksSome lines → lines ≡ before ++ rest → KeepAll before rest
keep_from lines before [] none e = tt
keep_from lines before (line ∷ rest) none e = (none_split BreaksSome lines before rest line none e, keep_from lines (before ++ line ∷ []) rest none (e ∙ sym (append_assoc before (line ∷ []) rest)))

pub keep_behind : (before xs ys : List Sentence) → KeepAll before (xs ++ ys) → KeepAll (before ++ xs) ys
keep_behind before [] ys h = subst (λ b. KeepAll b ys) (sym (append-nil before)) h
keep_behind before (x ∷ xs) ys h = subst (λ b. KeepAll b ys) (append_assoc before (x ∷ []) xs) (keep_behind (before ++ x ∷ []) xs ys h.1)

-- ---- how many classes there are

class_more : (before : List Sentence) (line : Sentence) (class : Class) (k : ℕ) → IsClass line class → k ≤ length (classes_in before) → k + 1 ≤ length (classes_in (before ++ line ∷ []))
class_more before line class k is few =
    let pushed = ap length (classes-push before line) in
    let long = length-append (classes_in before) (class_in line) in
    let one = ap (λ (l : Sentence). length (class_in l)) is in
    omega (arith, pushed, long, one, few)

pub few_classes : (before after lines : List Sentence) (classes : List Class) (k : ℕ) → Pairwise IsClass lines classes → KeepAll before (lines ++ after) → k ≤ length (classes_in before) → k ≤ 256 → length classes + k ≤ 256
few_classes before after [] [] k h keep some few = omega (arith, few)
few_classes before after [] (c ∷ cs) k h keep some few = absurd h
few_classes before after (line ∷ lines) [] k h keep some few = absurd h
few_classes before after (line ∷ lines) (c ∷ cs) k h keep some few =
    elim (cases_lt k 256) [
      | inl less ↦
          let more = few_classes (before ++ line ∷ []) after lines cs (k + 1) h.1 keep.1 (class_more before line c k h.0 some) (omega (arith, less)) in
          omega (arith, more)
      | inr full ↦ absurd (keep.0 (Classes, (c.name, c.shape, h.0, omega (arith, full, some))))
    ]

-- ---- how many mutators there are

count-append : (p : Sentence → Bool) (xs ys : List Sentence) → count_by p (xs ++ ys) ≡ count_by p xs + count_by p ys
count-append p xs ys = sum_by-append (λ y. cond (p y) 1 0) xs ys

begun_more : (before body : List Sentence) (k : ℕ) → k ≤ count_by is_begin before → k + 1 ≤ count_by is_begin (((before ++ Begins ∷ []) ++ body) ++ Ends ∷ [])
begun_more before body k some =
    let a = count-push is_begin before Begins in
    let b = count-append is_begin (before ++ Begins ∷ []) body in
    let c = count-push is_begin ((before ++ Begins ∷ []) ++ body) Ends in
    omega (arith, a, b, c, some)

pub few_mutators : (names : List ℕ → ℕ → Type 0) (before lines : List Sentence) (scripts : List Script) (k : ℕ) → AreScripts names lines scripts → KeepAll before lines → k ≤ count_by is_begin before → k ≤ 16 → length scripts + k ≤ 16
few_mutators names before lines [] k s keep some few = omega (arith, few)
few_mutators names before lines (script ∷ scripts) k s keep some few =
    let keeps : KeepAll before (Begins ∷ s.0 ++ Ends ∷ s.1) = subst (KeepAll before) s.2 keep in
    elim (cases_lt k 16) [
      | inl less ↦
          let behind = (keep_behind (before ++ Begins ∷ []) s.0 (Ends ∷ s.1) keeps.1).1 in
          let more = few_mutators names (((before ++ Begins ∷ []) ++ s.0) ++ Ends ∷ []) s.1 scripts (k + 1) s.4 behind (begun_more before s.0 k some) (omega (arith, less)) in
          omega (arith, more)
      | inr full ↦ absurd (keeps.0 (Mutators, (refl, omega (arith, full, some))))
    ]

-- ---- how many mutators and repeats are open

abbrev one_if : Bool → ℕ
one_if test = cond test 1 0

-- so many are open before these lines of all, of which none breaks a limit
pub record IsDeep (all : List Sentence) (depth : ℕ) (lines : List Sentence) : Type 0 where
  pub before : List Sentence
  pub whole : all ≡ before ++ lines
  pub opened : count_by is_opening before ≡ depth + count_by is_ending before
  pub keep : KeepAll before lines

pub deep_plain : (all : List Sentence) (depth : ℕ) (line : Sentence) (lines : List Sentence) → is_opening line ≡ false → is_ending line ≡ false → IsDeep all depth (line ∷ lines) → IsDeep all depth lines
deep_plain all depth line lines o e d = record {
  before = d.before ++ line ∷ [];
  whole = d.whole ∙ sym (append_assoc d.before (line ∷ []) lines);
  opened =
      let a = count-push is_opening d.before line in
      let b = count-push is_ending d.before line in
      let x = ap one_if o in
      let y = ap one_if e in
      let z = d.opened in
      omega (arith, a, b, x, y, z);
  keep = d.keep.1;
}

pub deep_open : (all : List Sentence) (depth : ℕ) (line : Sentence) (lines : List Sentence) → is_opening line ≡ true → is_ending line ≡ false → IsDeep all depth (line ∷ lines) → IsDeep all (depth + 1) lines
deep_open all depth line lines o e d = record {
  before = d.before ++ line ∷ [];
  whole = d.whole ∙ sym (append_assoc d.before (line ∷ []) lines);
  opened =
      let a = count-push is_opening d.before line in
      let b = count-push is_ending d.before line in
      let x = ap one_if o in
      let y = ap one_if e in
      let z = d.opened in
      omega (arith, a, b, x, y, z);
  keep = d.keep.1;
}

pub deep_end : (all : List Sentence) (depth : ℕ) (lines : List Sentence) → IsDeep all (depth + 1) (Ends ∷ lines) → IsDeep all depth lines
deep_end all depth lines d = record {
  before = d.before ++ Ends ∷ [];
  whole = d.whole ∙ sym (append_assoc d.before (Ends ∷ []) lines);
  opened =
      let a = count-push is_opening d.before Ends in
      let b = count-push is_ending d.before Ends in
      let z = d.opened in
      omega (arith, a, b, z);
  keep = d.keep.1;
}

deep_repeat : (all : List Sentence) (depth times : ℕ) (lines : List Sentence) → IsDeep all depth (Repeats times ∷ lines) → depth ≤ 4
deep_repeat all depth times lines d =
    let z = d.opened in
    elim (cases_lt 4 depth) [
      | inl more ↦
          let deep : 5 ≤ open_behind d.before = omega (arith, z, more) in
          absurd (d.keep.0 (Nesting, (times, refl, deep)))
      | inr few ↦ few
    ]

-- ---- how deep items are

depth_one : (item : Item) (s : Statement) → out-Item item ≡ One s → item_depth item ≡ 0
depth_one item s e = fold_out-Item ℕ depth_step item ∙ ap (λ x. depth_step (map-Item Item ℕ item_depth x)) e

depth_repeat : (item : Item) (times : ℕ) (body : List Item) → out-Item item ≡ Repeat times body → item_depth item ≡ depth_step (Repeat times (map item_depth body))
depth_repeat item times body e = fold_out-Item ℕ depth_step item ∙ ap (λ x. depth_step (map-Item Item ℕ item_depth x)) e

-- items that stand in so many open bodies aren't too deep
abbrev pub AreShallow : ℕ → List Item → Type 0
AreShallow depth items = AllByRecursion (λ item. item_depth item + depth ≤ 5) items

max_below : (a b d : ℕ) → a + d ≤ 5 → suc b + d ≤ 6 → suc (max a b) + d ≤ 6
max_below a b d p q =
    let most : max a b ≤ 5 - d = max-le (omega arith) (omega arith) in
    omega arith

step_below : (times : ℕ) (items : List Item) (depth : ℕ) → depth ≤ 5 → AreShallow depth items → depth_step (Repeat times (map item_depth items)) + depth ≤ 6
step_below times [] depth low h = omega (arith, low)
step_below times (item ∷ items) depth low h = max_below (item_depth item) _ depth h.0 (step_below times items depth low h.1)

around_repeat : (times : ℕ) (body rest whole after : List Sentence) → whole ≡ Repeats times ∷ body ++ Ends ∷ rest → whole ++ after ≡ Repeats times ∷ (body ++ Ends ∷ (rest ++ after))
around_repeat times body rest whole after e = ap (λ w. w ++ after) e ∙ append_assoc (Repeats times ∷ body) (Ends ∷ rest) after

pub nested_items : (names : List ℕ → ℕ → Type 0) (all lines : List Sentence) (items : List Item) → AreItems names lines items → (depth : ℕ) → depth ≤ 5 → (after : List Sentence) → IsDeep all depth (lines ++ after)
    → AreShallow depth items × IsDeep all depth after
nested_items names all _ _ NoItem depth low after d = (tt, d)
nested_items names all _ _ (OneSays s rest item more out h) depth low after d =
    let n = nested_items names all rest more h depth low after (deep_plain all depth (Says s) (rest ++ after) refl refl d) in
    ((omega (arith, low, depth_one item s out), n.0), n.1)
nested_items names all _ _ (OneMakes maker r class name rest item more stands out h) depth low after d =
    let n = nested_items names all rest more h depth low after (deep_plain all depth (Makes maker r name) (rest ++ after) refl refl d) in
    ((omega (arith, low, depth_one item (made_by maker r class) out), n.0), n.1)
nested_items names all lines _ (NoRepeat times body rest whole more e b h) depth low after d =
    let here : IsDeep all depth (Repeats times ∷ (body ++ Ends ∷ (rest ++ after))) = subst (IsDeep all depth) (around_repeat times body rest lines after e) d in
    let few = deep_repeat all depth times _ here in
    let inner = nested_items names all body [] b (depth + 1) (omega (arith, few)) (Ends ∷ (rest ++ after)) (deep_open all depth (Repeats times) _ refl refl here) in
    nested_items names all rest more h depth low after (deep_end all depth (rest ++ after) inner.1)
nested_items names all lines _ (OneRepeat times body rest whole item inside more e b some out h) depth low after d =
    let here : IsDeep all depth (Repeats times ∷ (body ++ Ends ∷ (rest ++ after))) = subst (IsDeep all depth) (around_repeat times body rest lines after e) d in
    let few = deep_repeat all depth times _ here in
    let inner = nested_items names all body inside b (depth + 1) (omega (arith, few)) (Ends ∷ (rest ++ after)) (deep_open all depth (Repeats times) _ refl refl here) in
    let n = nested_items names all rest more h depth low after (deep_end all depth (rest ++ after) inner.1) in
    let most = step_below times inside (depth + 1) (omega (arith, few)) inner.0 in
    ((omega (arith, most, depth_repeat item times inside out), n.0), n.1)

-- ---- the lines before the scripts

pub deep_settings : (all settings after : List Sentence) → AllByRecursion IsSetting settings → IsDeep all 0 (settings ++ after) → IsDeep all 0 after
deep_settings all [] after h d = d
deep_settings all (line ∷ lines) after h d = deep_settings all lines after h.1 (deep_plain all 0 line (lines ++ after) (ap is_opening h.0.2) (ap is_ending h.0.2) d)

pub deep_classes : (all lines after : List Sentence) (classes : List Class) → Pairwise IsClass lines classes → IsDeep all 0 (lines ++ after) → IsDeep all 0 after
deep_classes all [] after [] h d = d
deep_classes all [] after (c ∷ cs) h d = absurd h
deep_classes all (line ∷ lines) after [] h d = absurd h
deep_classes all (line ∷ lines) after (c ∷ cs) h d = deep_classes all lines after cs h.1 (deep_plain all 0 line (lines ++ after) (ap is_opening h.0) (ap is_ending h.0) d)

-- the last line of scripts is the end of a mutator
pub last_end : (names : List ℕ → ℕ → Type 0) (all lines : List Sentence) (scripts : List Script) → AreScripts names lines scripts → 1 ≤ length scripts → IsDeep all 0 lines → IsDeep all 1 (Ends ∷ [])
last_end names all lines [] s some d = absurd (omega (arith, some))
last_end names all lines (script ∷ []) s some d =
    let here : IsDeep all 0 (Begins ∷ s.0 ++ Ends ∷ s.1) = subst (IsDeep all 0) s.2 d in
    let n = nested_items names all s.0 script.items s.3 1 (omega arith) (Ends ∷ s.1) (deep_open all 0 Begins (s.0 ++ Ends ∷ s.1) refl refl here) in
    subst (λ l. IsDeep all 1 (Ends ∷ l)) s.4 n.1
last_end names all lines (script ∷ next ∷ more) s some d =
    let here : IsDeep all 0 (Begins ∷ s.0 ++ Ends ∷ s.1) = subst (IsDeep all 0) s.2 d in
    let n = nested_items names all s.0 script.items s.3 1 (omega arith) (Ends ∷ s.1) (deep_open all 0 Begins (s.0 ++ Ends ∷ s.1) refl refl here) in
    last_end names all s.1 (next ∷ more) s.4 (omega arith) (deep_end all 0 s.1 n.1)
