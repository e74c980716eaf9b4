-- The settings that lines give one after another are those of the program.
use Rattle.std.proofs.Common.{◌≡◌, ◌≢◌, ℕ, zero, suc, ◌<◌, ◌⊎◌, inl, inr, Some, List, [], ◌∷◌, ◌++◌, length, slice_get, refl, sym, ap, ◌∙◌, arith}
use Rattle.std.specs.List.{Contains, AllByRecursion, slice_index_or, fold}
use Rattle.std.proofs.lemmas.Bool.{cases_eq}
use Rattle.std.proofs.lemmas.List.Sums.{fold-append}
use Rattle.std.proofs.lemmas.Option.{slice_get-get_or}
use Rattle.sg_program.specs.declared.program.Config.{Config}
use Rattle.sg_program.specs.declared.program.Class.{Class}
use Rattle.sg_program.specs.declared.program.Item.{Item}
use Rattle.sg_program.specs.declared.program.Script.{Script}
use Rattle.sg_program.specs.declared.program.Program.{Program}
use Rattle.sg_words.specs.Lists.{Pairwise}
use Rattle.sg_text.specs.declared.line.Setting.{Setting}
use Rattle.sg_text.specs.declared.line.Setting.TheVariants.{Nursery, Blocks, Pages, Buffer, Workers, Cement}
use Rattle.sg_text.specs.Lines.{Sentence, Sets, Begins, Repeats, Ends}
use Rattle.sg_grammar.specs.Text.{AreItems, NoItem, OneSays, OneMakes, NoRepeat, OneRepeat, AreScripts, IsClass, value_in, defaults, IsSetting, AreSettings, IsProgram, defaults}
use Rattle.sg_parse.specs.Building.{config_set, config_with, config_of}

-- ---- one more setting

with_same : (c : Config) (at : Setting) (n : ℕ) → value_in (config_set c at n) at ≡ n
with_same c Nursery n = refl
with_same c Blocks n = refl
with_same c Pages n = refl
with_same c Buffer n = refl
with_same c Workers n = refl
with_same c Cement n = refl

with_other : (c : Config) (at b : Setting) (n : ℕ) → b ≢ at → value_in (config_set c at n) b ≡ value_in c b
with_other c Nursery Nursery n o = absurd (o refl)
with_other c Nursery Blocks n o = refl
with_other c Nursery Pages n o = refl
with_other c Nursery Buffer n o = refl
with_other c Nursery Workers n o = refl
with_other c Nursery Cement n o = refl
with_other c Blocks Nursery n o = refl
with_other c Blocks Blocks n o = absurd (o refl)
with_other c Blocks Pages n o = refl
with_other c Blocks Buffer n o = refl
with_other c Blocks Workers n o = refl
with_other c Blocks Cement n o = refl
with_other c Pages Nursery n o = refl
with_other c Pages Blocks n o = refl
with_other c Pages Pages n o = absurd (o refl)
with_other c Pages Buffer n o = refl
with_other c Pages Workers n o = refl
with_other c Pages Cement n o = refl
with_other c Buffer Nursery n o = refl
with_other c Buffer Blocks n o = refl
with_other c Buffer Pages n o = refl
with_other c Buffer Buffer n o = absurd (o refl)
with_other c Buffer Workers n o = refl
with_other c Buffer Cement n o = refl
with_other c Workers Nursery n o = refl
with_other c Workers Blocks n o = refl
with_other c Workers Pages n o = refl
with_other c Workers Buffer n o = refl
with_other c Workers Workers n o = absurd (o refl)
with_other c Workers Cement n o = refl
with_other c Cement Nursery n o = refl
with_other c Cement Blocks n o = refl
with_other c Cement Pages n o = refl
with_other c Cement Buffer n o = refl
with_other c Cement Workers n o = refl
with_other c Cement Cement n o = absurd (o refl)

-- two settings are the same, or they aren't
place_in : Setting → ℕ
place_in Nursery = 0
place_in Blocks = 1
place_in Pages = 2
place_in Buffer = 3
place_in Workers = 4
place_in Cement = 5

setting_at : ℕ → Setting
setting_at zero = Nursery
setting_at (suc zero) = Blocks
setting_at (suc (suc zero)) = Pages
setting_at (suc (suc (suc zero))) = Buffer
setting_at (suc (suc (suc (suc zero)))) = Workers
setting_at (suc (suc (suc (suc (suc at))))) = Cement

back : (setting : Setting) → setting_at (place_in setting) ≡ setting
unfolding setting_at place_in
back Nursery = refl
back Blocks = refl
back Pages = refl
back Buffer = refl
back Workers = refl
back Cement = refl

same_or_other : (a b : Setting) → (a ≡ b) ⊎ (a ≢ b)
same_or_other a b = elim (cases_eq (place_in a) (place_in b)) [
  | inl e ↦ inl (sym (back a) ∙ ap setting_at e ∙ back b)
  | inr o ↦ inr (λ e. o (ap place_in e))
]

-- ---- all settings

not_head : (at : Setting) (x : Sentence) (l : List Sentence) (s : IsSetting x) → s.0 ≢ at → ((n : ℕ) → ¬ Contains l (Sets at n)) →
    (n k : ℕ) → k < length (x ∷ l) → slice_index_or (x ∷ l) k (Sets at n) ≡ Sets at n → ⊥
not_head at x l s o g n zero b e = let d = s.2 in let q : s.0 ≡ at = cc in o q
not_head at x l s o g n (suc k) b e = g n (k, omega arith, e)

-- a setting is given by some sentence or by none
pub gives : (at : Setting) (l : List Sentence) → AllByRecursion IsSetting l → ((n : ℕ) × Contains l (Sets at n)) ⊎ ((n : ℕ) → ¬ Contains l (Sets at n))
gives at [] p = inr (λ n c. absurd (omega (arith, c.1)))
gives at (x ∷ l) p = elim (same_or_other p.0.0 at) [
  | inl e ↦ inl (p.0.1, (0, omega arith, p.0.2 ∙ ap (λ k. Sets k p.0.1) e))
  | inr o ↦ elim (gives at l p.1) [
    | inl g ↦ let g1 = g.1 in inl (g.0, (suc g1.0, omega arith, g1.2))
    | inr g ↦ inr (λ n c. not_head at x l p.0 o g n c.0 c.1 c.2)
  ]
]

abbrev AreOnce : List Sentence → Type 0
AreOnce lines = (i j : ℕ) (at : Setting) (n m : ℕ) → slice_get lines i ≡ Some (Sets at n) → slice_get lines j ≡ Some (Sets at m) → i ≡ j

-- the value of a setting behind the lines: the one that is given, or the one before them
abbrev IsValue : Setting → List Sentence → Config → Type 0
IsValue at lines c =
    ((n : ℕ) × Contains lines (Sets at n) × (value_in (fold config_with c lines) at ≡ n))
    ⊎ (((n : ℕ) → ¬ Contains lines (Sets at n)) × (value_in (fold config_with c lines) at ≡ value_in c at))

place_of : (lines : List Sentence) (x : Sentence) (held : Contains lines x) → slice_get lines held.0 ≡ Some x
place_of lines x held = slice_get-get_or lines held.0 x held.1 ∙ ap (λ (l : Sentence). Some l) held.2

head_twice : (x : Sentence) (lines : List Sentence) (at : Setting) (n m : ℕ) → AreOnce (x ∷ lines) → x ≡ Sets at n → Contains lines (Sets at m) → ⊥
head_twice x lines at n m once e held =
    let same : 0 ≡ suc held.0 = once 0 (suc held.0) at n m (ap (λ (l : Sentence). Some l) e) (place_of lines (Sets at m) held) in
    omega (arith, same)

value_head : (at : Setting) (x : Sentence) (lines : List Sentence) (c : Config) (n : ℕ) → x ≡ Sets at n → AreOnce (x ∷ lines) → IsValue at lines (config_with c x) → IsValue at (x ∷ lines) c
value_head at x lines c n e once (inl more) = absurd (head_twice x lines at n more.0 once e more.1)
value_head at x lines c n e once (inr none) = inl (n, (0, omega arith, e), none.1 ∙ ap (λ (l : Sentence). value_in (config_with c l) at) e ∙ with_same c at n)

value_other : (at : Setting) (x : Sentence) (lines : List Sentence) (c : Config) (s : IsSetting x) → s.0 ≢ at → IsValue at lines (config_with c x) → IsValue at (x ∷ lines) c
value_other at x lines c s other (inl more) = let held = more.1 in inl (more.0, (suc held.0, omega (arith, held.1), held.2), more.2)
value_other at x lines c s other (inr none) = inr (
  λ n held. not_head at x lines s other none.0 n held.0 held.1 held.2,
  none.1 ∙ ap (λ (l : Sentence). value_in (config_with c l) at) s.2 ∙ with_other c s.0 at s.1 (λ e. other (sym e)),
)

value : (at : Setting) (lines : List Sentence) (c : Config) → AllByRecursion IsSetting lines → AreOnce lines → IsValue at lines c
value at [] c all once = inr (λ n held. let none = held.1 in absurd (omega (arith, none)), refl)
value at (x ∷ lines) c all once =
    let more = value at lines (config_with c x) all.1 (λ i j b n m p q. let same = once (suc i) (suc j) b n m p q in omega (arith, same)) in
    elim (same_or_other all.0.0 at) [
      | inl e ↦ value_head at x lines c all.0.1 (all.0.2 ∙ ap (λ (k : Setting). Sets k all.0.1) e) once more
      | inr other ↦ value_other at x lines c all.0 other more
    ]

same_by : (at : Setting) (lines : List Sentence) (config : Config) → AreSettings lines config → IsValue at lines defaults → value_in (config_of lines) at ≡ value_in config at
same_by at lines config are (inl given) = given.2 ∙ sym (are.given at given.0 given.1)
same_by at lines config are (inr none) = none.1 ∙ sym (are.else at none.0)

same_config : (a b : Config) → ((at : Setting) → value_in a at ≡ value_in b at) → a ≡ b
same_config a b v = λ i. record { nursery = v Nursery i; blocks = v Blocks i; pages = v Pages i; buffer = v Buffer i; workers = v Workers i; cement = v Cement i }

pub settings_are : (lines : List Sentence) (config : Config) → AreSettings lines config → config_of lines ≡ config
settings_are lines config are = same_config (config_of lines) config (λ at. same_by at lines config are (value at lines defaults are.settings are.once))

-- ---- lines that give no setting

-- the lines change no setting
abbrev pub KeepSettings : List Sentence → Type 0
KeepSettings lines = (c : Config) → fold config_with c lines ≡ c

around_kept : (first : Sentence) (body rest whole : List Sentence) → whole ≡ first ∷ body ++ Ends ∷ rest → ((c : Config) → config_with c first ≡ c) → KeepSettings body → KeepSettings rest → KeepSettings whole
around_kept first body rest whole e f b r c =
    ap (fold config_with c) e ∙ ap (λ (d : Config). fold config_with d (body ++ Ends ∷ rest)) (f c) ∙ fold-append config_with c body (Ends ∷ rest) ∙ ap (λ (d : Config). fold config_with d rest) (b c) ∙ r c

items_kept : (names : List ℕ → ℕ → Type 0) (lines : List Sentence) (items : List Item) → AreItems names lines items → KeepSettings lines
items_kept names _ _ NoItem = λ c. refl
items_kept names _ _ (OneSays s rest item more out d) = λ c. items_kept names rest more d c
items_kept names _ _ (OneMakes maker r class name rest item more stands out d) = λ c. items_kept names rest more d c
items_kept names lines _ (NoRepeat times body rest whole more e b d) = around_kept (Repeats times) body rest lines e (λ c. refl) (items_kept names body [] b) (items_kept names rest more d)
items_kept names lines _ (OneRepeat times body rest whole item inner more e b some out d) = around_kept (Repeats times) body rest lines e (λ c. refl) (items_kept names body inner b) (items_kept names rest more d)

scripts_kept : (names : List ℕ → ℕ → Type 0) (lines : List Sentence) (scripts : List Script) → AreScripts names lines scripts → KeepSettings lines
scripts_kept names lines [] e = λ c. ap (fold config_with c) e
scripts_kept names lines (script ∷ scripts) s = around_kept Begins s.0 s.1 lines s.2 (λ c. refl) (items_kept names s.0 script.items s.3) (scripts_kept names s.1 scripts s.4)

classes_kept : (lines : List Sentence) (classes : List Class) → Pairwise IsClass lines classes → KeepSettings lines
classes_kept [] [] h = λ c. refl
classes_kept [] (k ∷ ks) h = absurd h
classes_kept (line ∷ lines) [] h = absurd h
classes_kept (line ∷ lines) (k ∷ ks) h = λ c. ap (λ (l : Sentence). fold config_with (config_with c l) lines) h.0 ∙ classes_kept lines ks h.1 c

pub settings_of_lines : (settings rest : List Sentence) (config : Config) → AreSettings settings config → KeepSettings rest → config_of (settings ++ rest) ≡ config
settings_of_lines settings rest config are kept = fold-append config_with defaults settings rest ∙ kept (config_of settings) ∙ settings_are settings config are

-- the settings of a program are those that its sentences give
pub config_is : (names : List ℕ → ℕ → Type 0) (lines : List Sentence) (p : Program) → IsProgram names lines p → config_of lines ≡ p.config
config_is names lines p is =
    ap config_of is.in_order ∙ fold-append config_with defaults (is.settings ++ is.classes) is.scripts
    ∙ scripts_kept names is.scripts p.mutators is.are_scripts (config_of (is.settings ++ is.classes))
    ∙ settings_of_lines is.settings is.classes p.config is.are_settings (classes_kept is.classes p.classes is.are_classes)
