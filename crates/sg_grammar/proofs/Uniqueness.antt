-- The sentences of a text are those of one program at most.
use Rattle.std.proofs.Common.{◌≡◌, ◌≢◌, ℕ, zero, suc, ◌<◌, ◌⊎◌, inl, inr, List, [], ◌∷◌, ◌++◌, length, refl, sym, ap, ◌∙◌, subst, append_assoc, arith}
use Rattle.std.proofs.lemmas.Bool.{cases_eq, cases_lt}
use Rattle.std.specs.List.{Contains, AllByRecursion, slice_index_or}
use Rattle.sg_desc.specs.declared.shapes.Shape.{Shape}
use Rattle.sg_program.specs.declared.program.Config.{Config}
use Rattle.sg_program.specs.declared.program.Class.{Class}
use Rattle.sg_program.specs.declared.program.Item.{Item, out-Item, roll-Item, roll-out-Item}
use Rattle.sg_program.specs.declared.program.Item.TheOpen.{One, Repeat}
use Rattle.sg_program.specs.declared.program.Script.{Script}
use Rattle.sg_program.specs.declared.program.Program.{Program}
use Rattle.sg_words.specs.Lists.{Pairwise}
use Rattle.sg_text.specs.declared.line.Setting.{Setting}
use Rattle.sg_text.specs.declared.line.Setting.TheVariants.{Nursery, Blocks, Pages, Buffer, Workers, Cement}
use Rattle.sg_text.specs.Words.{lines_of}
use Rattle.sg_text.specs.Numbered.{Numbered, sentences}
use Rattle.sg_text.specs.Laws.{HaveOneSaying}
use Rattle.sg_text.specs.Lines.{made_by, Sentence, Sets, Declares, Repeats, Ends, Makes, Says}
use Rattle.sg_grammar.specs.Text.{AreItems, NoItem, OneSays, OneMakes, NoRepeat, OneRepeat, AreScripts, IsClass, value_in, IsSetting, AreSettings, IsProgram, StandsFor, HasOneReading}
use Rattle.sg_grammar.specs.Order.{index_of}
use Rattle.sg_grammar.specs.Laws.{AreOneBody, HaveOneProgram}
use Rattle.sg_grammar.proofs.Runs.{same_setting}

-- a name stands for one class at most
IsFunctional : (List ℕ → ℕ → Type 0) → Type 0
IsFunctional names = (word : List ℕ) (c d : ℕ) → names word c → names word d → c ≡ d

same_item : (a b : Item) → out-Item a ≡ out-Item b → a ≡ b
same_item a b e = sym (roll-out-Item a) ∙ ap roll-Item e ∙ roll-out-Item b

-- the kind of the first sentence of items, or of what follows them
tag : List Sentence → ℕ
tag [] = 0
tag (Says s ∷ rest) = 1
tag (Makes maker r name ∷ rest) = 2
tag (Repeats times ∷ rest) = 3
tag (x ∷ rest) = 4

opened : (times : ℕ) (body rest whole after : List Sentence) → whole ≡ Repeats times ∷ body ++ Ends ∷ rest →
    whole ++ Ends ∷ after ≡ Repeats times ∷ (body ++ Ends ∷ (rest ++ Ends ∷ after))
opened times body rest whole after e =
    ap (λ w. w ++ Ends ∷ after) e ∙ ap (λ w. Repeats times ∷ w) (append_assoc body (Ends ∷ rest) (Ends ∷ after))

tag_of : {names : List ℕ → ℕ → Type 0} {l : List Sentence} {i : List Item} → AreItems names l i → ℕ
tag_of NoItem = 4
tag_of (OneSays s rest item items o d) = 1
tag_of (OneMakes maker r class name rest item items n o d) = 2
tag_of (NoRepeat times body rest whole items e b d) = 3
tag_of (OneRepeat times body rest whole item inner items e b n o d) = 3

tagged : {names : List ℕ → ℕ → Type 0} {l : List Sentence} {i : List Item} (after : List Sentence) (d : AreItems names l i) → tag (l ++ Ends ∷ after) ≡ tag_of d
unfolding tag tag_of
tagged after NoItem = refl
tagged after (OneSays s rest item items o d) = refl
tagged after (OneMakes maker r class name rest item items n o d) = refl
tagged after (NoRepeat times body rest whole items e b d) = ap tag (opened times body rest whole after e)
tagged after (OneRepeat times body rest whole item inner items e b n o d) = ap tag (opened times body rest whole after e)

tail_of : (x y : Sentence) (l m : List Sentence) → x ∷ l ≡ y ∷ m → l ≡ m
tail_of x y l m e = cc

one_body : (names : List ℕ → ℕ → Type 0) → IsFunctional names → (r s : List Sentence) {l m : List Sentence} {i j : List Item} →
    AreItems names l i → AreItems names m j → l ++ Ends ∷ r ≡ m ++ Ends ∷ s → AreOneBody l m i j r s
unfolding IsFunctional tag_of
one_body names f r s NoItem NoItem e = record { lines = refl; items = refl; rest = tail_of _ _ _ _ e }
one_body names f r s (OneSays s1 r1 i1 k1 o1 d1) (OneSays s2 r2 i2 k2 o2 d2) e =
    let h = one_body names f r s d1 d2 (tail_of _ _ _ _ e) in
    let same : s1 ≡ s2 = cc in
    let first : i1 ≡ i2 = same_item i1 i2 (o1 ∙ ap One same ∙ sym o2) in
    let lines = h.lines in let items = h.items in
    record { lines = cc; items = cc; rest = h.rest }
one_body names f r s (OneMakes g1 a1 c1 n1 r1 i1 k1 w1 o1 d1) (OneMakes g2 a2 c2 n2 r2 i2 k2 w2 o2 d2) e =
    let h = one_body names f r s d1 d2 (tail_of _ _ _ _ e) in
    let maker : g1 ≡ g2 = cc in
    let register : a1 ≡ a2 = cc in
    let name : n1 ≡ n2 = cc in
    let class : c1 ≡ c2 = f n2 c1 c2 (subst (λ n. names n c1) name w1) w2 in
    let made : made_by g1 a1 c1 ≡ made_by g2 a2 c2 = ap (λ g. made_by g a1 c1) maker ∙ ap (λ a. made_by g2 a c1) register ∙ ap (made_by g2 a2) class in
    let first : i1 ≡ i2 = same_item i1 i2 (o1 ∙ ap One made ∙ sym o2) in
    let lines = h.lines in let items = h.items in
    record { lines = cc; items = cc; rest = h.rest }
one_body names f r s (NoRepeat t1 b1 r1 w1 k1 e1 in1 d1) (NoRepeat t2 b2 r2 w2 k2 e2 in2 d2) e =
    let q = sym (opened t1 b1 r1 w1 r e1) ∙ e ∙ opened t2 b2 r2 w2 s e2 in
    let times : t1 ≡ t2 = cc in
    let h = one_body names f _ _ in1 in2 (tail_of _ _ _ _ q) in
    let g = one_body names f r s d1 d2 h.rest in
    let body = h.lines in let rest = g.lines in
    record { lines = cc; items = g.items; rest = g.rest }
one_body names f r s (OneRepeat t1 b1 r1 w1 i1 n1 k1 e1 in1 z1 o1 d1) (OneRepeat t2 b2 r2 w2 i2 n2 k2 e2 in2 z2 o2 d2) e =
    let q = sym (opened t1 b1 r1 w1 r e1) ∙ e ∙ opened t2 b2 r2 w2 s e2 in
    let times : t1 ≡ t2 = cc in
    let h = one_body names f _ _ in1 in2 (tail_of _ _ _ _ q) in
    let g = one_body names f r s d1 d2 h.rest in
    let body = h.lines in let rest = g.lines in let items = g.items in
    let first : i1 ≡ i2 = same_item i1 i2 (o1 ∙ ap (λ t. Repeat t n1) times ∙ ap (Repeat t2) h.items ∙ sym o2) in
    record { lines = cc; items = cc; rest = g.rest }
one_body names f r s (NoRepeat t1 b1 r1 w1 k1 e1 in1 d1) (OneRepeat t2 b2 r2 w2 i2 n2 k2 e2 in2 z2 o2 d2) e =
    let q = sym (opened t1 b1 r1 w1 r e1) ∙ e ∙ opened t2 b2 r2 w2 s e2 in
    let h = one_body names f _ _ in1 in2 (tail_of _ _ _ _ q) in
    absurd (z2 (sym h.items))
one_body names f r s (OneRepeat t1 b1 r1 w1 i1 n1 k1 e1 in1 z1 o1 d1) (NoRepeat t2 b2 r2 w2 k2 e2 in2 d2) e =
    let q = sym (opened t1 b1 r1 w1 r e1) ∙ e ∙ opened t2 b2 r2 w2 s e2 in
    let h = one_body names f _ _ in1 in2 (tail_of _ _ _ _ q) in
    absurd (z1 h.items)
one_body names f r s a b e = let p = tagged r a in let q = tagged s b in let t = ap tag e in absurd (omega arith)

one_script : (names : List ℕ → ℕ → Type 0) → IsFunctional names → (l m : List Sentence) (a b : List Script) → AreScripts names l a → AreScripts names m b → l ≡ m → a ≡ b
one_script names f l m [] [] p q e = refl
one_script names f l m [] (y ∷ ys) p q e = let q2 = q.2 in cc
one_script names f l m (x ∷ xs) [] p q e = let p2 = p.2 in cc
one_script names f l m (x ∷ xs) (y ∷ ys) p q e =
    let h = one_body names f p.1 q.1 p.3 q.3 (tail_of _ _ _ _ (sym p.2 ∙ e ∙ q.2)) in
    let more = one_script names f p.1 q.1 xs ys p.4 q.4 h.rest in
    let make : List Item → Script = λ k. record { items = k } in
    let first : x ≡ y = ap make h.items in
    cc

one_classes : (l : List Sentence) (a b : List Class) → Pairwise IsClass l a → Pairwise IsClass l b → a ≡ b
one_classes [] [] [] p q = refl
one_classes [] [] (y ∷ ys) p q = absurd q
one_classes [] (x ∷ xs) b p q = absurd p
one_classes (s ∷ l) [] b p q = absurd p
one_classes (s ∷ l) (x ∷ xs) [] p q = absurd q
one_classes (s ∷ l) (x ∷ xs) (y ∷ ys) p q =
    let more = one_classes l xs ys p.1 q.1 in
    let e : Declares x.name x.shape ≡ Declares y.name y.shape = sym p.0 ∙ q.0 in
    let name : x.name ≡ y.name = cc in
    let shape : x.shape ≡ y.shape = cc in
    let first : x ≡ y = λ i. record { name = name i; shape = shape i } in
    cc

-- the list doesn't begin with such a sentence
Stops : (Sentence → Type 0) → List Sentence → Type 0
Stops P [] = Unit {0}
Stops P (x ∷ xs) = ¬ P x

split : (P : Sentence → Type 0) (a b r s : List Sentence) → AllByRecursion P a → AllByRecursion P b → a ++ r ≡ b ++ s → Stops P r → Stops P s → (a ≡ b) × (r ≡ s)
unfolding Stops
split P [] [] r s p q e u v = (refl, e)
split P [] (y ∷ ys) r s p q e u v = absurd ((subst (Stops P) e u) q.0)
split P (x ∷ xs) [] r s p q e u v = absurd ((subst (Stops P) (sym e) v) p.0)
split P (x ∷ xs) (y ∷ ys) r s p q e u v =
    let h = split P xs ys r s p.1 q.1 (tail_of _ _ _ _ e) u v in
    let h0 = h.0 in
    (cc, h.1)

Declaring : Sentence → Type 0
Declaring line = (name : List ℕ) × (shape : Shape) × (line ≡ Declares name shape)

declaring : (l : List Sentence) (a : List Class) → Pairwise IsClass l a → AllByRecursion Declaring l
unfolding Declaring
declaring [] [] p = tt
declaring [] (y ∷ ys) p = absurd p
declaring (s ∷ l) [] p = absurd p
declaring (s ∷ l) (y ∷ ys) p = ((y.name, y.shape, p.0), declaring l ys p.1)

stop_scripts : (names : List ℕ → ℕ → Type 0) (l : List Sentence) (a : List Script) → AreScripts names l a → Stops Declaring l
unfolding Stops Declaring
stop_scripts names l [] p = subst (Stops Declaring) (sym p) tt
stop_scripts names l (x ∷ xs) p = subst (Stops Declaring) (sym p.2) (λ d. let e = d.2 in cc)

stop_settings : (names : List ℕ → ℕ → Type 0) (k l : List Sentence) (b : List Class) (a : List Script) → Pairwise IsClass k b → AreScripts names l a → Stops IsSetting (k ++ l)
unfolding Stops
stop_settings names [] l [] [] c p = subst (Stops IsSetting) (sym p) tt
stop_settings names [] l [] (x ∷ xs) c p = subst (Stops IsSetting) (sym p.2) (λ d. let e = d.2 in cc)
stop_settings names [] l (y ∷ ys) a c p = absurd c
stop_settings names (s ∷ k) l [] a c p = absurd c
stop_settings names (s ∷ k) l (y ∷ ys) a c p = λ d. let e = d.2 in let g = c.0 in cc

not_head : (at : Setting) (x : Sentence) (l : List Sentence) (s : IsSetting x) → s.0 ≢ at → ((n : ℕ) → ¬ Contains l (Sets at n)) →
    (n k : ℕ) → k < length (x ∷ l) → slice_index_or (x ∷ l) k (Sets at n) ≡ Sets at n → ⊥
not_head at x l s o g n zero b e = let d = s.2 in let q : s.0 ≡ at = cc in o q
not_head at x l s o g n (suc k) b e = g n (k, omega arith, e)

-- a setting is given by some sentence or by none
gives : (at : Setting) (l : List Sentence) → AllByRecursion IsSetting l → ((n : ℕ) × Contains l (Sets at n)) ⊎ ((n : ℕ) → ¬ Contains l (Sets at n))
gives at [] p = inr (λ n c. absurd (omega (arith, c.1)))
gives at (x ∷ l) p = elim (cases_eq (index_of p.0.0) (index_of at)) [
  | inl e ↦ inl (p.0.1, (0, omega arith, p.0.2 ∙ ap (λ k. Sets k p.0.1) (same_setting p.0.0 at e)))
  | inr o ↦ elim (gives at l p.1) [
    | inl g ↦ let g1 = g.1 in inl (g.0, (suc g1.0, omega arith, g1.2))
    | inr g ↦ inr (λ n c. not_head at x l p.0 (λ e. o (ap index_of e)) g n c.0 c.1 c.2)
  ]
]

one_value : (l : List Sentence) (a b : Config) → AreSettings l a → AreSettings l b → (at : Setting) → value_in a at ≡ value_in b at
one_value l a b p q at = elim (gives at l p.settings) [
  | inl g ↦ p.given at g.0 g.1 ∙ sym (q.given at g.0 g.1)
  | inr g ↦ p.else at g ∙ sym (q.else at g)
]

one_config : (l : List Sentence) (a b : Config) → AreSettings l a → AreSettings l b → a ≡ b
one_config l a b p q =
    let v = one_value l a b p q in
    λ i. record { nursery = v Nursery i; blocks = v Blocks i; pages = v Pages i; buffer = v Buffer i; workers = v Workers i; cement = v Cement i }

functional : (classes : List Class) → IsFunctional (StandsFor classes)
unfolding IsFunctional
functional classes word c d p q = elim (cases_lt c d) [
  | inl l ↦ absurd (q.first c l p.named)
  | inr m ↦ elim (cases_lt d c) [
    | inl l ↦ absurd (p.first d l q.named)
    | inr k ↦ omega arith
  ]
]

-- a name stands for one class
one_class : (classes : List Class) (word : List ℕ) (c d : ℕ) → StandsFor classes word c → StandsFor classes word d → c ≡ d
unfolding IsFunctional
one_class classes = functional classes

one_program : (lines : List Sentence) (p q : Program) → IsProgram (StandsFor p.classes) lines p → IsProgram (StandsFor q.classes) lines q → p ≡ q
one_program lines p q a b =
    let e = tail_of _ _ _ _ (sym a.in_order ∙ b.in_order) in
    let e1 = sym (append_assoc a.settings a.classes a.scripts) ∙ e ∙ append_assoc b.settings b.classes b.scripts in
    let s = split IsSetting a.settings b.settings _ _ a.are_settings.settings b.are_settings.settings e1
    (stop_settings _ a.classes a.scripts p.classes p.mutators a.are_classes a.are_scripts) (stop_settings _ b.classes b.scripts q.classes q.mutators b.are_classes b.are_scripts) in
    let c = split Declaring a.classes b.classes a.scripts b.scripts (declaring a.classes p.classes a.are_classes) (declaring b.classes q.classes b.are_classes) s.1
    (stop_scripts _ a.scripts p.mutators a.are_scripts) (stop_scripts _ b.scripts q.mutators b.are_scripts) in
    let config : p.config ≡ q.config = one_config b.settings p.config q.config (subst (λ l. AreSettings l p.config) s.0 a.are_settings) b.are_settings in
    let classes : p.classes ≡ q.classes = one_classes b.classes p.classes q.classes (subst (λ l. Pairwise IsClass l p.classes) c.0 a.are_classes) b.are_classes in
    let moved : AreScripts (StandsFor q.classes) a.scripts p.mutators = subst (λ k. AreScripts (StandsFor k) a.scripts p.mutators) classes a.are_scripts in
    let mutators : p.mutators ≡ q.mutators = one_script (StandsFor q.classes) (functional q.classes) a.scripts b.scripts p.mutators q.mutators moved b.are_scripts c.1 in
    λ i. record { config = config i; classes = classes i; mutators = mutators i }

pub have_one_program : HaveOneProgram
have_one_program = record {
  class = one_class;
  body = λ classes l m r s i j a b e. one_body (StandsFor classes) (functional classes) r s a b e;
  program = one_program;
}

-- no text reads as two programs
pub has_one_reading : HaveOneSaying → HaveOneProgram → HasOneReading
has_one_reading saying law = record {
  one = λ bytes p q r s.
      law.program (sentences r.0) p q r.2
      (subst (λ (l : List Numbered). IsProgram (StandsFor q.classes) (sentences l) q) (saying.one (lines_of bytes) s.0 r.0 s.1 r.1) s.2);
}
