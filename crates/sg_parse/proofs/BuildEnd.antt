-- What the building comes to: which scripts keep the limits of what is counted, and where one is broken.
use Rattle.std.proofs.Common.{◌≡◌, ◌⊎◌, ℕ, ◌+◌, ◌-◌, ◌<◌, ◌≤◌, true, false, Some, List, [], ◌∷◌, ◌++◌, length, take, drop, slice_get, inl, inr, sym, refl, ap, ◌∙◌, subst, append_assoc, arith}
use Rattle.std.specs.List.{AllByRecursion, count_by}
use Rattle.std.proofs.lemmas.List.{append-nil, length-append, length-take-le, take-append-drop}
use Rattle.std.proofs.lemmas.List.Sums.{sum_by-append}
use Rattle.std.proofs.lemmas.Option.{slice_get_within}
use Rattle.sg_program.specs.declared.program.Class.{Class}
use Rattle.sg_program.specs.declared.program.Item.{Item}
use Rattle.sg_program.specs.declared.program.Script.{Script}
use Rattle.sg_program.specs.declared.program.Program.{Program}
use Rattle.sg_words.specs.Lists.{Pairwise}
use Rattle.sg_program.specs.Scripts.{statements_in, finals_in, is_final, written_out}
use Rattle.sg_text.specs.Lines.{Sentence, Heads, Begins, Ends}
use Rattle.sg_grammar.specs.Text.{AreItems, AreScripts, IsClass, IsSetting, IsProgram, StandsFor}
use Rattle.sg_limits.specs.Faults.{classes_in, is_begin, is_opening, is_ending}
use Rattle.sg_parse.specs.Building.{AreFront, total_of, finals_of}
use Rattle.sg_grammar.specs.Laws.{HaveOneProgram}
use Rattle.sg_parse.proofs.NamedProgram.{classes_are}
use Rattle.sg_parse.proofs.Taken.{take_next}
use Rattle.sg_parse.proofs.ScriptLemmas.{same_script}

-- a sentence that begins nothing and ends nothing
abbrev pub IsPlain : Sentence → Type 0
IsPlain s = (is_begin s ≡ false) × (is_opening s ≡ false) × (is_ending s ≡ false)

settings_plain : (l : List Sentence) → AllByRecursion IsSetting l → AllByRecursion IsPlain l
settings_plain [] a = tt
settings_plain (x ∷ l) a = ((ap is_begin a.0.2, ap is_opening a.0.2, ap is_ending a.0.2), settings_plain l a.1)

classes_plain : (l : List Sentence) (classes : List Class) → Pairwise IsClass l classes → AllByRecursion IsPlain l
classes_plain [] [] a = tt
classes_plain [] (y ∷ ys) a = absurd a
classes_plain (x ∷ l) [] a = absurd a
classes_plain (x ∷ l) (y ∷ ys) a = ((ap is_begin a.0, ap is_opening a.0, ap is_ending a.0), classes_plain l ys a.1)

plain_append : (l m : List Sentence) → AllByRecursion IsPlain l → AllByRecursion IsPlain m → AllByRecursion IsPlain (l ++ m)
plain_append [] m a b = b
plain_append (x ∷ l) m a b = (a.0, plain_append l m a.1 b)

-- the sentences before the scripts
abbrev pub above_of : {names : List ℕ → ℕ → Type 0} {lines : List Sentence} {p : Program} → IsProgram names lines p → List Sentence
above_of is = (Heads ∷ is.settings) ++ is.classes

pub above_plain : {names : List ℕ → ℕ → Type 0} {lines : List Sentence} {p : Program} (is : IsProgram names lines p) → AllByRecursion IsPlain (above_of is)
above_plain {p = p} is = plain_append (Heads ∷ is.settings) is.classes ((refl, refl, refl), settings_plain is.settings is.are_settings.settings) (classes_plain is.classes p.classes is.are_classes)

pub above_classes : {names : List ℕ → ℕ → Type 0} {lines : List Sentence} {p : Program} (is : IsProgram names lines p) → p.classes ≡ classes_in (above_of is)
above_classes {names = names} {p = p} is =
    let q : Program = record { config = p.config; classes = p.classes; mutators = [] } in
    let made : IsProgram names (above_of is) q = record {
      settings = is.settings;
      classes = is.classes;
      scripts = [];
      in_order = sym (append-nil (above_of is));
      are_settings = is.are_settings;
      are_classes = is.are_classes;
      are_scripts = refl;
    } in
    classes_are names (above_of is) q made

-- a mutator begins there, or nothing stands there
abbrev AtBegin : List Sentence → Type 0
AtBegin [] = Unit {0}
AtBegin (x ∷ xs) = is_begin x ≡ true

part : (a b r s : List Sentence) → AllByRecursion IsPlain a → AllByRecursion IsPlain b → a ++ r ≡ b ++ s → AtBegin r → AtBegin s → (a ≡ b) × (r ≡ s)
part [] [] r s p q e u v = (refl, e)
part [] (y ∷ ys) r s p q e u v = let k : is_begin y ≡ true = subst AtBegin e u in let n = q.0.0 in absurd cc
part (x ∷ xs) [] r s p q e u v = let k : is_begin x ≡ true = subst AtBegin (sym e) v in let n = p.0.0 in absurd cc
part (x ∷ xs) (y ∷ ys) r s p q e u v =
    let tails : xs ++ r ≡ ys ++ s = cc in
    let first : x ≡ y = cc in
    let h = part xs ys r s p.1 q.1 tails u v in
    let h0 = h.0 in
    (cc, h.1)

pub scripts_some : (names : List ℕ → ℕ → Type 0) (l : List Sentence) (a : List Script) → AreScripts names l a → ((a ≡ []) × (l ≡ [])) ⊎ ((tail : List Sentence) × (l ≡ Begins ∷ tail))
scripts_some names l [] d = inl (refl, d)
scripts_some names l (x ∷ a) d = inr (d.0 ++ Ends ∷ d.1, d.2)

scripts_begin : (names : List ℕ → ℕ → Type 0) (l : List Sentence) (a : List Script) → AreScripts names l a → AtBegin l
scripts_begin names l a d = elim (scripts_some names l a d) [
  | inl e ↦ subst AtBegin (sym e.1) tt
  | inr t ↦ subst AtBegin (sym t.1) refl
]

tail_is : (x y : Sentence) (l m : List Sentence) → x ∷ l ≡ y ∷ m → l ≡ m
tail_is x y l m e = cc

-- scripts that stand within the lines that were read are the first ones
front_of : (law : HaveOneProgram) (classes : List Class) (a front : List Script) (l done todo r : List Sentence) (until : ℕ) → AreScripts (StandsFor classes) l a → AreScripts (StandsFor classes) done front → l ++ r ≡ done ++ todo →
    ((body tail : List Sentence) (items : List Item) → todo ≡ Begins ∷ body ++ Ends ∷ tail → AreItems (StandsFor classes) body items → until ≤ length done + (length body + 1)) → length l ≤ until →
    (k : List Script) × (front ≡ a ++ k)
front_of law classes [] front l done todo r until p q e next short = (front, refl)
front_of law classes (x ∷ a) [] l done todo r until p q e next short =
    let there : todo ≡ Begins ∷ p.0 ++ Ends ∷ (p.1 ++ r) =
    sym (ap (λ w. w ++ todo) q) ∙ sym e ∙ ap (λ w. w ++ r) p.2 ∙ ap (λ w. Begins ∷ w) (append_assoc p.0 (Ends ∷ p.1) r) in
    let n = next p.0 (p.1 ++ r) x.items there p.3 in
    let l0 = ap length q in let l1 = ap length p.2 in let l2 = length-append p.0 (Ends ∷ p.1) in absurd (omega arith)
front_of law classes (x ∷ a) (y ∷ front) l done todo r until p q e next short =
    let both : Begins ∷ (p.0 ++ Ends ∷ (p.1 ++ r)) ≡ Begins ∷ (q.0 ++ Ends ∷ (q.1 ++ todo)) =
    sym (ap (λ w. w ++ r) p.2 ∙ ap (λ w. Begins ∷ w) (append_assoc p.0 (Ends ∷ p.1) r)) ∙ e ∙ ap (λ w. w ++ todo) q.2 ∙ ap (λ w. Begins ∷ w) (append_assoc q.0 (Ends ∷ q.1) todo) in
    let h = law.body classes p.0 q.0 (p.1 ++ r) (q.1 ++ todo) x.items y.items p.3 q.3 (tail_is _ _ _ _ both) in
    let l1 = ap length p.2 in let l2 = length-append p.0 (Ends ∷ p.1) in
    let m1 = ap length q.2 in let m2 = length-append q.0 (Ends ∷ q.1) in let m3 = ap length h.lines in
    let rest = front_of law classes a front p.1 q.1 todo r (until - (length p.0 + 2)) p.4 q.4 h.rest (λ body tail items t i. let n = next body tail items t i in omega arith) (omega arith) in
    (rest.0, ap (λ k. y ∷ k) rest.1 ∙ ap (λ z. z ∷ (a ++ rest.0)) (sym (same_script x y h.items)))

-- up to line n no program has more than the limits of what is counted
abbrev pub KeepBelow : List Sentence → ℕ → Type 0
KeepBelow lines n =
    (j : ℕ) (line : Sentence) → j < n → slice_get lines j ≡ Some line → line ≡ Ends → (p : Program) → IsProgram (StandsFor p.classes) (take j lines ++ Ends ∷ []) p →
    (statements_in p ≤ 1048576) × (finals_in p ≤ 1024)

pub keep_front : (law : HaveOneProgram) → (lines : List Sentence) (p : Program) (is : IsProgram (StandsFor p.classes) lines p) (scripts : List Script) (until : ℕ) → AreFront p.classes is.scripts p.mutators scripts until →
    KeepBelow lines (length (above_of is) + until)
keep_front law lines p is scripts until front = λ j line below at ends q of.
    let whole : (take j lines ++ Ends ∷ []) ++ drop (j + 1) lines ≡ lines =
    ap (λ w. w ++ drop (j + 1) lines) (ap (λ x. take j lines ++ x ∷ []) (sym ends) ∙ sym (take_next lines j line at)) ∙ take-append-drop (j + 1) lines in
    elim (scripts_some (StandsFor q.classes) of.scripts q.mutators of.are_scripts) [
      | inl e ↦ (let s = ap total_of e.0 in omega arith, let s = ap finals_of e.0 in omega arith)
      | inr t ↦
          let begin : AtBegin (of.scripts ++ drop (j + 1) lines) = subst (λ w. AtBegin (w ++ drop (j + 1) lines)) (sym t.1) refl in
          let cut = part (above_of of) (above_of is) (of.scripts ++ drop (j + 1) lines) is.scripts (above_plain of) (above_plain is)
          (sym (append_assoc (above_of of) of.scripts (drop (j + 1) lines)) ∙ ap (λ w. w ++ drop (j + 1) lines) (sym of.in_order) ∙ whole ∙ is.in_order)
          begin (scripts_begin (StandsFor p.classes) is.scripts p.mutators is.are_scripts) in
          let classes : q.classes ≡ p.classes = above_classes of ∙ ap classes_in cut.0 ∙ sym (above_classes is) in
          let moved : AreScripts (StandsFor p.classes) of.scripts q.mutators = subst (λ cs. AreScripts (StandsFor cs) of.scripts q.mutators) classes of.are_scripts in
          let l0 = ap length of.in_order in let l1 = length-append (above_of of) of.scripts in let l2 = length-append (take j lines) (Ends ∷ []) in
          let l3 = length-take-le j lines (let w = slice_get_within lines j line at in let v : j ≤ length lines = omega arith in v) in let l4 = ap length cut.0 in
          let short : length of.scripts ≤ until = omega arith in
          let k = front_of law p.classes q.mutators scripts of.scripts front.done front.todo (drop (j + 1) lines) until moved front.first (cut.1 ∙ front.parts) front.next short in
          let s = ap total_of k.1 in let s1 = sum_by-append (λ (script : Script). length (written_out script.items)) q.mutators k.0 in let s2 = front.statements in
          let f = ap finals_of k.1 in let f1 = sum_by-append (λ (script : Script). count_by is_final (written_out script.items)) q.mutators k.0 in let f2 = front.finals in
          (omega arith, omega arith)
    ]
