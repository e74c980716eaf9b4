-- Where the scripts of a text begin, and what is known of the lines before a fault.
use Rattle.std.proofs.Common.{◌≡◌, ◌⊎◌, ℕ, zero, suc, ◌+◌, ◌-◌, ◌<◌, ◌≤◌, Some, List, [], ◌∷◌, ◌++◌, length, take, drop, get_or, slice_get, inl, inr, sym, refl, ap, ◌∙◌, subst, zero-add, arith}
use Rattle.std.specs.List.{AllByRecursion}
use Rattle.std.proofs.lemmas.Bool.{cases_lt}
use Rattle.std.proofs.lemmas.List.{length-append, length-take-le, length-drop, take-append-drop}
use Rattle.std.proofs.lemmas.Option.{slice_get_within, slice_get-get_or}
use Rattle.std.proofs.Math.Seq.{take-append_seam, drop-append_seam}
use Rattle.sg_program.specs.declared.program.Class.{Class}
use Rattle.sg_program.specs.declared.program.Script.{Script}
use Rattle.sg_program.specs.declared.program.Program.{Program}
use Rattle.sg_grammar.specs.Laws.{HaveOneProgram}
use Rattle.sg_limits.specs.Laws.{HaveLineLimits}
use Rattle.sg_limits.specs.declared.which.Which.{Which}
use Rattle.sg_limits.specs.declared.which.Which.TheVariants.{Statements, Finals}
use Rattle.sg_parse.specs.declared.scripts.Scripts.TheVariants.{Read, Heavy}
use Rattle.sg_text.specs.Lines.{Sentence, Heads, Begins}
use Rattle.sg_grammar.specs.Text.{AreScripts, IsProgram, StandsFor}
use Rattle.sg_limits.specs.Faults.{classes_in, class_in, is_ending, Breaks, BreaksSome}
use Rattle.sg_parse.specs.Building.{AreFront, IsHeavy, AreScriptsRead}
use Rattle.sg_limits.specs.LineLimits.{HasSmallNumbers, HasNoLineFault}
use Rattle.sg_parse.proofs.Taken.{take_next}
use Rattle.sg_parse.proofs.BuildLemmas.{classes-push}
use Rattle.sg_parse.proofs.NamedProgram.{all_at}
use Rattle.sg_parse.proofs.BuildEnd.{IsPlain, above_of, above_plain, above_classes, KeepBelow, keep_front}

pub get_take : {A : Type 0} (xs : List A) (n j : ℕ) (x : A) → slice_get (take n xs) j ≡ Some x → (j < n) × (slice_get xs j ≡ Some x)
get_take [] zero j x e = absurd cc
get_take [] (suc n) j x e = absurd cc
get_take (y ∷ ys) zero j x e = absurd cc
get_take (y ∷ ys) (suc n) zero x e = (omega arith, e)
get_take (y ∷ ys) (suc n) (suc j) x e = let h = get_take ys n j x e in let h0 = h.0 in (omega arith, h.1)

pub take_get : {A : Type 0} (xs : List A) (n j : ℕ) (x : A) → j < n → slice_get xs j ≡ Some x → slice_get (take n xs) j ≡ Some x
take_get [] n j x l e = absurd cc
take_get (y ∷ ys) zero j x l e = absurd (omega arith)
take_get (y ∷ ys) (suc n) zero x l e = e
take_get (y ∷ ys) (suc n) (suc j) x l e = take_get ys n j x (omega arith) e

get_drop : {A : Type 0} (xs : List A) (n j : ℕ) (x : A) → slice_get (drop n xs) j ≡ Some x → slice_get xs (n + j) ≡ Some x
get_drop xs zero j x e = ap (slice_get xs) (zero-add j) ∙ e
get_drop [] (suc n) j x e = absurd cc
get_drop (y ∷ ys) (suc n) j x e = let k : suc n + j ≡ suc (n + j) = omega arith in ap (slice_get (y ∷ ys)) k ∙ get_drop ys n j x e

pub get_seam : {A : Type 0} (xs ys : List A) (y : A) → slice_get (xs ++ y ∷ ys) (length xs) ≡ Some y
get_seam [] ys y = refl
get_seam (x ∷ xs) ys y = get_seam xs ys y

pub plain_get : (above r : List Sentence) (j : ℕ) (x : Sentence) → AllByRecursion IsPlain above → j < length above → slice_get (above ++ r) j ≡ Some x →
    IsPlain x
plain_get [] r j x a l e = absurd (omega arith)
plain_get (y ∷ ys) r zero x a l e = let same : y ≡ x = cc in subst IsPlain same a.0
plain_get (y ∷ ys) r (suc j) x a l e = plain_get ys r j x a.1 (omega arith) e

-- ---- the lines before a fault

pub no_fault_below : (lines : List Sentence) (m n : ℕ) → m ≤ n → HasNoLineFault lines n → HasNoLineFault lines m
no_fault_below lines m n l none = λ j line below at. none j line (omega arith) at

module _ (limits : HaveLineLimits) where
  few_classes : (lines : List Sentence) (n : ℕ) → n ≤ length lines → HasNoLineFault lines n → length (classes_in (take n lines)) ≤ 256
  few_classes lines zero l none = omega arith
  few_classes lines (suc n) l none =
      let line : Sentence = get_or lines n Heads in
      let at : slice_get lines n ≡ Some (get_or lines n Heads) = slice_get-get_or lines n Heads (omega arith) in
      let before = few_classes lines n (omega arith) (no_fault_below lines n (suc n) (omega arith) none) in
      let room = limits.room (take n lines) (get_or lines n Heads) (none n (get_or lines n Heads) (omega arith) at) before in
      let next : suc n ≡ n + 1 = omega arith in
      let whole = ap (λ k. take k lines) next ∙ take_next lines n (get_or lines n Heads) at in
      let longer = ap (λ x. length (classes_in x)) whole ∙ ap length (classes-push (take n lines) (get_or lines n Heads))
      ∙ length-append (classes_in (take n lines)) (class_in (get_or lines n Heads)) in
      omega arith

  pub smalls : (lines : List Sentence) (end start : ℕ) → HasNoLineFault lines end → start ≤ end →
      AllByRecursion HasSmallNumbers (take (end - start) (drop start lines))
  smalls lines end start none l = all_at HasSmallNumbers (take (end - start) (drop start lines))
      (λ i x at. let t = get_take (drop start lines) (end - start) i x at in let d = get_drop lines start i x t.1 in let t0 = t.0 in
      limits.small (take (start + i) lines) x (none (start + i) x (omega arith) d))

  pub all_small : (lines : List Sentence) → HasNoLineFault lines (length lines) → AllByRecursion HasSmallNumbers lines
  all_small lines none = all_at HasSmallNumbers lines (λ i x at. limits.small (take i lines) x (none i x (slice_get_within lines i x at) at))

  -- a line breaks no limit where there is no fault of lines and nothing counted is too much
  pub none_breaks : (lines : List Sentence) (n : ℕ) → HasNoLineFault lines n → KeepBelow lines n → (j : ℕ) (line : Sentence) → j < n →
      slice_get lines j ≡ Some line → ¬ BreaksSome (take j lines) line
  none_breaks lines n none keep j line below at broken = elim (limits.counted (take j lines) line broken.0 (none j line below at) broken.1) [
    | inl e ↦
        let b : Breaks Statements (take j lines) line = subst (λ w. Breaks w (take j lines) line) e broken.1 in
        let k = keep j line below at b.0 b.2.0 b.2.1 in let k0 = k.0 in let b3 = b.2.2 in omega arith
    | inr e ↦
        let b : Breaks Finals (take j lines) line = subst (λ w. Breaks w (take j lines) line) e broken.1 in
        let k = keep j line below at b.0 b.2.0 b.2.1 in let k1 = k.1 in let b3 = b.2.2 in omega arith
  ]

-- ---- where the scripts begin

pub record Started (above scripts : List Sentence) (end start : ℕ) (found : List Sentence) : Type 0 where
  pub more : List Sentence
  pub parts : found ++ more ≡ scripts
  pub place : ((start ≡ length above) × (start ≤ end) × (length found ≡ end - start)) ⊎ ((end ≤ length above) × (found ≡ []) × (start ≡ end))

pub started : (lines above scripts : List Sentence) (end start : ℕ) → lines ≡ above ++ scripts → AllByRecursion IsPlain above →
    ((scripts ≡ []) ⊎ ((tail : List Sentence) × (scripts ≡ Begins ∷ tail))) →
    end ≤ length lines → start ≤ end → ((j : ℕ) → j < start → ¬ (slice_get (take end lines) j ≡ Some Begins)) →
    (start < end → slice_get (take end lines) start ≡ Some Begins) →
    Started above scripts end start (take (end - start) (drop start lines))
started lines above scripts end start whole plain first within low none here =
    let reached : start < end → length above ≤ start = λ l. elim (cases_lt start (length above)) [
      | inl i ↦
          let at = (get_take lines end start Begins (here l)).1 in
          let p = plain_get above scripts start Begins plain i (ap (λ x. slice_get x start) (sym whole) ∙ at) in let q = p.0 in absurd cc
      | inr o ↦ o
    ] in
    elim (cases_lt (length above) end) [
      | inl inside ↦
          let most : start ≤ length above = elim (cases_lt (length above) start) [
            | inl l ↦ elim first [
              | inl e ↦ let k = ap length whole in let k1 = length-append above scripts in let k2 = ap length e in absurd (omega arith)
              | inr t ↦
                  let at : slice_get lines (length above) ≡ Some Begins = ap (λ x. slice_get x (length above)) (whole ∙ ap (λ s. above ++ s) t.1)
                  ∙ get_seam above t.0 Begins in
                  absurd (none (length above) l (take_get lines end (length above) Begins inside at))
            ]
            | inr o ↦ o
          ] in
          let least : length above ≤ start = elim (cases_lt start (length above)) [ inl l ↦ reached (omega arith) | inr o ↦ o ] in
          let is : start ≡ length above = omega arith in
          let rest : drop start lines ≡ scripts = ap (λ n. drop n lines) is ∙ ap (drop (length above)) whole ∙ drop-append_seam above scripts in
          let long = length-drop start lines in
          record {
            more = drop (end - start) (drop start lines);
            parts = take-append-drop (end - start) (drop start lines) ∙ rest;
            place = inl (is, low, length-take-le (end - start) (drop start lines) (omega arith));
          }
      | inr outside ↦
          let is : start ≡ end = elim (cases_lt start end) [ inl l ↦ let r = reached l in omega arith | inr o ↦ omega arith ] in
          let nothing : end - start ≡ 0 = omega arith in
          let empty : take (end - start) (drop start lines) ≡ [] = ap (λ n. take n (drop start lines)) nothing in
          record { more = scripts; parts = ap (λ x. x ++ scripts) empty; place = inr (outside, empty, is) }
    ]

-- ---- what the scripts come to

pub front_read : (lines : List Sentence) (p : Program) (is : IsProgram (StandsFor p.classes) lines p) (classes : List Class) (found : List Sentence)
    (scripts : List Script) (more : List Sentence) → classes ≡ p.classes →
    found ++ more ≡ is.scripts → length p.classes ≤ 256 → AllByRecursion HasSmallNumbers found → AreScriptsRead classes found (Read scripts) →
    AreFront p.classes is.scripts p.mutators scripts (length found)
front_read lines p is classes found scripts more same parts few small read =
    let read1 : AreScriptsRead p.classes found (Read scripts) = subst (λ cs. AreScriptsRead cs found (Read scripts)) same read in
    subst (λ l. AreFront p.classes l p.mutators scripts (length found)) parts
    (read1 more p.mutators (few, small) (subst (λ l. AreScripts (StandsFor p.classes) l p.mutators) (sym parts) is.are_scripts))

pub heavy_read : (lines : List Sentence) (p : Program) (is : IsProgram (StandsFor p.classes) lines p) (classes : List Class) (found : List Sentence) (index : ℕ)
    (which : Which) (more : List Sentence) → classes ≡ p.classes →
    found ++ more ≡ is.scripts → length p.classes ≤ 256 → AllByRecursion HasSmallNumbers found → AreScriptsRead classes found (Heavy index which) →
    IsHeavy p.classes is.scripts p.mutators index which
heavy_read lines p is classes found index which more same parts few small read =
    let read1 : AreScriptsRead p.classes found (Heavy index which) = subst (λ cs. AreScriptsRead cs found (Heavy index which)) same read in
    subst (λ l. IsHeavy p.classes l p.mutators index which) parts
    (read1 more p.mutators (few, small) (subst (λ l. AreScripts (StandsFor p.classes) l p.mutators) (sym parts) is.are_scripts)).1

module _ (limits : HaveLineLimits) where
  few_of : (lines : List Sentence) (p : Program) (is : IsProgram (StandsFor p.classes) lines p) (end : ℕ) → end ≤ length lines → length (above_of is) ≤ end →
      HasNoLineFault lines end → length p.classes ≤ 256
  few_of lines p is end within l none =
      let whole = ap (take (length (above_of is))) is.in_order ∙ take-append_seam (above_of is) is.scripts in
      let f = few_classes limits lines (length (above_of is)) (omega arith) (no_fault_below lines (length (above_of is)) end l none) in
      let k = ap (λ x. length (classes_in x)) whole in let k1 = ap length (above_classes is) in omega arith

  pub keep_read : (law : HaveOneProgram) → (lines : List Sentence) (p : Program) (is : IsProgram (StandsFor p.classes) lines p) (classes : List Class)
      (end start : ℕ) (found : List Sentence) (scripts : List Script) → classes ≡ p.classes →
      Started (above_of is) is.scripts end start found → end ≤ length lines → HasNoLineFault lines end → AllByRecursion HasSmallNumbers found →
      AreScriptsRead classes found (Read scripts) → KeepBelow lines end
  keep_read law lines p is classes end start found scripts same s within none small read = elim s.place [
    | inl at ↦
        let a0 = at.0 in let a1 = at.1 in let a2 = at.2 in
        let few = few_of lines p is end within (omega arith) none in
        let front = front_read lines p is classes found scripts s.more same s.parts few small read in
        let keep = keep_front law lines p is scripts (length found) front in
        (λ j line below there ends q of. keep j line (omega arith) there ends q of)
    | inr at ↦
        let a0 = at.0 in
        (λ j line below there ends q of.
        let plain = plain_get (above_of is) is.scripts j line (above_plain is) (omega arith) (ap (λ x. slice_get x j) (sym is.in_order) ∙ there) in
        let k = plain.2 in let e = ap is_ending ends in absurd cc)
  ]

  pub few_started : (lines : List Sentence) (p : Program) (is : IsProgram (StandsFor p.classes) lines p) (end start : ℕ) (found : List Sentence) →
      Started (above_of is) is.scripts end start found → end ≤ length lines →
      HasNoLineFault lines end → 0 < length found → (length p.classes ≤ 256) × (start ≡ length (above_of is)) × (length found ≡ end - start)
  few_started lines p is end start found s within none some = elim s.place [
    | inl at ↦ let a0 = at.0 in let a1 = at.1 in (few_of lines p is end within (omega arith) none, at.0, at.2)
    | inr at ↦ let e = ap length at.1 in absurd (omega arith)
  ]

  pub few_all : (lines : List Sentence) (p : Program) (is : IsProgram (StandsFor p.classes) lines p) → HasNoLineFault lines (length lines) →
      length p.classes ≤ 256
  few_all lines p is none = let k = ap length is.in_order in let k1 = length-append (above_of is) is.scripts in
      few_of lines p is (length lines) (let q : length lines ≤ length lines = omega arith in q) (omega arith) none
