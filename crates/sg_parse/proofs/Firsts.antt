-- The first sentence with a fault, line after line.
use Rattle.std.proofs.Common.{◌≡◌, ℕ, ◌+◌, ◌<◌, ◌≤◌, inl, inr, Some, List, [], ◌∷◌, ◌++◌, map, length, take, get_or, slice_get, sym, ap, subst, ◌∙◌, arith}
use Rattle.std.specs.Option.{option_map}
use Rattle.std.proofs.lemmas.Bool.{cases_lt}
use Rattle.std.proofs.lemmas.Grind.{flat_map-append}
use Rattle.std.proofs.lemmas.List.{append-nil, take_more, take_all, length-map}
use Rattle.std.proofs.lemmas.Option.{slice_get-map, slice_get_within, slice_get-get_or, same_Some, get_or_from_slice_get}
use Rattle.sg_program.specs.declared.program.Class.{Class}
use Rattle.sg_text.specs.declared.line.Line.{Line}
use Rattle.sg_text.specs.Lines.{Sentence}
use Rattle.sg_limits.specs.Faults.{class_in, classes_in, IsMisnamed}
use Rattle.sg_parse.specs.Names.{Misnames}
use Rattle.sg_text.specs.Reading.{sentence_of}
use Rattle.sg_parse.specs.Indices.{IsFirstIn, HasNoneIn}

-- none of the first i sentences has the fault
abbrev pub HasNoneBelow : (List Sentence → Sentence → Type 0) → List Sentence → ℕ → Type 0
HasNoneBelow Fault lines i = (j : ℕ) (line : Sentence) → j < i → slice_get lines j ≡ Some line → ¬ Fault (take j lines) line

pub sentence_at : (lines : List Line) (i : ℕ) (d : Line) → i < length lines → slice_get (map sentence_of lines) i ≡ Some (sentence_of (get_or lines i d))
sentence_at lines i d within = slice_get-map sentence_of lines i ∙ ap (option_map sentence_of) (slice_get-get_or lines i d within)

pub take_next : (lines : List Sentence) (i : ℕ) (line : Sentence) → slice_get lines i ≡ Some line → take (i + 1) lines ≡ take i lines ++ line ∷ []
take_next lines i line at = take_more lines i line (slice_get_within lines i line at) ∙ ap (λ (l : Sentence). take i lines ++ l ∷ []) (get_or_from_slice_get lines i line line at)

pub none_more : (Fault : List Sentence → Sentence → Type 0) (lines : List Sentence) (i : ℕ) (line : Sentence) → HasNoneBelow Fault lines i → slice_get lines i ≡ Some line → ¬ Fault (take i lines) line → HasNoneBelow Fault lines (i + 1)
none_more Fault lines i line below at fine j other within there =
    elim (cases_lt j i) [
      | inl less ↦ below j other less there
      | inr more ↦
          let same : i ≡ j = omega arith in
          let equal : line ≡ other = same_Some line other (sym at ∙ ap (λ (k : ℕ). slice_get lines k) same ∙ there) in
          subst (λ (k : ℕ). ¬ Fault (take k lines) other) same (subst (λ (l : Sentence). ¬ Fault (take i lines) l) equal fine)
    ]

pub none_all : (Fault : List Sentence → Sentence → Type 0) (lines : List Sentence) (i : ℕ) → HasNoneBelow Fault lines i → length lines ≤ i → HasNoneIn Fault lines
none_all Fault lines i below all j line there = below j line (omega (arith, slice_get_within lines j line there)) there

pub first_here : (Fault : List Sentence → Sentence → Type 0) (lines : List Sentence) (i : ℕ) (line : Sentence) → HasNoneBelow Fault lines i → slice_get lines i ≡ Some line → Fault (take i lines) line → IsFirstIn Fault lines i
first_here Fault lines i line below at fault = ((line, at, fault), below)

pub classes_next : (lines : List Sentence) (i : ℕ) (line : Sentence) (classes after : List Class) → classes ≡ classes_in (take i lines) → slice_get lines i ≡ Some line → after ≡ classes ++ class_in line → after ≡ classes_in (take (i + 1) lines)
classes_next lines i line classes after same at e =
    e ∙ ap (λ (cs : List Class). cs ++ class_in line) same ∙ ap (λ (cs : List Class). classes_in (take i lines) ++ cs) (sym (append-nil (class_in line))) ∙ sym (flat_map-append class_in (take i lines) (line ∷ [])) ∙ ap classes_in (sym (take_next lines i line at))

-- ---- the names of lines

pub name_stop : (lines : List Line) (i : ℕ) (d : Line) (classes : List Class) → classes ≡ classes_in (take i (map sentence_of lines)) → HasNoneBelow IsMisnamed (map sentence_of lines) i → i < length lines
    → Misnames classes (sentence_of (get_or lines i d)) → IsFirstIn IsMisnamed (map sentence_of lines) i
name_stop lines i d classes same below within wrong =
    first_here IsMisnamed (map sentence_of lines) i (sentence_of (get_or lines i d)) below (sentence_at lines i d within) (subst (λ (cs : List Class). Misnames cs (sentence_of (get_or lines i d))) same wrong)

pub name_more : (lines : List Line) (i : ℕ) (d : Line) (classes : List Class) → classes ≡ classes_in (take i (map sentence_of lines)) → HasNoneBelow IsMisnamed (map sentence_of lines) i → i < length lines
    → ¬ Misnames classes (sentence_of (get_or lines i d)) → HasNoneBelow IsMisnamed (map sentence_of lines) (i + 1)
name_more lines i d classes same below within right =
    none_more IsMisnamed (map sentence_of lines) i (sentence_of (get_or lines i d)) below (sentence_at lines i d within) (subst (λ (cs : List Class). ¬ Misnames cs (sentence_of (get_or lines i d))) same right)

pub name_class : (lines : List Line) (i : ℕ) (d : Line) (classes after : List Class) → classes ≡ classes_in (take i (map sentence_of lines)) → i < length lines
    → after ≡ classes ++ class_in (sentence_of (get_or lines i d)) → after ≡ classes_in (take (i + 1) (map sentence_of lines))
name_class lines i d classes after same within e = classes_next (map sentence_of lines) i (sentence_of (get_or lines i d)) classes after same (sentence_at lines i d within) e

pub name_end : (lines : List Line) (i : ℕ) (classes : List Class) → classes ≡ classes_in (take i (map sentence_of lines)) → HasNoneBelow IsMisnamed (map sentence_of lines) i → length lines ≤ i
    → HasNoneIn IsMisnamed (map sentence_of lines) × (classes ≡ classes_in (map sentence_of lines))
name_end lines i classes same below all =
    let long : length (map sentence_of lines) ≤ i = omega (arith, length-map lines sentence_of) in
    (none_all IsMisnamed (map sentence_of lines) i below long, same ∙ ap classes_in (take_all i (map sentence_of lines) long))
