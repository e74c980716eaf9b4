-- The limits of single lines.
use Rattle.std.proofs.Common.{◌≡◌, ℕ, ◌+◌, ◌-◌, ◌≤◌, Bool, cond, Some, None, List, [], ◌∷◌, ◌++◌, length, take, slice_get, inl, inr, sym, ap, ◌∙◌, arith}
use Rattle.std.specs.List.{count_by}
use Rattle.std.proofs.lemmas.Bool.{cases_eq}
use Rattle.std.proofs.lemmas.List.{append-nil, length-append, length-take-le}
use Rattle.std.proofs.lemmas.List.Sums.{count_by-le-length}
use Rattle.std.proofs.lemmas.Grind.{flat_map-append}
use Rattle.std.proofs.lemmas.List.Concat.{flat_map-cons}
use Rattle.sg_text.specs.Lines.{Sentence, Declares}
use Rattle.sg_limits.proofs.Taken.{take_next, count-push}
use Rattle.sg_limits.specs.Faults.{classes_in, class_in, open_behind, is_opening, is_ending, is_begin}
use Rattle.sg_limits.specs.LineLimits.{line_fault, fault_behind, HasNoLineFault}

-- the counts of the first i lines, of which none breaks a limit by itself
pub record AreAbove (lines : List Sentence) (i classes opened ended begun : ℕ) : Type 0 where
  pub classes_are : classes ≡ length (classes_in (take i lines))
  pub opened_are : opened ≡ count_by is_opening (take i lines)
  pub ended_are : ended ≡ count_by is_ending (take i lines)
  pub begun_are : begun ≡ count_by is_begin (take i lines)
  pub none : HasNoLineFault lines i

classes-push : (before : List Sentence) (line : Sentence) → classes_in (before ++ line ∷ []) ≡ classes_in before ++ class_in line
classes-push before line = flat_map-append class_in before (line ∷ []) ∙ ap (λ x. classes_in before ++ x) (append-nil (class_in line))

count_next : (p : Sentence → Bool) (lines : List Sentence) (i n m : ℕ) (line : Sentence) → slice_get lines i ≡ Some line → n ≡ count_by p (take i lines) →
    m ≡ n + cond (p line) 1 0 → m ≡ count_by p (take (i + 1) lines)
count_next p lines i n m line at before after = after ∙ ap (λ x. x + cond (p line) 1 0) before
    ∙ sym (ap (count_by p) (take_next lines i line at) ∙ count-push p (take i lines) line)

pub fault_here : (lines : List Sentence) (i classes opened ended begun : ℕ) → AreAbove lines i classes opened ended begun → (line : Sentence) →
    line_fault classes (opened - ended) begun line ≡ fault_behind (take i lines) line
fault_here lines i classes opened ended begun above line =
    ap (λ x. line_fault x (opened - ended) begun line) above.classes_are ∙ ap (λ x. line_fault (length (classes_in (take i lines))) (x - ended) begun line)
    above.opened_are
    ∙ ap (λ x. line_fault (length (classes_in (take i lines))) (count_by is_opening (take i lines) - x) begun line) above.ended_are
    ∙ ap (λ x. line_fault (length (classes_in (take i lines))) (open_behind (take i lines)) x line) above.begun_are

none_more : (lines : List Sentence) (i : ℕ) (line : Sentence) → slice_get lines i ≡ Some line → HasNoLineFault lines i →
    fault_behind (take i lines) line ≡ None → HasNoLineFault lines (i + 1)
none_more lines i line at before here = λ j other below there. elim (cases_eq j i) [
  | inl e ↦ let same : Some line ≡ Some other = sym at ∙ ap (slice_get lines) (sym e) ∙ there in
      let line_same : other ≡ line = cc in
      ap (λ k. fault_behind (take k lines) other) e ∙ ap (fault_behind (take i lines)) line_same ∙ here
  | inr o ↦ before j other (omega arith) there
]

pub one_more : (lines : List Sentence) (i classes opened ended begun classes1 opened1 ended1 begun1 : ℕ) (line : Sentence) →
    AreAbove lines i classes opened ended begun →
    slice_get lines i ≡ Some line → line_fault classes (opened - ended) begun line ≡ None →
    classes1 ≡ classes + length (class_in line) → opened1 ≡ opened + cond (is_opening line) 1 0 → ended1 ≡ ended + cond (is_ending line) 1 0 →
    begun1 ≡ begun + cond (is_begin line) 1 0 →
    AreAbove lines (i + 1) classes1 opened1 ended1 begun1
one_more lines i classes opened ended begun classes1 opened1 ended1 begun1 line above at fine c o e b = record {
  classes_are = c ∙ ap (λ x. x + length (class_in line)) above.classes_are
      ∙ sym (ap (λ x. length (classes_in x)) (take_next lines i line at) ∙ ap length (classes-push (take i lines) line)
      ∙ length-append (classes_in (take i lines)) (class_in line));
  opened_are = count_next is_opening lines i opened opened1 line at above.opened_are o;
  ended_are = count_next is_ending lines i ended ended1 line at above.ended_are e;
  begun_are = count_next is_begin lines i begun begun1 line at above.begun_are b;
  none = none_more lines i line at above.none (sym (fault_here lines i classes opened ended begun above line) ∙ fine);
}

class_one : (line : Sentence) → length (class_in line) ≤ 1
class_one (Declares name shape) = omega arith
class_one line = omega arith

classes_few : (lines : List Sentence) → length (classes_in lines) ≤ length lines
classes_few [] = omega arith
classes_few (x ∷ xs) = let p = length-append (class_in x) (classes_in xs) in let q = class_one x in let r = classes_few xs in
    let s = flat_map-cons class_in x xs in let t = ap length s in omega arith

-- no count is greater than the number of lines
pub record AreFew (n classes opened ended begun : ℕ) : Type 0 where
  pub classes_few : classes ≤ n
  pub opened_few : opened ≤ n
  pub ended_few : ended ≤ n
  pub begun_few : begun ≤ n

pub few : (lines : List Sentence) (i classes opened ended begun : ℕ) → i ≤ length lines → AreAbove lines i classes opened ended begun →
    AreFew i classes opened ended begun
few lines i classes opened ended begun within above =
    let n = length-take-le i lines within in
    let c = classes_few (take i lines) in
    let o = count_by-le-length is_opening (take i lines) in
    let e = count_by-le-length is_ending (take i lines) in
    let b = count_by-le-length is_begin (take i lines) in
    let q = above.classes_are in let r = above.opened_are in let s = above.ended_are in let t = above.begun_are in
    record { classes_few = omega arith; opened_few = omega arith; ended_few = omega arith; begun_few = omega arith }
