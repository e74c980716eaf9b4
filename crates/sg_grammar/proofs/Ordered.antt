-- What a reader knows of the lines that it has read.
use Rattle.std.proofs.Common.{◌≡◌, ℕ, zero, suc, ◌+◌, ◌<◌, ◌≤◌, Bool, true, false, Option, Some, None, List, [], ◌∷◌, ◌++◌, length, map, take, refl, sym, ap, ◌∙◌, arith, add-one}
use Rattle.std.proofs.lemmas.List.{take_all, length-map}
use Rattle.std.specs.List.{slice_get, slice_index_or}
use Rattle.sg_text.specs.declared.line.Line.{Line}
use Rattle.sg_grammar.specs.declared.order.Place.{Place}
use Rattle.sg_grammar.specs.declared.order.Place.TheVariants.{Start, Settings, Classes, Within, Outside}
use Rattle.sg_text.specs.Lines.{Sentence, Heads, Sets, Begins, Repeats, Ends}
use Rattle.sg_grammar.specs.Text.{IsWholeText, IsPrefix, CanGoOn}
use Rattle.sg_text.specs.Reading.{sentence_of}
use Rattle.sg_grammar.specs.Order.{index_of, marked, next, depth_of, may_end_at}
use Rattle.sg_grammar.proofs.Runs.{run, run-append, stopped}
use Rattle.sg_grammar.proofs.Stands.{are_whole, are_prefix, not_whole}

-- what the first i lines say
abbrev pub said_by : List Line → ℕ → List Sentence
said_by lines i = take i (map sentence_of lines)

take_more : (lines : List Line) (i : ℕ) (d : Line) → i < length lines → said_by lines (suc i) ≡ said_by lines i ++ sentence_of (slice_index_or lines i d) ∷ []
take_more [] i d b = absurd (omega arith)
take_more (x ∷ lines) zero d b = refl
take_more (x ∷ lines) (suc i) d b = ap (λ l. sentence_of x ∷ l) (take_more lines i d (omega arith))

turn : (lines : List Line) (i : ℕ) (d : Line) (place : Place) → i < length lines → run (Some Start) (said_by lines i) ≡ Some place →
    run (Some Start) (said_by lines (suc i)) ≡ next place (sentence_of (slice_index_or lines i d))
turn lines i d place b e =
    let line = sentence_of (slice_index_or lines i d) in
    ap (run (Some Start)) (take_more lines i d b) ∙ run-append (Some Start) (said_by lines i) (line ∷ []) ∙ ap (λ o. run o (line ∷ [])) e

pub goes_on : (lines : List Line) (i : ℕ) (d : Line) (place after : Place) → i < length lines → run (Some Start) (said_by lines i) ≡ Some place →
    next place (sentence_of (slice_index_or lines i d)) ≡ Some after → run (Some Start) (said_by lines (i + 1)) ≡ Some after
goes_on lines i d place after b e n = ap (λ k. run (Some Start) (said_by lines k)) (add-one i) ∙ turn lines i d place b e ∙ n

depth_at : Option Place → ℕ
depth_at None = 0
depth_at (Some place) = depth_of place

depth_marked : (given : List Bool) (at : ℕ) (o : Option Bool) → depth_at (marked given at o) ≤ 1
unfolding depth_at
depth_marked given at None = omega arith
depth_marked given at (Some true) = omega arith
depth_marked given at (Some false) = omega arith

depth_next : (place : Place) (line : Sentence) → depth_at (next place line) ≤ suc (depth_of place)
unfolding depth_at
depth_next Start Heads = omega arith
depth_next Start line = omega arith
depth_next (Settings given) (Sets at n) = depth_marked given (index_of at) (slice_get given (index_of at))
depth_next (Settings given) line = omega arith
depth_next Classes Begins = omega arith
depth_next Classes line = omega arith
depth_next (Within zero) Ends = omega arith
depth_next (Within (suc depth)) Ends = omega arith
depth_next (Within depth) (Repeats times) = omega arith
depth_next (Within depth) line = omega arith
depth_next Outside Begins = omega arith
depth_next Outside line = omega arith

pub depth_after : (place after : Place) (line : Sentence) (i : ℕ) → next place line ≡ Some after → depth_of place ≤ i → depth_of after ≤ i + 1
unfolding depth_at
depth_after place after line i e b = let h = depth_next place line in let q : depth_at (next place line) ≡ depth_of after = ap depth_at e in omega arith

pub misplaced : (lines : List Line) (i : ℕ) (d : Line) (place : Place) → i < length lines → run (Some Start) (said_by lines i) ≡ Some place →
    next place (sentence_of (slice_index_or lines i d)) ≡ None → (i < length lines) × IsPrefix (said_by lines i) × ¬ CanGoOn (said_by lines (suc i))
misplaced lines i d place b e n = (b, are_prefix (said_by lines i) place e, stopped (said_by lines (suc i)) (turn lines i d place b e ∙ n))

all : (lines : List Line) (i : ℕ) → length lines ≤ i → said_by lines i ≡ map sentence_of lines
all lines i b = let l = length-map lines sentence_of in take_all i (map sentence_of lines) (omega arith)

pub whole_read : (lines : List Line) (i : ℕ) (place : Place) → length lines ≤ i → run (Some Start) (said_by lines i) ≡ Some place → may_end_at place ≡ true → IsWholeText (map sentence_of lines)
whole_read lines i place b e t = are_whole (map sentence_of lines) place (ap (run (Some Start)) (sym (all lines i b)) ∙ e) t

pub part_read : (lines : List Line) (i : ℕ) (place : Place) → length lines ≤ i → run (Some Start) (said_by lines i) ≡ Some place → may_end_at place ≡ false →
    IsPrefix (map sentence_of lines) × ¬ IsWholeText (map sentence_of lines)
part_read lines i place b e t =
    let r = ap (run (Some Start)) (sym (all lines i b)) ∙ e in
    (are_prefix (map sentence_of lines) place r, not_whole (map sentence_of lines) place r t)
