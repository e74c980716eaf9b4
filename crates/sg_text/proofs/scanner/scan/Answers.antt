use Rattle.std.proofs.Common.{ℕ, ◌≤◌, ◌+◌, suc, List, [], ◌∷◌, ◌++◌, length, map, subst, sym, ap, ◌∙◌, arith}
use Rattle.std.proofs.lemmas.List.{map-append}
use Rattle.sg_text.specs.declared.line.Line.{Line}
use Rattle.sg_text.specs.Words.{lines_of}
use Rattle.sg_text.specs.Lines.{Sentence}
use Rattle.sg_text.specs.Reading.{sentence_of}
use Rattle.sg_text.specs.Steps.{first_line, lines_left, lines_below, SaysMaybe}
use Rattle.sg_text.proofs.ScanLemmas.{ScanSoFar, scan_blank, scan_line, scan_wrong, left_front, left_smaller}
use Rattle.sg_text.proofs.LineWords.{lines_front}
use Rattle.sg_text.proofs.scanner.scan.Goals as goal
use Rattle.sg_text.proofs.scanner.scan.Goals.{in-Some-said+in_ok-push+in_ok-push-2, in_default-said}

abbrev says : List Line → List Sentence
says lines = map sentence_of lines

pub loop-rest-preserved : goal.loop-rest-preserved
loop-rest-preserved c =
    let from : List ℕ = c.in-Some.from.now in
    let heard = c.in-Some-hear_line.heard in
    let front = left_front from heard.rest c.in-Some-hear_line.ensures.rest in
    let smaller = left_smaller from heard.rest c.in-Some-hear_line.ensures.shorter in
    let number : ℕ = c.loop-rest.number in
    let numbers : List ℕ = c.loop-rest.numbers.items in
    let said : List Sentence = says c.loop-rest.lines.items in
    let few : number + suc (length from) ≤ suc (length c.args.bytes.now) = rw c.in-Some.is at c.loop-rest.invariant.few in
    let so_far : ScanSoFar (lines_of c.args.bytes.now) (lines_of from) number numbers said = rw c.in-Some.is at c.loop-rest.invariant.so_far in
    record {
      so_far = elim c.match-heard.branch [
        | in-Some-said+in_ok-push+in_ok-push-2 w ↦
            let line = w.in-Some-said.line in
            let is = subst (SaysMaybe (first_line from)) w.in-Some-said.is c.in-Some-hear_line.ensures.said in
            let lines_are = ap says (ap (λ v. v.items) w.lines-is ∙ w.in_ok-push.ensures.items) ∙ map-append sentence_of c.loop-rest.lines.items (line ∷ []) in
            let numbers_are = ap (λ v. v.items) w.numbers-is ∙ w.in_ok-push-2.ensures.items in
            let more = scan_line (lines_of c.args.bytes.now) (lines_of from) number numbers said (first_line from) (lines_left heard.rest) (sentence_of line) so_far front is in
            subst (λ (s : List Sentence). ScanSoFar (lines_of c.args.bytes.now) (lines_left heard.rest) (number + 1) c.match-heard.numbers.items s) (sym lines_are)
            (subst (λ (n : List ℕ). ScanSoFar (lines_of c.args.bytes.now) (lines_left heard.rest) (number + 1) n (said ++ sentence_of line ∷ [])) (sym numbers_are) more)
        | in_default-said w ↦
            let is = subst (SaysMaybe (first_line from)) w.in_default-said.is c.in-Some-hear_line.ensures.said in
            let more = scan_blank (lines_of c.args.bytes.now) (lines_of from) number numbers said (first_line from) (lines_left heard.rest) so_far front is in
            subst (λ (s : List Sentence). ScanSoFar (lines_of c.args.bytes.now) (lines_left heard.rest) (number + 1) c.match-heard.numbers.items s) (sym (ap (λ v. says v.items) w.lines-is))
            (subst (λ (n : List ℕ). ScanSoFar (lines_of c.args.bytes.now) (lines_left heard.rest) (number + 1) n said) (sym (ap (λ v. v.items) w.numbers-is)) more)
      ];
      few = omega (arith, few, smaller);
    }

pub returns-in_default-hear_line : goal.returns-in_default-hear_line
returns-in_default-hear_line c =
    let from : List ℕ = c.in-Some.from.now in
    let so_far : ScanSoFar (lines_of c.args.bytes.now) (lines_of from) c.loop-rest.number c.loop-rest.numbers.items (says c.loop-rest.lines.items) = rw c.in-Some.is at c.loop-rest.invariant.so_far in
    scan_wrong (lines_of c.args.bytes.now) (lines_of from) c.loop-rest.number c.loop-rest.numbers.items (says c.loop-rest.lines.items) (first_line from) (lines_below from) so_far (lines_front from) c.in_default-hear_line.ensures.none
