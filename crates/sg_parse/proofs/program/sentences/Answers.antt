use Rattle.std.proofs.Common.{ℕ, ◌<◌, List, length, map, suc, take, slice_get, refl, sym, ap, ◌∙◌, subst, arith}
use Rattle.std.proofs.lemmas.List.{length-map}
use Rattle.sg_text.specs.declared.line.Line.{Line}
use Rattle.sg_text.specs.Words.{lines_of}
use Rattle.sg_text.specs.Lines.{Sentence}
use Rattle.sg_text.specs.Reading.{sentence_of, IsScan}
use Rattle.sg_grammar.specs.Text.{IsWholeText, IsPrefix, CanGoOn}
use Rattle.sg_parse.proofs.Refused.{as_many_numbers, at_misplaced, at_wrong, at_wrong_whole, at_end}
use Rattle.sg_parse.proofs.program.sentences.Goals as goal

abbrev said : List Line → List Sentence
said lines = map sentence_of lines

pub number_at-requires : goal.number_at-requires
number_at-requires c =
    let m = c.in-Misplaced.ensures.misplaced c.in-Misplaced.index refl in
    let below : c.in-Misplaced.index < length c.as_slice.result.now = m.0 in
    let many = as_many_numbers _ _ _ _ c.in-Ok.ensures in
    let l = length-map c.in-Ok.scan.lines.items sentence_of in
    let a = ap length c.as_slice.ensures.value in
    let b = ap length c.as_slice-in-Misplaced.ensures.value in
    omega (arith, below)

pub returns-in-Misplaced-clause-refused : goal.returns-in-Misplaced-clause-refused
returns-in-Misplaced-clause-refused c =
    let m = c.in-Misplaced.ensures.misplaced c.in-Misplaced.index refl in
    let e = c.as_slice.ensures.value in
    let below : c.in-Misplaced.index < length c.as_slice.result.now = m.0 in
    let l = length-map c.in-Ok.scan.lines.items sentence_of in
    let a = ap length e in
    let within : c.in-Misplaced.index < length (said c.in-Ok.scan.lines.items) = omega (arith, below) in (
      c.requires,
      at_misplaced c.one_saying.ensures (lines_of c.args.bytes.now) _ (said c.in-Ok.scan.lines.items) _ c.in-Misplaced.index _ c.in-Ok.ensures
          (ap (λ (z : List ℕ). slice_get z c.in-Misplaced.index) (sym c.as_slice-in-Misplaced.ensures.value) ∙ c.number_at.ensures) within
          (subst (λ (z : List Line). IsPrefix (take c.in-Misplaced.index (said z))) e m.1)
          (subst (λ (z : List Line). ¬ CanGoOn (take (suc c.in-Misplaced.index) (said z))) e m.2),
    )

pub returns-in-Above : goal.returns-in-Above
returns-in-Above c = record {
  read = tt;
  whole = tt;
  count = tt;
  refused = (
    c.requires,
    at_wrong_whole c.one_saying.ensures (lines_of c.args.bytes.now) _ (said c.in-Ok.scan.lines.items) c.in-Above.wrong (subst (IsScan _ _ _) c.in-Above.is c.in-Ok.ensures)
        (subst (λ (z : List Line). IsWholeText (said z)) c.as_slice.ensures.value (c.in-Whole.ensures.whole refl)),
  );
}

pub returns-in-Above-extent-clause-refused : goal.returns-in-Above-extent-clause-refused
returns-in-Above-extent-clause-refused c = (
  c.requires,
  at_wrong c.one_saying.ensures (lines_of c.args.bytes.now) _ (said c.in-Ok.scan.lines.items) c.in-Above-extent.wrong (subst (IsScan _ _ _) c.in-Above-extent.is c.in-Ok.ensures)
      (subst (λ (z : List Line). IsPrefix (said z)) c.as_slice.ensures.value (c.in-Unfinished.ensures.unfinished refl).0),
)

pub returns-clause-refused : goal.returns-clause-refused
returns-clause-refused c = (
  c.requires,
  at_end c.one_saying.ensures (lines_of c.args.bytes.now) _ (said c.in-Ok.scan.lines.items) c.in-Whole-extent-2.lines (subst (IsScan _ _ _) c.in-Whole-extent-2.is c.in-Ok.ensures)
      (subst (λ (z : List Line). IsPrefix (said z)) c.as_slice.ensures.value (c.in-Unfinished.ensures.unfinished refl).0)
      (subst (λ (z : List Line). ¬ IsWholeText (said z)) c.as_slice.ensures.value (c.in-Unfinished.ensures.unfinished refl).1),
)
